-- The writer's replies in the paper's numbers: 0 and the text's length, or the refusal and 0.
use Rattle.std.specs.Prelude.{ℕ, Result, Ok, Err}
use Rattle.refusals.specs.Refusals.{number_of}
use Rattle.refusals.specs.declared.Refusal.{Refusal}
use Rattle.preset.specs.Preset.{Writing}

abbrev pub writing_of : Result ℕ Refusal → Writing
writing_of (Ok length) = record { number = 0; length = length }
writing_of (Err refusal) = record { number = number_of refusal; length = 0 }
