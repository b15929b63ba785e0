-- No two answers of the taker say the same.
use Rattle.std.specs.Prelude.{◌≡◌, ℕ, Bool, Result}
use Rattle.refusals.specs.declared.Refusal.{Refusal}
use Rattle.word.specs.Word.{number_and_bits}
use Rattle.rows.specs.Rows.{number_and_rows, taken_any_rows, built_any_rows}
use Rattle.rows.specs.declared.AnyRows.{AnyRows}

abbrev pub OneRows : Type 0
OneRows = (large : Bool) (x y : Result AnyRows Refusal) → number_and_rows large x ≡ number_and_rows large y → x ≡ y

-- so that two answers that meet the contract are equal, of the taker and of the builder
abbrev pub OneTakenRows : Type 0
OneTakenRows =
    (large : Bool) (w : ℕ) (x y : Result AnyRows Refusal) → number_and_rows large x ≡ taken_any_rows large w → number_and_rows large y ≡ taken_any_rows large w → x ≡ y

abbrev pub OneBuiltRows : Type 0
OneBuiltRows =
    (large : Bool) (rows : AnyRows) (x y : Result ℕ Refusal) → number_and_bits x ≡ built_any_rows large rows → number_and_bits y ≡ built_any_rows large rows → x ≡ y
