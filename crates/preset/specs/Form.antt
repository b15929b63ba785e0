-- The writer's form, said of a text alone.
use Rattle.std.specs.Prelude.{◌≡◌, List, [], ◌∷◌, ℕ, zero, suc, ◌+◌, ◌<◌, length}
use Rattle.numbers.specs.Every.{Every}
use Rattle.image.specs.Quoted.{quoted}
use Rattle.image.specs.Lines.{lines}
use Rattle.image.specs.IntelHex.{ending, record_head}

-- "sixteen bytes": a good data record of them at an address, "in capitals", with no character from a (97) on, ended "by a line feed" alone
pub record DataLine (address : ℕ) (line : List ℕ) : Type 0 where
  pub says : record_head line ≡ record { number = 0; kind = 0; address = address; length = 16 }
  pub in_capitals : Every (λ c. c < 97) line
  pub feed_alone : ending line + 1 ≡ length line

-- so many of them, from an address on, "and then `:00000001FF`"
abbrev pub FormLines : ℕ → ℕ → List (List ℕ) → Type 0
FormLines zero address ls = ls ≡ quoted ":00000001FF\n" ∷ []
FormLines (suc records) address [] = ⊥
FormLines (suc records) address (line ∷ ls) = DataLine address line × FormLines records (address + 16) ls

-- "sixteen records"
abbrev pub WritersForm : List ℕ → Type 0
WritersForm text = FormLines 16 0 (lines text)
