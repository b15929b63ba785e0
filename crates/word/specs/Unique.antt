-- Taking apart and building each leave one answer: two that meet the contract are equal.
use Rattle.std.specs.Prelude.{ℕ, ◌≡◌, Bool, Result}
use Rattle.refusals.specs.declared.Refusal.{Refusal}
use Rattle.word.specs.Word.{Taken, taken_apart, number_and_word, built, number_and_bits}
use Rattle.word.specs.declared.Word.{Word}
use Rattle.word.specs.declared.Built.{Built}

abbrev pub OneTaken : Type 0
OneTaken = (large : Bool) (w : ℕ) (x y : Taken) → x ≡ taken_apart large w → y ≡ taken_apart large w → x ≡ y

abbrev pub OneBuilt : Type 0
OneBuilt = (large : Bool) (word : Word) (x y : Built) → x ≡ built large word → y ≡ built large word → x ≡ y

-- and no two answers of the code say the same
abbrev pub OneWord : Type 0
OneWord = (large : Bool) (x y : Result Word Refusal) → number_and_word large x ≡ number_and_word large y → x ≡ y

abbrev pub OneBits : Type 0
OneBits = (x y : Result ℕ Refusal) → number_and_bits x ≡ number_and_bits y → x ≡ y

-- so that two answers of the code that meet the contract are equal
abbrev pub OneTakenApart : Type 0
OneTakenApart =
    (large : Bool) (w : ℕ) (x y : Result Word Refusal) → number_and_word large x ≡ taken_apart large w → number_and_word large y ≡ taken_apart large w → x ≡ y

abbrev pub OneWordBuilt : Type 0
OneWordBuilt =
    (large : Bool) (word : Word) (x y : Result ℕ Refusal) → number_and_bits x ≡ built large word → number_and_bits y ≡ built large word → x ≡ y
