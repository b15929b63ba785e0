-- What a run's loop keeps: the words to go from here give what the whole run gives.
-- Assumes nothing.
use Prim.Native.Nat.{ℕ, suc, ◌+◌, ◌-◌, ◌≤◌, ◌<◌}
use native.Mathlib.Omega.{arith}
use mathlib.Core.Path.{◌≡◌, refl, sym, ap, ◌∙◌}
use mathlib.Core.Bool.{Bool}
use mathlib.Core.List.{List}
use lib.ListN.{length}
use borrow.Author.Tests.{ne_eqb}
use Rattle.device.specs.declared.registers.Registers.{Registers}
use Rattle.words.specs.Outcomes.{Outcome}
use Rattle.words.specs.Word.{word_done}
use Rattle.machine.specs.Run.{ran}

module _ (large : Bool) (n words : ℕ) (r : Registers) (trb : ℕ) (program rom ram : List ℕ) where
  abbrev o : Outcome
  o = word_done large r trb program rom ram

  -- a finished word leaves one fewer to go
  pub ran_on : o.number ≡ 0 → ran large (suc n) words r trb program rom ram ≡ ran large n (words + 1) o.registers o.trb program rom o.ram
  unfolding ran
  ran_on e = rw e

  -- a refused word ends the run with the words done before it
  pub ran-refused : (o.number ≡ 0 → ⊥)
      → ran large (suc n) words r trb program rom ram ≡ record { number = o.number; words = words; value = 0; registers = o.registers; trb = o.trb; ram = o.ram }
  unfolding ran
  ran-refused h = rw (ne_eqb o.number 0 h)

pub ran-none : (large : Bool) (words : ℕ) (r : Registers) (trb : ℕ) (program rom ram : List ℕ) → ran large 0 words r trb program rom ram ≡ record { number = 0; words = words; value = 0; registers = r; trb = trb; ram = ram }
unfolding ran
ran-none large words r trb program rom ram = refl

pub record Going (large : Bool) (count : ℕ) (registers : Registers) (before : ℕ) (program rom lent : List ℕ) (words : ℕ) (q : Registers) (trb : ℕ) (ram : List ℕ) : Type 0 where
  pub within : words ≤ count
  pub long : length ram ≡ length lent
  pub same : ran large count 0 registers before program rom lent ≡ ran large (count - words) words q trb program rom ram

module _ {large : Bool} {count : ℕ} {registers : Registers} {before : ℕ} {program rom lent : List ℕ} {words : ℕ} {q : Registers} {trb : ℕ} {ram : List ℕ}
    (going : Going large count registers before program rom lent words q trb ram) (o : Outcome) (done : o ≡ word_done large q trb program rom ram) (left : words < count) where
  one_more : count - words ≡ suc (count - (words + 1))
  one_more = omega arith

  pub turn : o.number ≡ 0 → length o.ram ≡ length ram → Going large count registers before program rom lent (words + 1) o.registers o.trb o.ram
  turn e l =
      record {
        within = omega arith;
        long = l ∙ going.long;
        same =
            going.same ∙ ap (λ n. ran large n words q trb program rom ram) one_more
            ∙ ran_on large (count - (words + 1)) words q trb program rom ram (sym (ap (λ x. x.number) done) ∙ e)
            ∙ (λ i. ran large (count - (words + 1)) (words + 1) (sym done i).registers (sym done i).trb program rom (sym done i).ram);
      }

  pub stopped : (o.number ≡ 0 → ⊥) → ran large count 0 registers before program rom lent ≡ record { number = o.number; words = words; value = 0; registers = o.registers; trb = o.trb; ram = o.ram }
  stopped h =
      going.same ∙ ap (λ n. ran large n words q trb program rom ram) one_more
      ∙ ran-refused large (count - (words + 1)) words q trb program rom ram (λ e. h (ap (λ x. x.number) done ∙ e))
      ∙ (λ i. record { number = (sym done i).number; words = words; value = 0; registers = (sym done i).registers; trb = (sym done i).trb; ram = (sym done i).ram })

pub finished : {large : Bool} {count : ℕ} {registers : Registers} {before : ℕ} {program rom lent : List ℕ} {words : ℕ} {q : Registers} {trb : ℕ} {ram : List ℕ}
    → Going large count registers before program rom lent words q trb ram → count ≤ words → ran large count 0 registers before program rom lent ≡ record { number = 0; words = count; value = 0; registers = q; trb = trb; ram = ram }
finished {large} {count} {registers} {before} {program} {rom} {lent} {words} {q} {trb} {ram} going h =
    let w = going.within in
    let none : count - words ≡ 0 = omega arith in
    let all : words ≡ count = omega arith in
    going.same ∙ ap (λ n. ran large n words q trb program rom ram) none ∙ ran-none large words q trb program rom ram ∙ (λ i. record { number = 0; words = all i; value = 0; registers = q; trb = trb; ram = ram })
