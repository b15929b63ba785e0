-- The list of deeds is built of the machine's own steps, test for test as a run is, so it leads where the run leads and counts what it counts.
-- Assumes nothing.
use Prim.Native.Nat.{ℕ, zero, suc, ◌+◌, ◌*◌}
use native.Mathlib.Omega.{arith}
use mathlib.Core.Path.{◌≡◌, refl, ap, ◌∙◌}
use mathlib.Core.Bool.{Bool, true, false, cond, ◌&&◌}
use mathlib.Core.List.{List, [], ◌∷◌, ◌++◌}
use borrow.Author.Tests.{eqb-true, eqb-false, ne_eqb}
use lib.Dec.{eqb}
use Rattle.numbers.proofs.Choices.{of-cond}
use Rattle.device.specs.Device.{chip}
use Rattle.device.specs.Registers.{registers_fit}
use Rattle.device.specs.declared.registers.Registers.{Registers}
use Rattle.words.specs.Outcomes.{Outcome}
use Rattle.words.specs.Word.{word_done}
use Rattle.words.proofs.Frames.{word-refused}
use Rattle.machine.specs.Replies.{Ending, refused_call}
use Rattle.machine.specs.Run.{ran}
use Rattle.machine.specs.Counting.{Finished, none, next}
use Rattle.machine.specs.Events.{lent_fit, kind_done, event_done}
use Rattle.events.specs.Events.{allowed}
use Rattle.machine.proofs.Runs.{ran-none, ran_on, ran-refused}
use Rattle.machine.specs.WordsDone.{interrupt_accepted}
use Rattle.machine.proofs.WordsDone.{counts-interrupts}
use Rattle.accuracy.specs.Deeds.{Call, ended, Deed, word, event, fetched, in_front, words_of, call_deeds, deeds}
use Rattle.accuracy.specs.Listed.{word_deeds, Listed, words_done, words_in, interrupts_in, AsManyAsCounted}

-- ---- a run

module _ (large : Bool) (program rom : List ℕ) where
  -- the deeds ds are words that finish from r, trb and ram on to where e ends, and e counts them
  record Leads (words : ℕ) (r : Registers) (trb : ℕ) (ram : List ℕ) (e : Ending) (ds : List Deed) : Type 0 where
    found : List Registers
    listed : ds ≡ word_deeds large program found
    finished : Finished large program rom found r trb ram e.registers e.trb e.ram
    counted : words + words_in ds ≡ e.words

  leads-nowhere : (words : ℕ) {number value : ℕ} (r : Registers) (trb : ℕ) (ram : List ℕ) → Leads words r trb ram (record { number = number; words = words; value = value; registers = r; trb = trb; ram = ram }) []
  unfolding words_in
  leads-nowhere words r trb ram = record { found = []; listed = refl; finished = none; counted = omega arith }

  run-listed : (n words : ℕ) (r : Registers) (trb : ℕ) (ram : List ℕ) → Leads words r trb ram (ran large n words r trb program rom ram) (words_of large n r trb program rom ram)
  unfolding words_of words_in
  run-listed zero words r trb ram = rw (ran-none large words r trb program rom ram) (leads-nowhere words r trb ram)
  run-listed (suc n) words r trb ram = go (eqb o.number 0) refl (words_of large n o.registers o.trb program rom o.ram) (run-listed n (words + 1) o.registers o.trb o.ram)
    where
      o : Outcome
      o = word_done large r trb program rom ram

      go : (t : Bool) → eqb o.number 0 ≡ t → (more : List Deed) → Leads (words + 1) o.registers o.trb o.ram (ran large n (words + 1) o.registers o.trb program rom o.ram) more
          → Leads words r trb ram (ran large (suc n) words r trb program rom ram) (in_front t (word (fetched large r program) r) more)
      go true e more rest =
          let z = eqb-true o.number 0 e in
          rw (ran_on large n words r trb program rom ram z)
          (record { found = r ∷ rest.found; listed = ap (λ ds. word (fetched large r program) r ∷ ds) rest.listed; finished = next z rest.finished; counted = omega (arith, rest.counted) })
      go false e more rest =
          let h = eqb-false o.number 0 e in
          let u = word-refused large r trb program rom ram h in
          rw (ran-refused large n words r trb program rom ram h, u.0, u.1, u.2) (leads-nowhere words r trb ram)

-- ---- a call

-- a call of kind 0, accepted or refused as a whole
call-listed : (large : Bool) (r : Registers) (trb : ℕ) (c : Call) → c.kind ≡ 0 → Leads large c.program c.rom 0 r trb c.ram (ended large r trb c) (call_deeds large r trb c)
unfolding call_deeds event_done kind_done
call-listed large r trb c e = rw e (go (lent_fit large c.program c.rom c.ram) (registers_fit (chip large) r) (allowed 0 c.value))
  where
    run : Ending
    run = ran large c.value 0 r trb c.program c.rom c.ram

    deeds_of_run : List Deed
    deeds_of_run = words_of large c.value r trb c.program c.rom c.ram

    go : (s t u : Bool) → Leads large c.program c.rom 0 r trb c.ram
        (cond s (cond t (cond u run (refused_call 3 r trb c.ram)) (refused_call 2 r trb c.ram)) (refused_call 1 r trb c.ram)) (cond (s && t && u) deeds_of_run [])
    go true true true = run-listed large c.program c.rom c.value 0 r trb c.ram
    go true true false = leads-nowhere large c.program c.rom 0 r trb c.ram
    go true false u = leads-nowhere large c.program c.rom 0 r trb c.ram
    go false t u = leads-nowhere large c.program c.rom 0 r trb c.ram

pub listed : Listed
listed large r trb c e = let l = call-listed large r trb c e in record { found = l.found; listed = l.listed; finished = l.finished }

-- a call of another kind
pub other-deeds : (large : Bool) (r : Registers) (trb : ℕ) (c : Call) (kind : ℕ) → c.kind ≡ suc kind → call_deeds large r trb c ≡ cond (eqb (ended large r trb c).number 0) (event (suc kind) ∷ []) []
unfolding call_deeds
other-deeds large r trb c kind e = rw (e, ne_eqb (suc kind) 0 (λ z. absurd (omega arith)))

twice : (t : Bool) → cond {A = ℕ} t 2 0 ≡ 2 * cond {A = ℕ} t 1 0
twice true = omega arith
twice false = omega arith

-- a run counts its words, an accepted interrupt 2, and any other event none
module _ (large : Bool) (r : Registers) (trb : ℕ) (c : Call) where
  abbrev accepted : Bool
  accepted = interrupt_accepted c.kind r (ended large r trb c)

  call-counted : (ended large r trb c).words ≡ words_in (call_deeds large r trb c) + 2 * cond accepted 1 0
  unfolding words_in
  call-counted = go c.kind refl
    where
      go : (kind : ℕ) → c.kind ≡ kind → (ended large r trb c).words ≡ words_in (call_deeds large r trb c) + 2 * cond accepted 1 0
      go zero e =
          let none : cond {A = ℕ} accepted 1 0 ≡ 0 = ap (λ kind. cond {A = ℕ} (interrupt_accepted kind r (ended large r trb c)) 1 0) e in
          omega (arith, (call-listed large r trb c e).counted, none)
      go (suc kind) e =
          let none : words_in (call_deeds large r trb c) ≡ 0 = ap words_in (other-deeds large r trb c kind e) ∙ of-cond (λ ds. words_in ds ≡ 0) (eqb (ended large r trb c).number 0) refl refl in
          let counted : (ended large r trb c).words ≡ cond {A = ℕ} accepted 2 0 = rw e (counts-interrupts large r trb c.program c.rom c.ram kind c.value) in
          omega (arith, none, counted, twice accepted)

-- ---- all calls

in_both : (ds es : List Deed) → words_in (ds ++ es) ≡ words_in ds + words_in es
unfolding words_in
in_both [] es = omega arith
in_both (word w r ∷ ds) es = omega (arith, in_both ds es)
in_both (event kind ∷ ds) es = in_both ds es

pub as-many-as-counted : AsManyAsCounted
unfolding deeds words_done words_in interrupts_in
as-many-as-counted large r trb [] = refl
as-many-as-counted large r trb (c ∷ calls) =
    omega (arith, in_both (call_deeds large r trb c) (deeds large (ended large r trb c).registers (ended large r trb c).trb calls), call-counted large r trb c, as-many-as-counted large (ended large r trb c).registers (ended large r trb c).trb calls)
