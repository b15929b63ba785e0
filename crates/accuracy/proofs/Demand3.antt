-- Demand 3: the deeds do to A and its flags what their adding words do, one after the other, and of those `mix-accurate` speaks.
-- Assumes nothing.
use Prim.Native.Nat.{ℕ, zero, suc}
use native.Mathlib.Omega.{arith}
use mathlib.Core.Path.{◌≡◌, refl, sym, ap, subst, ◌∙◌}
use mathlib.Core.Bool.{Bool, true, false, cond}
use mathlib.Core.List.{List, [], ◌∷◌, ◌++◌}
use borrow.Author.Tests.{eqb-false}
use lib.Dec.{eqb}
use Rattle.alu.specs.Operations.{plus}
use Rattle.alu.specs.declared.Accumulator.{Accumulator}
use Rattle.alu.proofs.Holding.{summed}
use Rattle.device.specs.declared.registers.Registers.{Registers}
use Rattle.stages.specs.Accumulators.{accumulator_a}
use Rattle.words.specs.Word.{word_done}
use Rattle.machine.specs.Events.{event_done}
use Rattle.machine.specs.Counting.{Finished, none, next}
use Rattle.machine.proofs.Endings.{by-kinds}
use Rattle.machine.specs.Promises.{Untouched}
use Rattle.machine.proofs.Frames.{event-refused}
use Rattle.numbers.specs.Every.{Every}
use Rattle.accuracy.specs.Deeds.{Call, ended, after, Deed, word, event, fetched, call_deeds, deeds}
use Rattle.accuracy.specs.Listed.{word_deeds}
use Rattle.accuracy.specs.Adding.{adds_m, added}
use Rattle.accuracy.specs.Demand3.{NoReset, Unreset, NothingElse, Alone, Demand3}
use Rattle.accuracy.proofs.Mix.{ms, mix-accurate}
use Rattle.accuracy.proofs.Stages.{SameA, pushed-a}
use Rattle.accuracy.proofs.Words.{word-adds, word-leaves}
use Rattle.accuracy.proofs.Listed.{listed, other-deeds}

-- A as the adding words among the deeds leave it
abbrev pub mixed : Accumulator → List Deed → Accumulator
mixed a ds = summed a (ms (added ds))

-- q has A as the deeds from r on leave it
abbrev pub Mixed : Registers → List Deed → Registers → Type 0
Mixed r ds q = accumulator_a q ≡ mixed (accumulator_a r) ds

-- ---- a run

word-mixes : (large : Bool) (r q : Registers) (trb : ℕ) (program rom ram : List ℕ) (ds : List Deed) → (word_done large r trb program rom ram).number ≡ 0 → NothingElse (word (fetched large r program) r)
    → Mixed (word_done large r trb program rom ram).registers ds q → Mixed r (word (fetched large r program) r ∷ ds) q
unfolding added summed
word-mixes large r q trb program rom ram ds done h rest = go (adds_m (fetched large r program)) refl
  where
    go : (t : Bool) → adds_m (fetched large r program) ≡ t → accumulator_a q ≡ summed (accumulator_a r) (ms (cond t (record { k = r.k; l = r.l } ∷ added ds) (added ds)))
    go true e = rest ∙ ap (λ a. mixed a ds) (word-adds large r trb program rom ram done e)
    go false e = let n = h e in rest ∙ ap (λ a. mixed a ds) (word-leaves large r trb program rom ram done n.0 n.1)

words-mix : {large : Bool} {program rom : List ℕ} {r q : Registers} {trb after-trb : ℕ} {ram left : List ℕ} {found : List Registers} → Finished large program rom found r trb ram q after-trb left
    → Every NothingElse (word_deeds large program found) → Mixed r (word_deeds large program found) q
unfolding added summed
words-mix none h = refl
words-mix {large = large} {program = program} (next {r = r} {q = q} {trb = trb} {ram = ram} {found = found} done rest) h = word-mixes large r q trb program _ ram (word_deeds large program found) done h.0 (words-mix rest h.1)

-- ---- an event other than a run

-- it leaves A and its flags, unless it is a reset
event-leaves : (large : Bool) (r : Registers) (trb : ℕ) (program rom ram : List ℕ) (kind value : ℕ) → (suc kind ≡ 7 → ⊥) → SameA r (event_done large r trb program rom ram (suc kind) value).registers
event-leaves large r trb program rom ram kind value h =
    by-kinds (λ e. SameA r e.registers) large r trb program rom ram kind value
    (record { refused = λ number. refl; read = refl; written = refl; status = refl; word_in = refl; word_out = refl; taken = pushed-a r r.pc; ignored = refl }) (λ e. absurd (h e))

-- ---- a call

call-mixes : (large : Bool) (r : Registers) (trb : ℕ) (c : Call) → Every NoReset (call_deeds large r trb c) → Every NothingElse (call_deeds large r trb c) → Mixed r (call_deeds large r trb c) (ended large r trb c).registers
unfolding added summed
call-mixes large r trb c = go c.kind refl
  where
    other : (kind : ℕ) → c.kind ≡ suc kind → (t : Bool) → eqb (ended large r trb c).number 0 ≡ t → Every NoReset (cond t (event (suc kind) ∷ []) []) → Mixed r (cond t (event (suc kind) ∷ []) []) (ended large r trb c).registers
    other kind e true z h = let n = h.0 in rw e (event-leaves large r trb c.program c.rom c.ram kind c.value (λ s. absurd (omega arith)))
    other kind e false z h =
        let n = eqb-false (ended large r trb c).number 0 z in
        let u = event-refused large r trb c.program c.rom c.ram kind c.value in
        ap (λ x. accumulator_a x.registers) (subst (λ k. Untouched r trb c.ram (event_done large r trb c.program c.rom c.ram k c.value)) (sym e) u n)

    go : (kind : ℕ) → c.kind ≡ kind → Every NoReset (call_deeds large r trb c) → Every NothingElse (call_deeds large r trb c) → Mixed r (call_deeds large r trb c) (ended large r trb c).registers
    go zero e h k = let l = listed large r trb c e in rw l.listed (words-mix l.finished (subst (Every NothingElse) l.listed k))
    go (suc kind) e h k = let d = other-deeds large r trb c kind e in rw d (other kind e (eqb (ended large r trb c).number 0) refl (subst (Every NoReset) d h))

-- ---- all calls

mixed-on : (ds es : List Deed) (a : Accumulator) → mixed a (ds ++ es) ≡ mixed (mixed a ds) es
unfolding added summed
mixed-on [] es a = refl
mixed-on (word w r ∷ ds) es a = go (adds_m w) (λ b. mixed-on ds es b)
  where
    go : (t : Bool) → ((b : Accumulator) → mixed b (ds ++ es) ≡ mixed (mixed b ds) es)
        → summed a (ms (cond t (record { k = r.k; l = r.l } ∷ added (ds ++ es)) (added (ds ++ es)))) ≡ mixed (summed a (ms (cond t (record { k = r.k; l = r.l } ∷ added ds) (added ds)))) es
    go true rest = rest (plus a _ 0)
    go false rest = rest a
mixed-on (event kind ∷ ds) es a = mixed-on ds es a

pub parted : (P : Deed → Type 0) (ds es : List Deed) → Every P (ds ++ es) → Every P ds × Every P es
parted P [] es h = (tt, h)
parted P (d ∷ ds) es h = let k = parted P ds es h.1 in ((h.0, k.0), k.1)

pub calls-mix : (large : Bool) (r : Registers) (trb : ℕ) (calls : List Call) → Unreset large r trb calls → Alone large r trb calls → Mixed r (deeds large r trb calls) (after large r trb calls)
unfolding added summed deeds after
calls-mix large r trb [] h k = refl
calls-mix large r trb (c ∷ calls) h k =
    let ds = call_deeds large r trb c in
    let q = (ended large r trb c).registers in
    let t = (ended large r trb c).trb in
    let h₂ = parted NoReset ds (deeds large q t calls) h in
    let k₂ = parted NothingElse ds (deeds large q t calls) k in
    calls-mix large q t calls h₂.1 k₂.1 ∙ ap (λ a. mixed a (deeds large q t calls)) (call-mixes large r trb c h₂.0 k₂.0) ∙ sym (mixed-on ds (deeds large q t calls) (accumulator_a r))

pub demand3 : Demand3
demand3 large r trb calls clear unreset three alone apart =
    rw (calls-mix large r trb calls unreset alone) (mix-accurate (accumulator_a r) (added (deeds large r trb calls)) clear (omega arith) apart)
