-- A stage leaves registers that fit their widths, where they fitted before it: one that sets no register of limited width leaves `FitAt` as it stands.
-- Assumes nothing.
use Prim.Native.Nat.{ℕ, ◌+◌, ◌-◌, ◌^◌, ◌<◌, ◌≤◌}
use native.Mathlib.Omega.{arith}
use mathlib.Core.Path.{◌≡◌}
use mathlib.Core.Bool.{Bool, true, and-eq-true_iff}
use mathlib.Core.List.{List, [], ◌∷◌}
use borrow.Author.Tests.{ltb-true, leb-true, eqb-true, lt-ltb, le-leb, eq-eqb}
use lib.Dec.{eqb}
use Rattle.numbers.specs.Bits.{bits, at}
use Rattle.numbers.proofs.Choices.{of-cond, of-get_or}
use Rattle.device.specs.Device.{chip}
use Rattle.device.specs.Pointers.{ram_pointer_moved}
use Rattle.device.specs.Registers.{registers_fit}
use Rattle.device.specs.Set.{set_depth, set_stack0, set_stack1, set_stack2, set_stack3}
use Rattle.device.specs.declared.pointers.InstructionAddress.{InstructionAddress}
use Rattle.device.specs.declared.pointers.RamPointer.{RamPointer}
use Rattle.device.specs.declared.pointers.RomPointer.{RomPointer}
use Rattle.device.specs.declared.registers.Registers.{Registers}
use Rattle.device.proofs.Widths.{next_address-fits, rom_pointer_down-fits, rom_pointer_of-fits, ram_pointer_of-fits, ram_pointer_moved-fits, row_bits, ram-rows, words-some, cells-some, ram-some, stack-four}
use Rattle.word.specs.declared.OpFields.{OpFields}
use Rattle.stages.specs.Accumulators.{chooses_a, blocked, accumulated}
use Rattle.stages.specs.Bus.{read_from}
use Rattle.codes.specs.Codes.{is_destination}
use Rattle.stages.proofs.Keeping.{of-read}
use Rattle.stages.specs.Destinations.{loaded}
use Rattle.stages.specs.Pointing.{pointed}
use Rattle.flow.specs.Stack.{pushed, stack_cell, popped, stepped}
use Rattle.status.specs.Status.{with_rqm, without_rqm, with_drs, without_drs, without_ei, status_loaded}
use Rattle.codes.specs.declared.Source.{Source}
use Rattle.codes.specs.declared.Destination.{Destination}
use Rattle.codes.specs.declared.Destination.TheVariants as Dst

-- SR bits 6 to 2 are 0
abbrev pub SrFits : ℕ → Type 0
SrFits sr = bits sr 6 2 ≡ 0

-- the registers of limited width alone, so that what sets another register needs no new proof
pub record FitAt (large : Bool) (pc stack0 stack1 stack2 stack3 dp rp depth sr : ℕ) : Type 0 where
  pub pc-fits : pc < (chip large).words
  pub stack0-fits : stack0 < (chip large).words
  pub stack1-fits : stack1 < (chip large).words
  pub stack2-fits : stack2 < (chip large).words
  pub stack3-fits : stack3 < (chip large).words
  pub dp-fits : dp < (chip large).ram
  pub rp-fits : rp < (chip large).cells
  pub depth-fits : depth ≤ (chip large).stack
  pub sr-fits : SrFits sr

abbrev pub Fit : Bool → Registers → Type 0
Fit large r = FitAt large r.pc.0 r.stack0.0 r.stack1.0 r.stack2.0 r.stack3.0 r.dp.0 r.rp.0 r.depth r.sr

-- ---- the test of refusal 2 says the same

pub fit_of : (large : Bool) (r : Registers) → registers_fit (chip large) r ≡ true → Fit large r
unfolding registers_fit
fit_of large r e = let parts = simp and-eq-true_iff at e in omega (arith, ltb-true, leb-true, eqb-true)

pub fits-of : (large : Bool) (r : Registers) → Fit large r → registers_fit (chip large) r ≡ true
unfolding registers_fit
fits-of large r h = simp and-eq-true_iff (omega (arith, lt-ltb, le-leb, eq-eqb))

-- ---- one register set

module _ {large : Bool} {pc stack0 stack1 stack2 stack3 dp rp depth sr : ℕ} (h : FitAt large pc stack0 stack1 stack2 stack3 dp rp depth sr) {x : ℕ} where
  pub fit-pc : x < (chip large).words → FitAt large x stack0 stack1 stack2 stack3 dp rp depth sr
  fit-pc l = omega arith

  fit-dp : x < (chip large).ram → FitAt large pc stack0 stack1 stack2 stack3 x rp depth sr
  fit-dp l = omega arith

  fit-rp : x < (chip large).cells → FitAt large pc stack0 stack1 stack2 stack3 dp x depth sr
  fit-rp l = omega arith

  fit-depth : x ≤ (chip large).stack → FitAt large pc stack0 stack1 stack2 stack3 dp rp x sr
  fit-depth l = omega arith

  pub fit-sr : SrFits x → FitAt large pc stack0 stack1 stack2 stack3 dp rp depth x
  fit-sr l = omega arith

-- ---- SR

-- what stands at bit 7 and above, and below bit 2, is apart from bits 6 to 2
apart : (a b c d low : ℕ) → low < 4 → SrFits (at 15 a + at 13 b + at 12 c + at 7 d + at 2 0 + low)
apart a b c d low l = omega arith

module _ (sr : ℕ) (h : SrFits sr) where
  with_rqm-fits : SrFits (with_rqm sr)
  with_rqm-fits = omega arith

  pub without_rqm-fits : SrFits (without_rqm sr)
  without_rqm-fits = omega arith

  pub with_drs-fits : SrFits (with_drs sr)
  with_drs-fits = omega arith

  pub without_drs-fits : SrFits (without_drs sr)
  without_drs-fits = omega arith

  pub without_ei-fits : SrFits (without_ei sr)
  without_ei-fits = omega arith

  status_loaded-fits : (bus : ℕ) → SrFits (status_loaded sr bus)
  status_loaded-fits bus = rw h (apart _ _ _ _ (bits bus 1 0) (omega arith))

-- ---- the stages

pub read-fit : (large : Bool) (r : Registers) (s : Source) → Fit large r → Fit large (read_from r s)
read-fit large r s h = of-read r s (Fit large) h (fit-sr h (with_rqm-fits r.sr h.sr-fits)) h

pub accumulated-fit : (large : Bool) (r q : Registers) (f : OpFields) (bus : ℕ) (ram : List ℕ) → Fit large q → Fit large (accumulated r q f bus ram)
unfolding accumulated
accumulated-fit large r q f bus ram h = of-cond (Fit large) (blocked f) h (of-cond (Fit large) (chooses_a f) h h)

pub loaded-fit : (large : Bool) (dp : RamPointer) (rp : RomPointer) (q : Registers) (d : Destination) (bus : ℕ) (ram rom : List ℕ) → Fit large q → Fit large (loaded large dp rp q d bus ram rom)
unfolding loaded
loaded-fit large dp rp q Dst.None bus ram rom h = h
loaded-fit large dp rp q Dst.A bus ram rom h = h
loaded-fit large dp rp q Dst.B bus ram rom h = h
loaded-fit large dp rp q Dst.Tr bus ram rom h = h
loaded-fit large dp rp q Dst.Dp bus ram rom h = fit-dp h (ram_pointer_of-fits (chip large) (ram-some large) bus)
loaded-fit large dp rp q Dst.Rp bus ram rom h = fit-rp h (rom_pointer_of-fits (chip large) (cells-some large) bus)
loaded-fit large dp rp q Dst.Dr bus ram rom h = fit-sr h (with_rqm-fits q.sr h.sr-fits)
loaded-fit large dp rp q Dst.Sr bus ram rom h = fit-sr h (status_loaded-fits q.sr h.sr-fits bus)
loaded-fit large dp rp q Dst.Sol bus ram rom h = h
loaded-fit large dp rp q Dst.Som bus ram rom h = h
loaded-fit large dp rp q Dst.K bus ram rom h = h
loaded-fit large dp rp q Dst.Klr bus ram rom h = h
loaded-fit large dp rp q Dst.Klm bus ram rom h = h
loaded-fit large dp rp q Dst.L bus ram rom h = h
loaded-fit large dp rp q Dst.NoneOrTrb bus ram rom h = h
loaded-fit large dp rp q Dst.Mem bus ram rom h = h

-- DPH-M names one of the rows of RAM
pub pointed-fit : (large : Bool) (dp : RamPointer) (rp : RomPointer) (q : Registers) (f : OpFields) → dp.0 < (chip large).ram → rp.0 < (chip large).cells → f.dphm < 2 ^ row_bits large → Fit large q
    → Fit large (pointed large dp rp q f)
unfolding pointed
pointed-fit large dp rp q f k l row h =
    fit-rp (fit-dp h (of-cond In-ram (is_destination f.dst Dst.Dp) h.dp-fits moved))
    (of-cond In-rom (is_destination f.dst Dst.Rp) h.rp-fits (of-cond In-rom (eqb f.rpdcr 0) l (rom_pointer_down-fits (chip large) (cells-some large) rp)))
  where
    In-ram : RamPointer → Type 0
    In-ram p = p.0 < (chip large).ram

    In-rom : RomPointer → Type 0
    In-rom p = p.0 < (chip large).cells

    moved : In-ram (ram_pointer_moved f.dpl f.dphm dp)
    moved = rw (ram-rows large) (ram_pointer_moved-fits (row_bits large) f.dpl f.dphm dp (rw (← ram-rows large) k) row)

-- ---- the stack and PC

pub pushed-fit : (large : Bool) (r : Registers) (x : InstructionAddress) → x.0 < (chip large).words → Fit large r → Fit large (pushed r x)
unfolding pushed
pushed-fit large r x l h = of-get_or (Fit large) (set_depth (set_stack0 r x) 1 ∷ set_depth (set_stack1 r x) 2 ∷ set_depth (set_stack2 r x) 3 ∷ set_depth (set_stack3 r x) 4 ∷ []) r.depth (omega (arith, stack-four large)) h

stack-fits : (large : Bool) (r : Registers) (n : ℕ) → Fit large r → (stack_cell r n).0 < (chip large).words
stack-fits large r n h = of-get_or (λ x. x.0 < (chip large).words) (r.stack0 ∷ r.stack1 ∷ r.stack2 ∷ []) n (omega arith) h.stack3-fits

pub popped-fit : (large : Bool) (r : Registers) → Fit large r → Fit large (popped r)
unfolding popped
popped-fit large r h = fit-pc (fit-depth h (omega arith)) (stack-fits large r (r.depth - 1) h)

pub stepped-fit : (large : Bool) (r : Registers) → Fit large r → Fit large (stepped large r)
stepped-fit large r h = fit-pc h (next_address-fits (chip large) (omega (arith, words-some large)) r.pc)
