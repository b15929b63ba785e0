-- Registers that fit their widths fit them after every word.
-- Assumes nothing.
use Prim.Native.Nat.{ℕ, ◌^◌, ◌<◌}
use native.Mathlib.Omega.{arith}
use mathlib.Core.Bool.{Bool, true, false}
use mathlib.Core.List.{List, [], ◌∷◌}
use lib.Dec.{ltb, eqb}
use Rattle.numbers.proofs.Choices.{of-cond, of-get_or}
use Rattle.numbers.specs.Bits.{bits}
use Rattle.device.specs.Device.{chip, word_limit}
use Rattle.device.specs.Lent.{word_at}
use Rattle.device.specs.Pointers.{next_address}
use Rattle.device.specs.declared.registers.Registers.{Registers}
use Rattle.device.proofs.Widths.{next_address-fits, row_bits, words-some}
use Rattle.word.specs.Fields.{aligned, branch, op_fields, jp_fields, code_fields, ldi_fields}
use Rattle.word.specs.JumpCodes.{branch_of, address_of}
use Rattle.word.specs.Word.{Taken, jump_of, word_of, taken_apart}
use Rattle.word.specs.declared.OpFields.{OpFields}
use Rattle.word.specs.declared.LdiFields.{LdiFields}
use Rattle.word.specs.declared.Word.{Word}
use Rattle.word.specs.declared.Word.TheVariants.{Op, Rt, Jp, JpCode}
use Rattle.codes.specs.Codes.{source_of, destination_of}
use Rattle.stages.specs.Destinations.{loaded}
use Rattle.words.specs.Outcomes.{Outcome}
use Rattle.words.specs.Refusals.{op_refusal, jp_refusal, ldi_refusal}
use Rattle.words.specs.Operation.{op_bus, op_word}
use Rattle.words.specs.Jump.{jump_holds, jp_registers, jp_word}
use Rattle.words.specs.Load.{ldi_word}
use Rattle.words.specs.Word.{row_done, fetched_done, word_done}
use Rattle.words.specs.OneWord.{WordFits}
use Rattle.words.proofs.Between.{op_read, op_operated, op_loaded, op_pointed}
use Rattle.words.proofs.Fitting.{Fit, fit_of, fits-of, fit-pc, read-fit, accumulated-fit, loaded-fit, pointed-fit, pushed-fit, popped-fit, stepped-fit}

-- the registers that a word leaves behind fit
abbrev FitWord : Bool → Outcome → Type 0
FitWord large o = Fit large o.registers

-- the fields that a row takes from w are within their widths, so DPH-M names a row of RAM and NA an instruction word
row_lt : (large : Bool) (w : ℕ) → (op_fields large w).dphm < 2 ^ row_bits large
row_lt true w = omega arith
row_lt false w = omega arith

address-lt : (large : Bool) (w : ℕ) → address_of (jump_of large w) < (chip large).words
unfolding address_of
address-lt true w = omega arith
address-lt false w = omega arith

module _ (large : Bool) (r : Registers) (trb : ℕ) (rom ram : List ℕ) (h : Fit large r) where
  op_fit : (rt : Bool) (f : OpFields) → f.dphm < 2 ^ row_bits large → FitWord large (op_word large rt r trb f ram rom)
  unfolding op_word
  op_fit rt f row =
      let q = op_pointed large r trb f ram rom in
      let operated = accumulated-fit large r (op_read large r trb f) f (op_bus large r trb f ram rom) ram (read-fit large r (source_of f.src) h) in
      let stored = loaded-fit large r.dp r.rp (op_operated large r trb f ram rom) (destination_of f.dst) (op_bus large r trb f ram rom) ram rom operated in
      let pointed = pointed-fit large r.dp r.rp (op_loaded large r trb f ram rom) f h.dp-fits h.rp-fits row stored in
      of-cond (FitWord large) (eqb (op_refusal large rt r f rom) 0) (of-cond (Fit large) rt (popped-fit large q pointed) (stepped-fit large q pointed)) h

  jp-fit : (word : Word) → address_of word < (chip large).words → FitWord large (jp_word large r trb word ram)
  unfolding jp_word jp_registers
  jp-fit word l =
      let called = pushed-fit large r (next_address (chip large) r.pc) (next_address-fits (chip large) (omega (arith, words-some large)) r.pc) h in
      let branched = of-cond (Fit large) (jump_holds r word) (fit-pc h l) (stepped-fit large r h) in
      of-cond (FitWord large) (eqb (jp_refusal large r word) 0) (of-cond (Fit large) (eqb (branch_of word) branch.jump) (fit-pc h l) (of-cond (Fit large) (eqb (branch_of word) branch.call) (fit-pc called l) branched)) h

  ldi-fit : (f : LdiFields) → FitWord large (ldi_word large r trb f ram rom)
  unfolding ldi_word
  ldi-fit f =
      let q = loaded large r.dp r.rp r (destination_of f.dst) f.id ram rom in
      of-cond (FitWord large) (eqb (ldi_refusal large r f rom) 0) (stepped-fit large q (loaded-fit large r.dp r.rp r (destination_of f.dst) f.id ram rom h)) h

  abbrev FitRow : Word → Type 0
  FitRow word = FitWord large (row_done large r trb word ram rom)

  jump-fit : (chosen : Bool) (w : ℕ) → address_of (jump_of chosen w) < (chip large).words → FitRow (jump_of chosen w)
  jump-fit true w l = jp-fit (JpCode (code_fields w)) l
  jump-fit false w l = jp-fit (Jp (jp_fields w)) l

  -- by the two top bits
  row-fit : (w : ℕ) → FitRow (word_of large w)
  unfolding word_of
  row-fit w =
      let op : (rt : Bool) → FitWord large (op_word large rt r trb (op_fields large w) ram rom) = λ rt. op_fit rt (op_fields large w) (row_lt large w) in
      of-get_or FitRow (Op (op_fields large w) ∷ Rt (op_fields large w) ∷ jump_of large w ∷ []) (bits (aligned large w) 22 21) (op false, (op true, (jump-fit large w (address-lt large w), tt))) (ldi-fit (ldi_fields large w))

  -- so are those that the taker hands with its refusal
  taken-fit : (w : ℕ) → FitRow (taken_apart large w).word
  unfolding taken_apart
  taken-fit w = of-cond (λ (x : Taken). FitRow x.word) (ltb w (word_limit (chip large))) (row-fit w) (op_fit false (op_fields large 0) (row_lt large 0))

  pub word_fit : (program : List ℕ) → FitWord large (word_done large r trb program rom ram)
  unfolding word_done fetched_done
  word_fit program = let w = word_at program r.pc in of-cond (FitWord large) (eqb (taken_apart large w).refusal 0) (taken-fit w) h

-- by the test of refusal 2
pub word_fits : WordFits
word_fits large r trb program rom ram e = fits-of large _ (word_fit large r trb rom ram (fit_of large r e) program)
