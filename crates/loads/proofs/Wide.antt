-- A value that is too wide is in the image as the text gives it, and the machine refuses it when it is used. Assumes nothing.
use mathlib.Core.Path.{◌≡◌, sym, ap, ◌∙◌}
use mathlib.Core.Bool.{Bool, true, false, false≢true}
use mathlib.Core.List.{List}
use Prim.Native.Nat.{ℕ, suc, ◌<◌, ◌≤◌}
use native.Mathlib.Omega.{arith}
use lib.ListN.{length}
use borrow.Author.Tests.{le-leb, le-ltb, lt-ltb, eq-eqb}
use Rattle.device.specs.Device.{upd77p20, word_limit, cell_limit}
use Rattle.device.specs.Lent.{word_at, rom_at}
use Rattle.device.specs.Registers.{registers_fit}
use Rattle.device.specs.declared.registers.Registers.{Registers}
use Rattle.image.specs.IntelHex.{intel_hex}
use Rattle.image.specs.Image.{load}
use Rattle.word.specs.Word.{taken_apart}
use Rattle.word.specs.declared.LdiFields.{LdiFields}
use Rattle.word.specs.declared.OpFields.{OpFields}
use Rattle.word.specs.declared.Word.{Word}
use Rattle.word.specs.declared.Word.TheVariants.{Op, Rt, Jp, JpCode, Ldi}
use Rattle.word.proofs.RoundTrip.{taken_refused}
use Rattle.words.specs.Outcomes.{Outcome, refused_word}
use Rattle.words.specs.Refusals.{source_missing, cell_too_wide, unused_bits, uses_cell, op_refusal, ldi_refusal}
use Rattle.words.specs.Order.{reads_cell}
use Rattle.words.specs.Operation.{op_word}
use Rattle.words.specs.Load.{ldi_word}
use Rattle.words.specs.Word.{row_done, fetched_done, word_done}
use Rattle.words.proofs.Fitting.{fit_of}
use Rattle.machine.specs.Replies.{refused_call}
use Rattle.machine.specs.Events.{lent_fit, kind_done, event_done}
use Rattle.machine.proofs.Calls.{call-done}
use Rattle.machine.proofs.Runs.{ran-refused}
use Rattle.loads.specs.Promises.{value_given, Reads, WordTooWide, CellTooWide}
use Rattle.loads.proofs.Places.{filled-long, in-its-place}

-- refusal 1 is not given for lists of the chip's lengths
lent : (program rom ram : List ℕ) → length program ≡ upd77p20.words → length rom ≡ upd77p20.cells → length ram ≡ upd77p20.ram
    → lent_fit false program rom ram ≡ true
lent program rom ram p q s = rw (eq-eqb _ _ p, eq-eqb _ _ q, eq-eqb _ _ s)

-- a run whose first word is refused
run-refused : (r : Registers) (trb : ℕ) (program rom ram : List ℕ) (number count : ℕ) → lent_fit false program rom ram ≡ true → registers_fit upd77p20 r ≡ true
    → count < 65535 → (number ≡ 0 → ⊥) → word_done false r trb program rom ram ≡ refused_word number r trb ram
    → event_done false r trb program rom ram 0 (suc count) ≡ refused_call number r trb ram
unfolding kind_done
run-refused r trb program rom ram number count long fit c z e =
    sym (call-done false r trb program rom ram 0 (suc count) long fit (le-leb (suc count) 65535 (omega arith)))
    ∙ ran-refused false count 0 r trb program rom ram (λ h. z (sym (ap (λ (o : Outcome). o.number) e) ∙ h))
    ∙ ap (λ (o : Outcome). record { number = o.number; words = 0; value = 0; registers = o.registers; trb = o.trb; ram = o.ram }) e

wide_word : (r : Registers) (trb : ℕ) (program rom ram : List ℕ) → word_limit upd77p20 ≤ word_at program r.pc → word_done false r trb program rom ram ≡ refused_word 4 r trb ram
unfolding word_done fetched_done
wide_word r trb program rom ram h = rw (taken_refused false (word_at program r.pc) h)

pub word-too-wide : WordTooWide
word-too-wide text image taken r trb rom ram rom-long ram-long fit wide count c =
    let program = (load intel_hex 4 upd77p20.words text image).image in
    let long = lent program rom ram (filled-long 4 upd77p20.words text image taken) rom-long ram-long in
    let same : word_at program r.pc ≡ value_given 4 text r.pc.0 = in-its-place 4 upd77p20.words text image taken r.pc.0 (fit_of false r fit).pc-fits in
    run-refused r trb program rom ram 4 count long fit c (λ z. omega arith) (wide_word r trb program rom ram (omega (arith, same, wide)))

-- a word below the limit is taken apart with refusal 0
narrow-taken : (w : ℕ) → w < word_limit upd77p20 → (taken_apart false w).refusal ≡ 0
unfolding taken_apart
narrow-taken w h = rw (lt-ltb w (word_limit upd77p20) h)

module _ (r : Registers) (trb : ℕ) (rom ram : List ℕ) (wide : cell_too_wide false r rom ≡ true) where
  wide-op : (rt : Bool) (f : OpFields) → source_missing false f ≡ false → uses_cell f ≡ true → op_word false rt r trb f ram rom ≡ refused_word 7 r trb ram
  unfolding op_word op_refusal
  wide-op rt f source uses = rw (source, uses, wide)

  wide-ldi : (f : LdiFields) → unused_bits (Ldi f) ≡ false → reads_cell (Ldi f) ≡ true → ldi_word false r trb f ram rom ≡ refused_word 7 r trb ram
  unfolding ldi_word ldi_refusal
  wide-ldi f unused uses = rw (unused, uses, wide)

  wide-cell : (word : Word) → Reads word → row_done false r trb word ram rom ≡ refused_word 7 r trb ram
  wide-cell (Op f) u = wide-op false f u.1 u.2
  wide-cell (Rt f) u = wide-op true f u.1 u.2
  wide-cell (Jp f) u = absurd (false≢true u.2)
  wide-cell (JpCode f) u = absurd (false≢true u.2)
  wide-cell (Ldi f) u = wide-ldi f u.0 u.2

  wide-fetched : (w : ℕ) → w < word_limit upd77p20 → Reads (taken_apart false w).word → fetched_done false r trb w ram rom ≡ refused_word 7 r trb ram
  unfolding fetched_done
  wide-fetched w h u = rw (narrow-taken w h) (wide-cell (taken_apart false w).word u)

pub cell-too-wide : CellTooWide
unfolding word_done
cell-too-wide text image taken r trb program ram program-long ram-long fit narrow uses wide count c =
    let rom = (load intel_hex 2 upd77p20.cells text image).image in
    let long = lent program rom ram program-long (filled-long 2 upd77p20.cells text image taken) ram-long in
    let same : rom_at rom r.rp ≡ value_given 2 text r.rp.0 = in-its-place 2 upd77p20.cells text image taken r.rp.0 (fit_of false r fit).rp-fits in
    let too : cell_too_wide false r rom ≡ true = rw (le-ltb (rom_at rom r.rp) (cell_limit upd77p20) (omega (arith, same, wide))) in
    run-refused r trb program rom ram 7 count long fit c (λ z. omega arith) (wide-fetched r trb rom ram too (word_at program r.pc) narrow uses)
