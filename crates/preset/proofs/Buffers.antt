-- The three ways in which a preset's text is written. Assumes nothing.
use mathlib.Core.Path.{◌≡◌, sym, ap, ◌∙◌}
use mathlib.Core.List.{List, ◌++◌}
use Prim.Native.Nat.{ℕ, ◌+◌, ◌<◌, ◌≤◌, min}
use native.Mathlib.Omega.{arith}
use lib.ListN.{length, drop}
use lib.Seq.{sets, sets-eq}
use borrow.Author.Tests.{eq-eqb, ne_eqb, le-leb, lt-leb}
use Rattle.image.specs.IntelHex.{intel_hex}
use Rattle.image.specs.Image.{cell_bytes, Loaded, load}
use Rattle.image.proofs.Loads.{load-short}
use Rattle.image.proofs.CellBytes.{length-bytes}
use Rattle.preset.specs.Written.{text_of}
use Rattle.preset.specs.Preset.{preset_text, Writing, written, refused, written_to, write_preset}
use Rattle.preset.proofs.Texts.{length-text}

-- "716 characters"
pub length-preset : (ram : List ℕ) → length ram ≡ 128 → length (preset_text ram) ≡ 716
length-preset ram e = omega (arith, length-text (cell_bytes 2 ram), length-bytes 2 ram)

abbrev pub done : Writing
done = record { number = 0; length = 716 }

module _ (ram buffer : List ℕ) where
  pub other_length : (length ram ≡ 128 → ⊥) → write_preset ram buffer ≡ written refused buffer
  unfolding write_preset
  other_length n = rw (ne_eqb _ _ n)

  module _ (n : length ram ≡ 128) where
    pub too_short : length buffer < 716 → write_preset ram buffer ≡ written refused buffer
    unfolding write_preset written_to
    too_short h = rw (eq-eqb _ _ n, length-preset ram n, lt-leb 716 (length buffer) h)

    pub is-written : 716 ≤ length buffer → write_preset ram buffer ≡ written done (preset_text ram ++ drop 716 buffer)
    unfolding write_preset written_to
    is-written h = rw (eq-eqb _ _ n, length-preset ram n, le-leb 716 (length buffer) h)

    module _ (bytes : List ℕ) (h : 716 ≤ length buffer) (are : bytes ≡ cell_bytes 2 ram) where
      -- what putting the text asks for
      pub ram-text : (length bytes ≤ 65536) × (length (text_of bytes) ≤ length buffer)
      ram-text = rw are (omega (arith, length-bytes 2 ram), omega (arith, length-preset ram n))

      pub all-written : (left : List ℕ) (at : ℕ) → left ≡ sets buffer 0 (text_of bytes) → at ≡ length (text_of bytes)
          → written (record { number = 0; length = at }) left ≡ write_preset ram buffer
      all-written left at e l =
          let long : length (text_of bytes) ≡ 716 = ap (λ (bs : List ℕ). length (text_of bs)) are ∙ length-preset ram n in
          let k : 0 + length (preset_text ram) ≡ 716 = omega (arith, length-preset ram n) in
          let m : at ≡ 716 = omega (arith, long) in
          rw m
          (ap (written done)
          (e ∙ ap (λ (bs : List ℕ). sets buffer 0 (text_of bs)) are ∙ sets-eq (preset_text ram) buffer 0 (omega (arith, k))
          ∙ ap (λ (j : ℕ). preset_text ram ++ drop j buffer) k)
          ∙ sym (is-written h))

-- the bound on an image's cells does not matter to a RAM
pub load-ram : (text ram : List ℕ) {x : Loaded} → length ram ≡ 128 → x ≡ load intel_hex 2 (min (length ram) 512) text ram → x ≡ load intel_hex 2 128 text ram
load-ram text ram e p =
    let same : min (length ram) 512 ≡ 128 = omega arith in
    p ∙ ap (λ (n : ℕ). load intel_hex 2 n text ram) same

-- what `load_preset` and `write_preset` use
pub ruleset loads = (load-short, load-ram)

pub ruleset writings = (other_length, too_short, ram-text, all-written)
