-- What is promised of presets. Assumes nothing.
use mathlib.Core.Path.{◌≡◌, sym, ap, subst, ◌∙◌}
use mathlib.Core.List.{List}
use Prim.Native.Nat.{ℕ, zero, suc, ◌<◌}
use native.Mathlib.Omega.{arith}
use lib.ListN.{length, take, drop, replicate, length-replicate}
use lib.Seq.{take_at, drop_at}
use Rattle.numbers.specs.Every.{Every}
use Rattle.image.specs.Lines.{lines, joined}
use Rattle.image.specs.Image.{at, cells, cell_bytes, Loaded, loaded}
use Rattle.std.specs.Prelude.{Ok, Err}
use Rattle.refusals.proofs.Numbers.{one_number, not_0}
use Rattle.image.proofs.Fills.{cells-length}
use Rattle.image.proofs.Promises.{untouched, replaced, whole}
use Rattle.image.proofs.CellBytes.{limit, length-bytes, cells-bytes, cells-back, bytes_back, cells-below}
use Rattle.preset.specs.Written.{record_lines, records_for, text_of}
use Rattle.preset.specs.Preset.{load_preset, preset_text, Writing, Written, written}
use Rattle.preset.specs.Replies.{writing_of}
use Rattle.preset.specs.Form.{WritersForm, FormLines}
use Rattle.preset.specs.Promises.{Ram, Kept, AllReplaced, Length, OneWriting, OneReply, OneWritten, InBuffer, ReadBack, WrittenBack, FormExactly, SomeForm}
use Rattle.preset.proofs.Buffers.{length-preset, is-written}
use Rattle.preset.proofs.RoundTrip.{lines-found, image-read-back}
use Rattle.preset.proofs.InForm.{lines-form}
use Rattle.preset.proofs.Forms.{form-made}

pub kept : Kept
kept = untouched 2 128

pub all-replaced : AllReplaced
all-replaced text ram other e f = replaced 2 128 text ram other (e ∙ sym f)

pub length-716 : Length
length-716 = length-preset

pub one-writing : OneWriting
one-writing ram buffer x y a b p q =
    let e : written x a ≡ written y b = p ∙ sym q in
    (ap (λ (w : Written). record { number = w.number; length = w.length }) e, ap (λ (w : Written). w.buffer) e)

pub one-reply : OneReply
one-reply (Ok length) (Ok other) e =
    let same : length ≡ other = ap (λ (w : Writing). w.length) e in
    λ i. Ok (same i)
one-reply (Ok length) (Err s) e = absurd (not_0 s (sym (ap (λ (w : Writing). w.number) e)))
one-reply (Err r) (Ok other) e = absurd (not_0 r (ap (λ (w : Writing). w.number) e))
one-reply (Err r) (Err s) e =
    let same : r ≡ s = one_number (ap (λ (w : Writing). w.number) e) in
    λ i. Err (same i)

pub one-written : OneWritten
one-written ram buffer x y a b p q =
    let same = one-writing ram buffer (writing_of x) (writing_of y) a b p q in
    (one-reply x y same.0, same.1)

pub in_buffer : InBuffer
in_buffer ram buffer n h =
    let e = is-written ram buffer n h in
    let l = length-preset ram n in (
      ap (λ (w : Written). w.number) e,
      ap (λ (w : Written). w.length) e,
      ap (λ (w : Written). take 716 w.buffer) e ∙ take_at (preset_text ram) (drop 716 buffer) 716 l,
      ap (λ (w : Written). drop 716 w.buffer) e ∙ drop_at (preset_text ram) (drop 716 buffer) 716 l,
    )

-- a RAM has 256 bytes
ram-bytes : (ram : List ℕ) → length ram ≡ 128 → length (cell_bytes 2 ram) ≡ 256
ram-bytes ram e = omega (arith, length-bytes 2 ram)

pub read_back : ReadBack
unfolding limit
read_back ram before is e =
    let bs = cell_bytes 2 ram in
    let n = ram-bytes ram is.0 in
    image-read-back 2 128 bs before (cells-bytes 2 ram) n (omega arith) e
    ∙ rw n (ap (loaded (at 17 0)) (ap (λ (k : ℕ). cells 2 k bs) (sym is.0) ∙ cells-back 2 ram is.1))

-- 256 bytes go into sixteen records
sixteen : (bs : List ℕ) → length bs ≡ 256 → record_lines (records_for (length bs)) 0 bs ≡ record_lines 16 0 bs
sixteen bs n = rw n

has-form : (ram : List ℕ) → Ram ram → WritersForm (preset_text ram)
has-form ram is =
    let bs = cell_bytes 2 ram in
    let n = ram-bytes ram is.0 in
    subst (FormLines 16 0) (sym (lines-found bs (cells-bytes 2 ram) (omega arith) ∙ sixteen bs n))
    (lines-form 16 0 bs (cells-bytes 2 ram) n (omega arith))

was-written : (text : List ℕ) → WritersForm text → (ram : List ℕ) × Ram ram × (text ≡ preset_text ram)
unfolding limit text_of
was-written text form =
    let m = form-made 16 0 (lines text) form in
    let bs = m.bytes in (
      cells 2 128 bs,
      (cells-length 2 128 bs, cells-below 2 128 bs m.are m.number),
      sym (whole text) ∙ ap joined (m.lines_are ∙ sym (sixteen bs m.number)) ∙ ap text_of (sym (bytes_back 2 128 bs m.are m.number)),
    )

pub form-exactly : FormExactly
form-exactly = (has-form, was-written)

-- a RAM of zeros
zeros : (n : ℕ) → Every (λ v. v < 65536) (replicate n 0)
zeros zero = tt
zeros (suc n) = (omega arith, zeros n)

pub some-form : SomeForm
some-form = (preset_text (replicate 128 0), has-form (replicate 128 0) (length-replicate {A = ℕ} 128 0, zeros 128))

pub written_back : WrittenBack
written_back text before form e =
    let w = was-written text form in
    let taken : load_preset text before ≡ loaded (at 17 0) w.0 = ap (λ (t : List ℕ). load_preset t before) w.2 ∙ read_back w.0 before w.1 e in
    (ap (λ (l : Loaded). l.number) taken, ap (λ (l : Loaded). preset_text l.image) taken ∙ sym w.2)
