-- What is written of bytes is read as these bytes. Assumes nothing.
use mathlib.Core.Path.{◌≡◌, refl, sym, ap, ◌∙◌}
use mathlib.Core.Bool.{true, false}
use mathlib.Core.List.{List, [], ◌∷◌, ◌++◌, map, append_assoc}
use Prim.Native.Nat.{ℕ, zero, suc, ◌+◌, ◌*◌, ◌<◌, ◌≤◌}
use native.Mathlib.Omega.{arith}
use native.Mathlib.Nat.{add-zero}
use lib.ListN.{length, take, drop, replicate, replicate-append-replicate, length-append, length-take, length-drop, take-append-drop}
use lib.Seq.{append_snoc, set_at, get_or_at}
use borrow.Author.Tests.{ne_eqb}
use Rattle.numbers.specs.Every.{Every}
use Rattle.image.specs.Hexadecimal.{digit, byte, byte_at, bytes_of, all_digits, total}
use Rattle.image.specs.Quoted.{quoted}
use Rattle.image.specs.Lines.{lines}
use Rattle.image.specs.Record.{Record}
use Rattle.image.specs.IntelHex.{ending, formed, said, record_head, data_part, intel_hex}
use Rattle.image.specs.Image.{given, give, missing, walked, at, walk}
use Rattle.image.specs.IntelHex.{RecordHead}
use Rattle.image.proofs.Giving.{give-free}
use Rattle.image.proofs.Proper.{Good, lines-joined}
use Rattle.image.proofs.Walking.{walk-on, walk-closed}
use Rattle.image.proofs.Loads.{blank, load-taken}
use Rattle.image.proofs.Members.{taken, dropped, both}
use Rattle.image.proofs.CellBytes.{Byte, Bytes}
use Rattle.preset.specs.Written.{end_line, record_lines, records_for, text_of}
use Rattle.preset.specs.Promises.{ImageReadBack}
use Rattle.preset.proofs.Readable.{head-is, record_is}

-- bytes given where none was given yet
give-blank : (bs p rest : List ℕ) (a : ℕ) → (0 < length bs → length p ≡ a) → give a bs (p ++ (replicate (length bs) 256 ++ rest)) ≡ given 0 (p ++ (bs ++ rest))
unfolding give
give-blank [] p rest a e = refl
give-blank (b ∷ bs) p rest a e =
    let blanks = replicate {A = ℕ} (length bs) 256 ++ rest in
    let here : length p ≡ a = e (omega arith) in
    give-free a b bs (p ++ 256 ∷ blanks) (get_or_at p 256 blanks 0 a here)
    ∙ ap (give (a + 1) bs) (set_at p 256 blanks b a here ∙ sym (append_snoc p b blanks))
    ∙ give-blank bs (p ++ b ∷ []) rest (a + 1) (λ h. omega (arith, length-append p (b ∷ [])))
    ∙ ap (given 0) (append_snoc p b (bs ++ rest))

-- the end record ends the text
end_is : intel_hex end_line ≡ record { number = 0; last = true; address = 0; bytes = [] }
unfolding end_line quoted intel_hex record_head said formed ending all_digits total bytes_of byte_at byte digit data_part
end_is = refl

few-taken : (bs : List ℕ) → length (take 16 bs) < 256
few-taken bs = omega (arith, length-take 16 bs)

-- each line is good, so a reader finds the lines again
lines-good : (records address : ℕ) (bs : List ℕ) → Bytes bs → address + 16 * records ≤ 65536 → Every Good (record_lines records address bs)
unfolding record_lines intel_hex
lines-good zero address bs h inside = (ap (λ (r : Record). r.number) end_is, tt)
lines-good (suc records) address bs h inside = (
  ap (λ (r : RecordHead). r.number) (head-is address (take 16 bs) (omega arith) (few-taken bs) (taken Byte 16 bs h)),
  lines-good records (address + 16) (drop 16 bs) (dropped Byte 16 bs h) (omega arith),
)

-- bytes are not the mark of a place that is missing
none-missing : (bs : List ℕ) → Bytes bs → missing bs ≡ false
unfolding missing
none-missing [] h = refl
none-missing (b ∷ bs) h = rw (ne_eqb b 256 (λ e. omega (arith, h.0, e))) (none-missing bs h.1)

-- the records put their bytes one after the other, and the line of the end record decides
walk-records : (records address line : ℕ) (p bs : List ℕ) → (0 < length bs → length p ≡ address) → length bs ≤ 16 * records → address + 16 * records ≤ 65536 → Bytes p → Bytes bs
    → walk line (map intel_hex (record_lines records address bs)) (p ++ replicate (length bs) 256) ≡ walked (at (line + records + 1) 0) (p ++ bs)
unfolding record_lines
walk-records zero address line p [] e l inside u v =
    ap (λ (r : Record). walk line (r ∷ []) (p ++ [])) end_is
    ∙ walk-closed line (record { number = 0; last = true; address = 0; bytes = [] }) (p ++ []) refl refl
    (none-missing (p ++ []) (both Byte p [] u tt))
    ∙ ap (λ (n : ℕ). walked (at (n + 1) 0) (p ++ [])) (sym (add-zero line))
walk-records zero address line p (b ∷ bs) e l inside u v = absurd (omega arith)
walk-records (suc records) address line p bs e l inside u v =
    let f = take 16 bs in
    let r = drop 16 bs in
    let fits = taken Byte 16 bs v in
    let here : Record = record { number = 0; last = false; address = address; bytes = f } in
    let more = map intel_hex (record_lines records (address + 16) r) in
    let n : length f + length r ≡ length bs = sym (length-append f r) ∙ ap (λ (l : List ℕ). length l) (take-append-drop 16 bs) in
    let blanks : replicate {A = ℕ} (length f) 256 ++ replicate (length r) 256 ≡ replicate (length bs) 256 =
    replicate-append-replicate (length f) (length r) 256 ∙ ap (λ (k : ℕ). replicate {A = ℕ} k 256) n in
    ap (λ (x : Record). walk line (x ∷ more) (p ++ replicate (length bs) 256)) (record_is address f (omega arith) (few-taken bs) fits)
    ∙ walk-on line here more (p ++ replicate (length bs) 256) refl refl (p ++ (f ++ replicate (length r) 256))
    (ap (λ (g : List ℕ). give address f (p ++ g)) (sym blanks) ∙ give-blank f p (replicate (length r) 256) address (λ h. e (omega (arith, n))))
    ∙ ap (walk (line + 1) more) (sym (append_assoc p f (replicate (length r) 256)))
    ∙ walk-records records (address + 16) (line + 1) (p ++ f) r
    (λ h. omega (arith, e (omega (arith, n)), length-append p f, length-take 16 bs, length-drop 16 bs)) (omega (arith, length-drop 16 bs)) (omega arith)
    (both Byte p f u fits) (dropped Byte 16 bs v)
    ∙ ap (λ (k : ℕ). walked (at k 0) ((p ++ f) ++ r)) (omega arith)
    ∙ ap (walked (at (line + suc records + 1) 0)) (append_assoc p f r ∙ ap (λ (t : List ℕ). p ++ t) (take-append-drop 16 bs))

-- a reader finds the lines
pub lines-found : (bs : List ℕ) → Bytes bs → length bs ≤ 65536 → lines (text_of bs) ≡ record_lines (records_for (length bs)) 0 bs
unfolding text_of
lines-found bs are inside =
    let n = records_for (length bs) in
    lines-joined (record_lines n 0 bs) (lines-good n 0 bs are (omega arith))

-- "Reading back what was written": of any bytes whose addresses fit a record
pub image-read-back : ImageReadBack
image-read-back width size bs before are long inside e =
    let n = records_for (length bs) in
    let walked-is : walk 0 (map intel_hex (lines (text_of bs))) (blank width size) ≡ walked (at (n + 1) 0) bs =
    ap (λ (ls : List (List ℕ)). walk 0 (map intel_hex ls) (blank width size)) (lines-found bs are inside)
    ∙ ap (λ (k : ℕ). walk 0 (map intel_hex (record_lines n 0 bs)) (replicate k 256)) (sym long)
    ∙ walk-records n 0 0 [] bs (λ h. refl) (omega arith) (omega arith) tt are
    ∙ ap (λ (k : ℕ). walked (at k 0) bs) (omega arith) in
    load-taken intel_hex width size (text_of bs) before e (at (n + 1) 0) bs (sym walked-is) refl
