-- Cells and their bytes, back and forth. Assumes nothing.
use mathlib.Core.Path.{◌≡◌, refl, ap, ap₂, ◌∙◌}
use mathlib.Core.List.{List, [], ◌∷◌, ◌++◌}
use Prim.Native.Nat.{ℕ, zero, suc, ◌+◌, ◌*◌, ◌/◌, ◌%◌, ◌<◌}
use native.Mathlib.Omega.{arith}
use native.Mathlib.Nat.{mul-suc}
use lib.ListN.{length, get_or, take, drop, length-append, length-take, length-drop, take-append-drop}
use lib.Seq.{take_at, drop_at}
use Rattle.numbers.specs.Every.{Every}
use Rattle.image.specs.Hexadecimal.{byte, bytes_of}
use Rattle.image.specs.Image.{value, cells, low_first, cell_bytes}
use Rattle.image.proofs.Members.{taken, dropped, both}

-- numbers that are bytes
abbrev pub Byte : ℕ → Type 0
Byte b = b < 256

abbrev pub Bytes : List ℕ → Type 0
Bytes = Every Byte

pub member_below : (bs : List ℕ) (i : ℕ) → Bytes bs → get_or bs i 0 < 256
member_below [] i h = omega arith
member_below (b ∷ bs) zero h = h.0
member_below (b ∷ bs) (suc i) h = member_below bs i h.1

-- what two hexadecimal characters spell is a byte
byte-below : (high low : ℕ) → byte high low < 256
unfolding byte
byte-below high low = omega arith

pub bytes_below : (cs : List ℕ) → Bytes (bytes_of cs)
unfolding bytes_of
bytes_below [] = tt
bytes_below (high ∷ []) = tt
bytes_below (high ∷ low ∷ cs) = (byte-below high low, bytes_below cs)

-- what so many bytes hold is below this
unfoldable pub limit : ℕ → ℕ
limit zero = 1
limit (suc width) = 256 * limit width

pub value-below : (width : ℕ) (bs : List ℕ) → Bytes bs → length bs ≡ width → value bs < limit width
unfolding value limit
value-below zero [] h e = omega arith
value-below zero (b ∷ bs) h e = absurd (omega arith)
value-below (suc width) [] h e = absurd (omega arith)
value-below (suc width) (b ∷ bs) h e = omega (arith, h.0, value-below width bs h.1 (omega arith))

value-back : (width v : ℕ) → v < limit width → value (low_first width v) ≡ v
unfolding value low_first limit
value-back zero v h = omega arith
value-back (suc width) v h = omega (arith, value-back width (v / 256) (omega arith))

low-back : (width : ℕ) (bs : List ℕ) → Bytes bs → length bs ≡ width → low_first width (value bs) ≡ bs
unfolding value low_first
low-back zero [] h e = refl
low-back zero (b ∷ bs) h e = absurd (omega arith)
low-back (suc width) [] h e = absurd (omega arith)
low-back (suc width) (b ∷ bs) h e =
    let low : (b + 256 * value bs) % 256 ≡ b = omega (arith, h.0) in
    let rest : (b + 256 * value bs) / 256 ≡ value bs = omega (arith, h.0) in
    rw (low, rest) (ap (λ (l : List ℕ). b ∷ l) (low-back width bs h.1 (omega arith)))

length-low : (width v : ℕ) → length (low_first width v) ≡ width
unfolding low_first
length-low zero v = refl
length-low (suc width) v = ap suc (length-low width (v / 256))

pub length-bytes : (width : ℕ) (vs : List ℕ) → length (cell_bytes width vs) ≡ width * length vs
unfolding cell_bytes
length-bytes width [] = omega arith
length-bytes width (v ∷ vs) =
    rw (length-append, length-low, length-bytes width vs, mul-suc) (omega arith)

bytes_low : (width v : ℕ) → Bytes (low_first width v)
unfolding low_first
bytes_low zero v = tt
bytes_low (suc width) v = (omega arith, bytes_low width (v / 256))

pub cells-bytes : (width : ℕ) (vs : List ℕ) → Bytes (cell_bytes width vs)
unfolding cell_bytes
cells-bytes width [] = tt
cells-bytes width (v ∷ vs) = both Byte (low_first width v) (cell_bytes width vs) (bytes_low width v) (cells-bytes width vs)

-- the bytes of cells make these cells
pub cells-back : (width : ℕ) (vs : List ℕ) → Every (λ v. v < limit width) vs → cells width (length vs) (cell_bytes width vs) ≡ vs
unfolding cells cell_bytes
cells-back width [] h = refl
cells-back width (v ∷ vs) h =
    let here = low_first width v in
    let more = cell_bytes width vs in
    rw (take_at here more width (length-low width v), drop_at here more width (length-low width v), value-back width v h.0)
    (ap (λ (l : List ℕ). v ∷ l) (cells-back width vs h.1))

-- and the cells of bytes have these bytes, and are below the limit
module _ (width : ℕ) where
  first-long : (size : ℕ) (bs : List ℕ) → length bs ≡ width * suc size → length (take width bs) ≡ width
  first-long size bs e = omega (arith, length-take width bs, mul-suc width size)

  rest-long : (size : ℕ) (bs : List ℕ) → length bs ≡ width * suc size → length (drop width bs) ≡ width * size
  rest-long size bs e = omega (arith, length-drop width bs, mul-suc width size)

  pub bytes_back : (size : ℕ) (bs : List ℕ) → Bytes bs → length bs ≡ width * size → cell_bytes width (cells width size bs) ≡ bs
  unfolding cells cell_bytes
  bytes_back zero [] h e = refl
  bytes_back zero (b ∷ bs) h e = absurd (omega arith)
  bytes_back (suc size) bs h e =
      ap₂ (λ (x y : List ℕ). x ++ y) (low-back width (take width bs) (taken Byte width bs h) (first-long size bs e))
      (bytes_back size (drop width bs) (dropped Byte width bs h) (rest-long size bs e))
      ∙ take-append-drop width bs

  pub cells-below : (size : ℕ) (bs : List ℕ) → Bytes bs → length bs ≡ width * size → Every (λ v. v < limit width) (cells width size bs)
  unfolding cells
  cells-below zero bs h e = tt
  cells-below (suc size) bs h e = (
    value-below width (take width bs) (taken Byte width bs h) (first-long size bs e),
    cells-below size (drop width bs) (dropped Byte width bs h) (rest-long size bs e),
  )
