-- Texts that give FFH for every byte of a program and of a data ROM: they are taken, and no cell of theirs fits the chip. Assumes nothing.
use mathlib.Core.Path.{◌≡◌, sym, ap, ◌∙◌}
use mathlib.Core.List.{List}
use Prim.Native.Nat.{ℕ, zero, suc, ◌+◌, ◌*◌, ◌<◌, ◌≤◌}
use native.Mathlib.Omega.{arith}
use lib.ListN.{length, get_or, take, drop, replicate, length-replicate}
use Rattle.device.specs.Device.{upd77p20, word_limit, cell_limit}
use Rattle.image.specs.IntelHex.{intel_hex}
use Rattle.image.specs.Image.{at, value, cells, Loaded, loaded, load}
use Rattle.image.proofs.CellBytes.{Bytes}
use Rattle.image.proofs.Fills.{cells_at}
use Rattle.preset.specs.Written.{records_for, text_of}
use Rattle.preset.proofs.RoundTrip.{image-read-back}
use Rattle.loads.specs.Promises.{value_given, TakesWide}
use Rattle.loads.proofs.Places.{in-its-place}

all-bytes : (n : ℕ) → Bytes (replicate n 255)
all-bytes zero = tt
all-bytes (suc n) = (omega arith, all-bytes n)

-- so many bytes FFH, as they are written
module _ (width size limit : ℕ) (some : 0 < size) (few : width * size ≤ 65536)
    (wide : limit ≤ value (take width (drop (width * 0) (replicate (width * size) 255)))) where
  abbrev ones : List ℕ
  ones = replicate (width * size) 255

  read : load intel_hex width size (text_of ones) (replicate size 0) ≡ loaded (at (records_for (length ones) + 1) 0) (cells width size ones)
  read =
      image-read-back width size ones (replicate size 0) (all-bytes (width * size)) (length-replicate (width * size) 255)
      (omega (arith, length-replicate {A = ℕ} (width * size) 255)) (length-replicate size 0)

  is-taken : (load intel_hex width size (text_of ones) (replicate size 0)).number ≡ 0
  is-taken = ap (λ (l : Loaded). l.number) read

  first : value_given width (text_of ones) 0 ≡ value (take width (drop (width * 0) ones))
  first =
      sym (in-its-place width size (text_of ones) (replicate size 0) is-taken 0 some) ∙ ap (λ (l : Loaded). get_or l.image 0 0) read
      ∙ cells_at width size ones 0 some

  takes-wide : TakesWide width size limit
  takes-wide = (text_of ones, is-taken, omega (arith, first, wide))

pub takes-wide-words : TakesWide 4 upd77p20.words (word_limit upd77p20)
unfolding value
takes-wide-words = takes-wide 4 512 (word_limit upd77p20) (omega arith) (omega arith) (omega arith)

pub takes-wide-cells : TakesWide 2 upd77p20.cells (cell_limit upd77p20)
unfolding value
takes-wide-cells = takes-wide 2 512 (cell_limit upd77p20) (omega arith) (omega arith) (omega arith)
