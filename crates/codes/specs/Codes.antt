-- "SRC 0 to 15" and "DST 0 to 15": 01, "Taking a word apart". A larger number is no code and names none. 002, section 2, tables 11 and 13: the
-- uPD77C25 has the same codes, but source 0 and destination 14 are TRB.
use Rattle.std.specs.Prelude.{ℕ, Bool, List, [], ◌∷◌, ◌==◌, slice_index_or}
use Rattle.codes.specs.declared.Source.{Source}
use Rattle.codes.specs.declared.Source.TheVariants as Src
use Rattle.codes.specs.declared.Destination.{Destination}
use Rattle.codes.specs.declared.Destination.TheVariants as Dst

abbrev pub sources : List Source
sources =
    Src.NoneOrTrb ∷ Src.A ∷ Src.B ∷ Src.Tr ∷ Src.Dp ∷ Src.Rp ∷ Src.Ro ∷ Src.Sgn ∷ Src.Dr ∷ Src.Drnf ∷ Src.Sr ∷ Src.Sim ∷ Src.Sil ∷ Src.K ∷ Src.L ∷ Src.Mem ∷ []

abbrev pub source_of : ℕ → Source
source_of code = slice_index_or sources code Src.NoneOrTrb

abbrev pub source_code : Source → ℕ
source_code = elim [ Src.NoneOrTrb ↦ 0 | Src.A ↦ 1 | Src.B ↦ 2 | Src.Tr ↦ 3 | Src.Dp ↦ 4 | Src.Rp ↦ 5 | Src.Ro ↦ 6 | Src.Sgn ↦ 7 | Src.Dr ↦ 8 | Src.Drnf ↦ 9 | Src.Sr ↦ 10 | Src.Sim ↦ 11 | Src.Sil ↦ 12 | Src.K ↦ 13 | Src.L ↦ 14 | Src.Mem ↦ 15 ]

abbrev pub destinations : List Destination
destinations =
    Dst.None ∷ Dst.A ∷ Dst.B ∷ Dst.Tr ∷ Dst.Dp ∷ Dst.Rp ∷ Dst.Dr ∷ Dst.Sr ∷ Dst.Sol ∷ Dst.Som ∷ Dst.K ∷ Dst.Klr ∷ Dst.Klm ∷ Dst.L ∷ Dst.NoneOrTrb ∷ Dst.Mem ∷ []

abbrev pub destination_of : ℕ → Destination
destination_of code = slice_index_or destinations code Dst.None

abbrev pub destination_code : Destination → ℕ
destination_code = elim [ Dst.None ↦ 0 | Dst.A ↦ 1 | Dst.B ↦ 2 | Dst.Tr ↦ 3 | Dst.Dp ↦ 4 | Dst.Rp ↦ 5 | Dst.Dr ↦ 6 | Dst.Sr ↦ 7 | Dst.Sol ↦ 8 | Dst.Som ↦ 9 | Dst.K ↦ 10 | Dst.Klr ↦ 11 | Dst.Klm ↦ 12 | Dst.L ↦ 13 | Dst.NoneOrTrb ↦ 14 | Dst.Mem ↦ 15 ]

-- a word's SRC, or DST, is the one named
abbrev pub is_source : ℕ → Source → Bool
is_source code s = code == source_code s

abbrev pub is_destination : ℕ → Destination → Bool
is_destination code d = code == destination_code d
