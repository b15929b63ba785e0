-- A name's code is its place in the table of codes.
-- Assumes nothing.
use mathlib.Core.Path.{◌≡◌, refl}
use Rattle.codes.specs.Codes.{source_of, source_code, destination_of, destination_code}
use Rattle.codes.specs.declared.Source.{Source}
use Rattle.codes.specs.declared.Source.TheVariants as Src
use Rattle.codes.specs.declared.Destination.{Destination}
use Rattle.codes.specs.declared.Destination.TheVariants as Dst

pub source-coded : (s : Source) → source_of (source_code s) ≡ s
source-coded = elim [ Src.NoneOrTrb ↦ refl | Src.A ↦ refl | Src.B ↦ refl | Src.Tr ↦ refl | Src.Dp ↦ refl | Src.Rp ↦ refl | Src.Ro ↦ refl | Src.Sgn ↦ refl | Src.Dr ↦ refl | Src.Drnf ↦ refl | Src.Sr ↦ refl | Src.Sim ↦ refl | Src.Sil ↦ refl | Src.K ↦ refl | Src.L ↦ refl | Src.Mem ↦ refl ]

pub destination-coded : (d : Destination) → destination_of (destination_code d) ≡ d
destination-coded = elim [ Dst.None ↦ refl | Dst.A ↦ refl | Dst.B ↦ refl | Dst.Tr ↦ refl | Dst.Dp ↦ refl | Dst.Rp ↦ refl | Dst.Dr ↦ refl | Dst.Sr ↦ refl | Dst.Sol ↦ refl | Dst.Som ↦ refl | Dst.K ↦ refl | Dst.Klr ↦ refl | Dst.Klm ↦ refl | Dst.L ↦ refl | Dst.NoneOrTrb ↦ refl | Dst.Mem ↦ refl ]
