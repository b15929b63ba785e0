-- The replies to texts and presets as C holds them: each field the one of the definition's record.
use Rattle.std.specs.Prelude.{◌≡◌}
use Rattle.image.specs.Image.{Loading}
use Rattle.preset.specs.Preset.{Writing}
use Rattle.board.specs.declared.texts.Loading.{Loading as HeldLoading}
use Rattle.board.specs.declared.presets.Writing.{Writing as HeldWriting}

abbrev pub loading_held : HeldLoading → Loading
loading_held x = record { number = x.number; line = x.line }

abbrev pub writing_held : HeldWriting → Writing
writing_held x = record { number = x.number; length = x.length }

-- so that a promise of the definition's record leaves one of C's
abbrev pub OneLoading : Type 0
OneLoading = (x y : HeldLoading) → loading_held x ≡ loading_held y → x ≡ y

abbrev pub OneWriting : Type 0
OneWriting = (x y : HeldWriting) → writing_held x ≡ writing_held y → x ≡ y
