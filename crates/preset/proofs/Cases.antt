-- One RAM, its text and half of it, by computing: the digits, the order of the bytes, the addresses and the end are those of 02. Assumes nothing.
use mathlib.Core.Path.{◌≡◌, refl}
use mathlib.Core.List.{List, [], ◌∷◌, ◌++◌}
use Prim.Native.Nat.{ℕ}
use lib.ListN.{take, drop, replicate}
use Rattle.image.specs.Quoted.{quoted}
use Rattle.image.specs.Hexadecimal.{digit, byte, byte_at, bytes_of, all_digits, total}
use Rattle.image.specs.Lines.{lines, joined}
use Rattle.image.specs.IntelHex.{ending, formed, said, record_head, data_part, intel_hex}
use Rattle.image.specs.Image.{give, missing, at, ended, walk, value, cells, low_first, cell_bytes, loaded, load}
use Rattle.preset.specs.Written.{capital, spelled, record_line, end_line, record_lines, text_of}
use Rattle.preset.specs.Preset.{load_preset, preset_text}

ram : List ℕ
ram = 0x1234 ∷ 0xABCD ∷ 0x00FF ∷ 0xFF00 ∷ 0 ∷ 0 ∷ 0 ∷ 0 ∷ 0x0A0B ∷ (replicate 118 0 ++ 0x8001 ∷ [])

text : List ℕ
text = preset_text ram

-- low byte first; addresses in hexadecimal, high byte first; check bytes; capitals; line feeds; the end record
records : (take 44 text ≡ quoted ":100000003412CDABFF0000FF000000000000000034\n") × (take 44 (drop 44 text) ≡ quoted ":100010000B0A0000000000000000000000000000CB\n")
    × (take 44 (drop 440 text) ≡ quoted ":1000A0000000000000000000000000000000000050\n") × (drop 660 text ≡ quoted ":1000F000000000000000000000000000000001807F\n:00000001FF\n")
unfolding ram text quoted text_of joined record_lines record_line end_line spelled capital total cell_bytes low_first
records = (refl, refl, refl, refl)

-- yesterday's cells
abbrev yesterday : List ℕ
yesterday = replicate 128 7

-- the whole preset is taken; half of it is 15, told at its end record, and the RAM keeps every cell
loads : (load_preset text yesterday ≡ loaded (at 17 0) ram) × (load_preset (take 352 text ++ quoted ":00000001FF\n") yesterday ≡ loaded (at 9 15) yesterday)
unfolding ram text quoted text_of joined record_lines record_line end_line spelled capital total cell_bytes low_first load walk lines intel_hex record_head said give
    missing ended value cells formed ending all_digits bytes_of byte_at byte digit data_part
loads = (refl, refl)
