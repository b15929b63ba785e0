-- `put_bytes`: what is left is stored behind what is there.
use Rattle.std.proofs.Common.{◌≡◌, ◌+◌, ◌*◌, length, drop}
use Rattle.std.proofs.lemmas.List.Edits.{sets}
use Rattle.preset.specs.Written.{spelled}
use Rattle.preset.proofs.sheet.Sheet.put_bytes.Given as goal

abbrev pub invariant-loop-byte : goal.invariant-loop-byte
invariant-loop-byte l =
    (length l.self.text.now ≡ length l.fn.self.text.now) × (l.self.at ≡ l.fn.self.at + 2 * l.byte-index)
    × (sets l.fn.self.text.now l.fn.self.at (spelled l.bytes) ≡ sets l.self.text.now l.self.at (spelled (drop l.byte-index l.bytes)))
    × (l.self.text.ghost_name ≡ l.fn.self.text.ghost_name)
