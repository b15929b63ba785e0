-- `put_text`: what is left of the text is stored behind what is there.
use Rattle.std.proofs.Common.{◌≡◌, ◌+◌, ◌*◌, length, drop}
use Rattle.std.proofs.lemmas.List.Edits.{sets}
use Rattle.preset.specs.Written.{text_of}
use Rattle.preset.proofs.Texts.{left}
use Rattle.preset.proofs.sheet.Sheet.put_text.Given as goal

abbrev pub invariant-loop-record : goal.invariant-loop-record
invariant-loop-record l =
    let from = 16 * l.record in
    let here = left (drop from l.bytes) from in record {
      room : length l.self.text.now ≡ length l.fn.self.text.now;
      place : l.self.at + length here ≡ l.fn.self.at + length (text_of l.bytes);
      so_far : sets l.fn.self.text.now l.fn.self.at (text_of l.bytes) ≡ sets l.self.text.now l.self.at here;
      same : l.self.text.ghost_name ≡ l.fn.self.text.ghost_name;
    }
