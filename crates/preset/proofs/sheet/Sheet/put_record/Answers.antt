-- `put_record`: colon, head, data, check byte and line feed, each behind the one before.
use Rattle.std.proofs.Common.{List, ℕ, ap, ◌∙◌, arith}
use Rattle.std.proofs.lemmas.List.Edits.{sets}
use Rattle.preset.specs.Written.{spelled}
use Rattle.image.specs.Replies.{type_of}
use Rattle.preset.proofs.Lines.{line-stored, head-is, check-is}
use Rattle.preset.proofs.sheet.Sheet.put_record.Goals as goal

pub returns-clause-text : goal.returns-clause-text
returns-clause-text c =
    let a = c.args in
    let kind = type_of a.kind in
    let high_low = c.to_be_bytes.ensures in
    line-stored kind a.address a.bytes.now a.self.now.text.now _ _ _ _ _ a.self.now.at _ _ _ _ c.check_byte.result c.put.ensures.text c.put.ensures.at
    (c.put_bytes.ensures.text ∙ ap (λ (h : List ℕ). sets c.put.new.self.text.now c.put.new.self.at (spelled h)) (head-is kind a.address a.bytes.now c.to_be_bytes.result c.from.result c.ranges.address.fits high_low c.from.ensures))
    c.put_bytes.ensures.at c.put_bytes-2.ensures.text c.put_bytes-2.ensures.at c.put_byte.ensures.text c.put_byte.ensures.at c.put-2.ensures.text
    (check-is kind a.address a.bytes.now c.to_be_bytes.result c.from.result c.ranges.address.fits high_low c.from.ensures c.check_byte.result (omega arith) c.check_byte.ensures)
