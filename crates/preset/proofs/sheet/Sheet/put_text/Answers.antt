-- `put_text`: what is left of the text is stored behind what is there.
use Rattle.std.proofs.Common.{◌≡◌, ◌+◌, ◌*◌, List, ℕ, length, drop, refl, sym, ap, ◌∙◌, arith}
use Rattle.std.proofs.lemmas.List.Edits.{sets}
use Rattle.preset.proofs.Texts.{left, left-all, next-size, next-length, next-stored, some-left, none-left, left-done, end-length}
use Rattle.preset.proofs.sheet.Sheet.put_text.Goals as goal

pub loop-record-init : goal.loop-record-init
loop-record-init c =
    let text = left-all c.args.bytes.now in record {
      room = refl;
      place = omega (arith, ap (λ (t : List ℕ). length t) text);
      so_far = ap (λ (t : List ℕ). sets c.args.self.now.text.now c.args.self.now.at t) text;
      same = refl;
    }

pub put_record-requires : goal.put_record-requires
put_record-requires c =
    let now = c.loop-record in
    let from = 16 * now.record in
    let some = some-left c.args.bytes.now now.record _ c.div_ceil-record-end.ensures c.loop-record-test.true in
    let size = next-size c.args.bytes.now from c.min-end.result some c.min-end.ensures in
    let room = next-length c.args.bytes.now from c.min-end.result some c.min-end.ensures in
    (omega (arith, size), omega (arith, room, now.invariant.place, now.invariant.room, c.requires.1))

pub loop-record-preserved : goal.loop-record-preserved
loop-record-preserved c =
    let now = c.loop-record in
    let bytes = c.args.bytes.now in
    let from = 16 * now.record in
    let some = some-left bytes now.record _ c.div_ceil-record-end.ensures c.loop-record-test.true in
    let put = c.put_record.ensures in
    let on : left (drop (from + 16) bytes) (from + 16) ≡ left (drop (16 * (now.record + 1)) bytes) (16 * (now.record + 1)) = ap (λ (k : ℕ). left (drop k bytes) k) (omega arith) in
    let room = next-length bytes from c.min-end.result some c.min-end.ensures in
    let stored = next-stored bytes from c.min-end.result some c.min-end.ensures now.self.text.now _ now.self.at _ put.text put.at in record {
      room = put.room ∙ now.invariant.room;
      place = omega (arith, ap (λ (t : List ℕ). length t) on, room, put.at, now.invariant.place);
      so_far = now.invariant.so_far ∙ stored ∙ ap (λ (t : List ℕ). sets c.put_record.new.self.text.now c.put_record.new.self.at t) on;
      same = put.same ∙ now.invariant.same;
    }

pub put_record-requires-2 : goal.put_record-requires-2
put_record-requires-2 c =
    let now = c.loop-record in
    let from = 16 * now.record in
    let none = none-left c.args.bytes.now now.record _ c.div_ceil-record-end.ensures c.loop-record-test.false in
    (omega arith, omega (arith, end-length (drop from c.args.bytes.now) from none, now.invariant.place, now.invariant.room, c.requires.1))

pub returns-clause-text : goal.returns-clause-text
returns-clause-text c =
    let now = c.loop-record in
    let from = 16 * now.record in
    let none = none-left c.args.bytes.now now.record _ c.div_ceil-record-end.ensures c.loop-record-test.false in
    c.put_record-2.ensures.text
    ∙ sym (now.invariant.so_far ∙ ap (sets now.self.text.now now.self.at) (left-done (drop from c.args.bytes.now) from none))

pub returns-clause-at : goal.returns-clause-at
returns-clause-at c =
    let now = c.loop-record in
    let from = 16 * now.record in
    let none = none-left c.args.bytes.now now.record _ c.div_ceil-record-end.ensures c.loop-record-test.false in
    omega (arith, end-length (drop from c.args.bytes.now) from none, c.put_record-2.ensures.at, now.invariant.place)
