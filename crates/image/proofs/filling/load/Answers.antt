-- `load`: by the laws of a load; of a text that is taken no byte is missing.
use Rattle.std.proofs.Common.{ℕ, map, refl, sym, ap, ◌∙◌}
use Rattle.refusals.specs.Refusals.{number_of}
use Rattle.image.specs.Lines.{lines}
use Rattle.image.specs.IntelHex.{intel_hex}
use Rattle.std.proofs.lemmas.List.{length-map}
use Rattle.image.specs.Image.{Loading, Walked, at, missing, cells, loaded}
use Rattle.image.specs.Replies.{marks}
use Rattle.refusals.proofs.Numbers.{not_0}
use Rattle.image.proofs.Replies.{fault-said}
use Rattle.image.proofs.Loads.{load-short, load-refused, load-taken, walk-blank}
use Rattle.image.proofs.Fills.{walk-whole}
use Rattle.image.proofs.filling.load.Goals as goal

pub returns-then-image-size : goal.returns-then-image-size
returns-then-image-size g c =
    let image = map g.C.Cell.number c.args.image.now in
    sym (load-short intel_hex g.C.Cell.BYTES c.args.size c.args.text.now image
    (λ e. c.if-image-size.true (sym (length-map c.args.image.now g.C.Cell.number) ∙ e)))

pub returns-in_err-line : goal.returns-in_err-line
returns-in_err-line g c =
    let width = g.C.Cell.BYTES in
    let size = c.args.size in
    let text = c.args.text.now in
    let image = map g.C.Cell.number c.args.image.now in
    let fault = c.in_err-line.field-0.0 in
    let long = length-map c.args.image.now g.C.Cell.number ∙ c.if-image-size.false in
    ap (λ (end : Loading). loaded end image) (fault-said c.from_residual.result fault c.from_residual.ensures.1)
    ∙ sym (load-refused intel_hex width size text image long (at fault.line (number_of fault.refusal)) (marks c.walk.new.given)
    (walk-blank width size text c.args.given.now c.requires c.in_err-line.ensures) (not_0 fault.refusal))

pub fill-requires-clause-whole : goal.fill-requires-clause-whole
fill-requires-clause-whole g c =
    let taken = c.in_ok-line.ensures in
    ap (λ (w : Walked). missing w.bytes) taken
    ∙ walk-whole 0 (map intel_hex (lines c.args.text.now)) (marks c.args.given.now) (sym (ap (λ (w : Walked). w.number) taken))

pub returns : goal.returns
returns g c =
    let width = g.C.Cell.BYTES in
    let size = c.args.size in
    let text = c.args.text.now in
    let image = map g.C.Cell.number c.args.image.now in
    let given = marks c.walk.new.given in
    let end = at c.in_ok-line.line 0 in
    let long = length-map c.args.image.now g.C.Cell.number ∙ c.if-image-size.false in
    ap (loaded end) (c.fill.ensures ∙ ap (λ (n : ℕ). cells width n given) c.if-image-size.false)
    ∙ sym (load-taken intel_hex width size text image long end given (walk-blank width size text c.args.given.now c.requires c.in_ok-line.ensures) refl)
