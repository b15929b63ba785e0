-- `walk`: the lines that are left, on what was given so far, make the whole; a line has at least one character, so that lines can be counted.
use Rattle.std.proofs.Common.{◌+◌, ◌==◌, Bool, List, ℕ, length, refl, sym, ap, ◌∙◌, arith}
use Rattle.refusals.specs.Refusals.{number_of}
use Rattle.image.specs.Lines.{lines}
use Rattle.image.specs.Image.{Loading, walked, ended}
use Rattle.image.specs.Replies.{type_of, marks}
use Rattle.image.proofs.Lines.{lines-count}
use Rattle.refusals.proofs.Numbers.{not_0}
use Rattle.image.proofs.Walking.{text-stop, text-end, text-on, walk-over, some-next}
use Rattle.image.proofs.text.walk.Goals as goal

pub loop-here-init : goal.loop-here-init
loop-here-init c = (omega (arith, lines-count c.args.text.now), refl)

pub loop-here-preserved : goal.loop-here-preserved
loop-here-preserved c =
    let now = c.loop-here in
    let cut = c.in-Some.ensures.steps in
    let last = c.in-Ok-Data.ensures.last ∙ ap (λ kind. type_of kind == 1) c.in-Ok-Data.field-0-is in (
      omega (arith, now.invariant.0, ap (λ (ls : List (List ℕ)). length ls) cut),
      now.invariant.1 ∙ text-on now.line _ _ c.in-Some.here.now (marks now.given) cut 0 _ c.in-Ok-Data.ensures.put refl last,
    )

pub returns-in-Ok-End : goal.returns-in-Ok-End
returns-in-Ok-End c =
    let now = c.loop-here in
    let cut = c.in-Some.ensures.steps in
    let last = c.in-Ok-End.ensures.last ∙ ap (λ kind. type_of kind == 1) c.in-Ok-End.field-0-is in
    let g = marks c.take_line.new.given in
    let after = c.is_some.ensures ∙ some-next c.next-in-Ok-End.result (lines c.next.new.self.0.now) _ (λ x. x.now) c.next-in-Ok-End.ensures.steps in
    ap (λ (end : Loading). walked end g) (c.ended.ensures ∙ ap (λ (b : Bool). ended (now.line + 1) b g) after)
    ∙ sym (now.invariant.1 ∙ text-end now.line _ _ c.in-Some.here.now (marks now.given) cut 0 _ c.in-Ok-End.ensures.put refl last)

pub returns-in-Err : goal.returns-in-Err
returns-in-Err c =
    let now = c.loop-here in
    let r = c.in-Err.refusal in
    sym (now.invariant.1 ∙ text-stop now.line _ _ c.in-Some.here.now (marks now.given) c.in-Some.ensures.steps (number_of r) _ c.in-Err.ensures.put
    (not_0 r))

pub returns : goal.returns
returns c =
    let now = c.loop-here in
    ap (λ (end : Loading). walked end (marks now.given)) c.unended.ensures
    ∙ sym (now.invariant.1 ∙ walk-over now.line _ (marks now.given) c.in_default.ensures.steps.0)
