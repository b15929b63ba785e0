-- `give`: what is left to give, on what was given so far, makes the whole.
use Rattle.std.proofs.Common.{sym, ap, ◌∙◌}
use borrow.Author.Tests.{eqb-true, eqb-false}
use Rattle.image.specs.Image.{give}
use Rattle.image.specs.Replies.{marks}
use Rattle.image.proofs.Giving.{give-go, give-stop, give-nothing}
use Rattle.image.proofs.text.give.Goals as goal

pub returns-then-not-is_free : goal.returns-then-not-is_free
returns-then-not-is_free c =
    let now = c.loop-byte in
    sym (now.invariant.2 ∙ give-stop now.byte-iterator.0.now c.next.new.self.0.now c.in-Some.byte now.address now.given c.in-Some.ensures.steps
    (eqb-false _ _ (sym c.if-not-is_free.ensures.value)))

pub loop-byte-preserved : goal.loop-byte-preserved
loop-byte-preserved c =
    let now = c.loop-byte in (
      tt,
      tt,
      now.invariant.2 ∙ give-go now.byte-iterator.0.now c.next.new.self.0.now c.in-Some.byte now.address now.given c.in-Some.ensures.steps
          (eqb-true _ _ (sym c.if-not-is_free.ensures.value)),
    )

pub returns : goal.returns
returns c =
    let now = c.loop-byte in
    sym (now.invariant.2 ∙ ap (λ bs. give now.address bs (marks now.given)) c.in-None.ensures.steps.0 ∙ give-nothing now.address (marks now.given))
