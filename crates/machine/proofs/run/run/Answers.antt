-- `run`: a refused word ends the run, a finished one leaves one fewer to go.
use Rattle.std.proofs.Common.{sym}
use Rattle.words.specs.Outcomes.{outcome}
use Rattle.machine.proofs.Runs.{turn, stopped, finished}
use Rattle.machine.proofs.run.run.Goals as goal

pub returns-then-done-ne0 : goal.returns-then-done-ne0
returns-then-done-ne0 g c =
    let w = c.one_word-done in
    sym (stopped c.loop-words.invariant (outcome w.result w.new.ram) w.ensures c.loop-words-test.true c.if-done-ne0.true)

pub loop-words-preserved : goal.loop-words-preserved
loop-words-preserved g c =
    let w = c.one_word-done in
    turn c.loop-words.invariant (outcome w.result w.new.ram) w.ensures c.loop-words-test.true c.if-done-ne0.false w.auto.ram

pub returns : goal.returns
returns g c = sym (finished c.loop-words.invariant c.loop-words-test.false)
