-- `run`: each turn of the loop is one word of the run.
use Rattle.machine.proofs.Runs.{Going}
use Rattle.machine.proofs.run.run.Given as goal

abbrev pub invariant-loop-words : goal.invariant-loop-words
invariant-loop-words g l =
    Going g.C.Chip.LARGE l.count l.fn.registers l.fn.before l.images.program.now l.images.rom.now l.initial.ram l.words l.q l.trb l.ram
