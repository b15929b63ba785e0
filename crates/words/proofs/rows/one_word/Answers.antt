-- `one_word`: a range of words is a row, and the row decides the definition.
use Rattle.words.specs.Word.{word_done}
use Rattle.words.proofs.Composed.{fetched-op, fetched-jp, fetched-ldi, fetched-refused}
use Rattle.words.proofs.rows.one_word.Goals as goal

pub returns-then-v-lt-FIRST_JP : goal.returns-then-v-lt-FIRST_JP
unfolding word_done
returns-then-v-lt-FIRST_JP g c =
    let s = c.args in
    rw (c.op_word.ensures, ← c.word-w.ensures) (fetched-op g.C.Chip.LARGE s.state.registers s.state.trb c.word-w.result s.ram.now s.images.rom.now c.aligned-v.ensures c.if-v-lt-FIRST_JP.true)

pub returns-then-v-lt-FIRST_LDI : goal.returns-then-v-lt-FIRST_LDI
unfolding word_done
returns-then-v-lt-FIRST_LDI g c =
    let s = c.args in
    rw (c.jp_word.ensures, ← c.word-w.ensures)
    (fetched-jp g.C.Chip.LARGE s.state.registers s.state.trb c.word-w.result s.ram.now s.images.rom.now c.aligned-v.ensures c.if-v-lt-FIRST_JP.false c.if-v-lt-FIRST_LDI.true)

pub returns-then-v-lt-FIRST_WIDE : goal.returns-then-v-lt-FIRST_WIDE
unfolding word_done
returns-then-v-lt-FIRST_WIDE g c =
    let s = c.args in
    rw (c.ldi_word.ensures, ← c.word-w.ensures)
    (fetched-ldi g.C.Chip.LARGE s.state.registers s.state.trb c.word-w.result s.ram.now s.images.rom.now c.aligned-v.ensures c.if-v-lt-FIRST_LDI.false c.if-v-lt-FIRST_WIDE.true)

pub returns : goal.returns
unfolding word_done
returns g c =
    let s = c.args in
    rw (c.refuse.ensures, ← c.word-w.ensures) (fetched-refused g.C.Chip.LARGE s.state.registers s.state.trb c.word-w.result s.ram.now s.images.rom.now c.aligned-v.ensures c.if-v-lt-FIRST_WIDE.false)
