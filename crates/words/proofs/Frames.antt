-- What a reader asks of one word: a refused one changes nothing; word 0 changes PC only.
-- Assumes nothing.
use Prim.Native.Nat.{ℕ}
use mathlib.Core.Path.{◌≡◌, refl}
use mathlib.Core.Bool.{Bool, true, false, cond}
use mathlib.Core.List.{List}
use lib.Dec.{eqb}
use Rattle.alu.specs.Operations.{operated}
use Rattle.device.specs.Lent.{word_at}
use Rattle.device.specs.declared.registers.Registers.{Registers}
use Rattle.device.proofs.Widths.{ram_pointer_moved-still}
use Rattle.word.specs.Word.{Taken, word_of, taken_apart}
use Rattle.word.specs.declared.Word.{Word}
use Rattle.word.specs.declared.Word.TheVariants.{Op, Rt, Jp, JpCode, Ldi}
use Rattle.codes.specs.Codes.{source_of}
use Rattle.codes.specs.declared.Source.{Source}
use Rattle.codes.specs.declared.Source.TheVariants as Src
use Rattle.stages.specs.Bus.{bus_of, read_from}
use Rattle.stages.specs.Accumulators.{accumulated}
use Rattle.stages.specs.Destinations.{loaded, ram_loaded}
use Rattle.stages.specs.Pointing.{pointed}
use Rattle.flow.specs.Stack.{stepped}
use Rattle.words.specs.Outcomes.{refused_word, finished_word, decided}
use Rattle.words.specs.Refusals.{op_refusal, jp_refusal, ldi_refusal}
use Rattle.words.specs.Operation.{op_registers, op_trb, op_ram, op_word}
use Rattle.words.specs.Jump.{jp_registers, jp_word}
use Rattle.words.specs.Load.{ldi_registers, ldi_trb, ldi_ram, ldi_word}
use Rattle.words.specs.Word.{row_done, fetched_done, word_done}
use Rattle.words.specs.OneWord.{Unchanged, WordRefused, with_trb, NoTrb}

-- an outcome that is a finished one where its number is 0
either : (n : ℕ) (q r : Registers) (after-trb trb : ℕ) (after ram : List ℕ) → ((decided n r trb ram (finished_word q after-trb after)).number ≡ 0 → ⊥)
    → Unchanged r trb ram (decided n r trb ram (finished_word q after-trb after))
either n q r after-trb trb after ram = go (eqb n 0)
  where
    go : (t : Bool) → ((cond t (finished_word q after-trb after) (refused_word n r trb ram)).number ≡ 0 → ⊥) → Unchanged r trb ram (cond t (finished_word q after-trb after) (refused_word n r trb ram))
    go true h = absurd (h refl)
    go false h = (refl, refl, refl)

row-refused : (large : Bool) (r : Registers) (trb : ℕ) (word : Word) (ram rom : List ℕ) → ((row_done large r trb word ram rom).number ≡ 0 → ⊥) → Unchanged r trb ram (row_done large r trb word ram rom)
unfolding op_word jp_word ldi_word
row-refused large r trb (Op f) ram rom h = either (op_refusal large false r f rom) (op_registers large false r trb f ram rom) r (op_trb large r trb f ram rom) trb (op_ram large r trb f ram rom) ram h
row-refused large r trb (Rt f) ram rom h = either (op_refusal large true r f rom) (op_registers large true r trb f ram rom) r (op_trb large r trb f ram rom) trb (op_ram large r trb f ram rom) ram h
row-refused large r trb (Jp f) ram rom h = either (jp_refusal large r (Jp f)) (jp_registers large r (Jp f)) r trb trb ram ram h
row-refused large r trb (JpCode f) ram rom h = either (jp_refusal large r (JpCode f)) (jp_registers large r (JpCode f)) r trb trb ram ram h
row-refused large r trb (Ldi f) ram rom h = either (ldi_refusal large r f rom) (ldi_registers large r f ram rom) r (ldi_trb large trb f) trb (ldi_ram r f ram) ram h

-- a refused word changes nothing
pub word-refused : WordRefused
unfolding word_done fetched_done
word-refused large r trb program rom ram h = go (eqb t.refusal 0) h
  where
    t : Taken
    t = taken_apart large (word_at program r.pc)

    go : (b : Bool) → ((cond b (row_done large r trb t.word ram rom) (refused_word t.refusal r trb ram)).number ≡ 0 → ⊥)
        → Unchanged r trb ram (cond b (row_done large r trb t.word ram rom) (refused_word t.refusal r trb ram))
    go true k = row-refused large r trb t.word ram rom k
    go false k = (refl, refl, refl)

-- word 0 changes PC only, whatever the registers hold
pub word-0 : (large : Bool) (r : Registers) (trb : ℕ) (program rom ram : List ℕ) → word_at program r.pc ≡ 0 → word_done large r trb program rom ram ≡ finished_word (stepped large r) trb ram
unfolding word_done fetched_done taken_apart word_of op_word op_refusal read_from accumulated operated loaded ram_loaded pointed
word-0 true r trb program rom ram e = rw (e, ram_pointer_moved-still r.dp)
word-0 false r trb program rom ram e = rw (e, ram_pointer_moved-still r.dp)

-- the smaller chip puts 0 on the bus where the larger one has TRB, and loads nothing there
same-bus : (r : Registers) (trb other : ℕ) (s : Source) (ram rom : List ℕ) → bus_of false r trb s ram rom ≡ bus_of false r other s ram rom
unfolding bus_of
same-bus r trb other Src.NoneOrTrb ram rom = refl
same-bus r trb other Src.A ram rom = refl
same-bus r trb other Src.B ram rom = refl
same-bus r trb other Src.Tr ram rom = refl
same-bus r trb other Src.Dp ram rom = refl
same-bus r trb other Src.Rp ram rom = refl
same-bus r trb other Src.Ro ram rom = refl
same-bus r trb other Src.Sgn ram rom = refl
same-bus r trb other Src.Dr ram rom = refl
same-bus r trb other Src.Drnf ram rom = refl
same-bus r trb other Src.Sr ram rom = refl
same-bus r trb other Src.Sim ram rom = refl
same-bus r trb other Src.Sil ram rom = refl
same-bus r trb other Src.K ram rom = refl
same-bus r trb other Src.L ram rom = refl
same-bus r trb other Src.Mem ram rom = refl

-- an outcome of which only TRB is another
apart : (n : ℕ) (r q : Registers) (trb other : ℕ) (ram after : List ℕ) → decided n r trb ram (finished_word q trb after) ≡ with_trb trb (decided n r other ram (finished_word q other after))
apart n r q trb other ram after = go (eqb n 0)
  where
    go : (t : Bool) → cond t (finished_word q trb after) (refused_word n r trb ram) ≡ with_trb trb (cond t (finished_word q other after) (refused_word n r other ram))
    go true = refl
    go false = refl

row-trb : (r : Registers) (trb other : ℕ) (word : Word) (ram rom : List ℕ) → row_done false r trb word ram rom ≡ with_trb trb (row_done false r other word ram rom)
unfolding op_word jp_word ldi_word
row-trb r trb other (Op f) ram rom = rw (same-bus r trb other (source_of f.src) ram rom) (apart (op_refusal false false r f rom) r (op_registers false false r other f ram rom) trb other ram (op_ram false r other f ram rom))
row-trb r trb other (Rt f) ram rom = rw (same-bus r trb other (source_of f.src) ram rom) (apart (op_refusal false true r f rom) r (op_registers false true r other f ram rom) trb other ram (op_ram false r other f ram rom))
row-trb r trb other (Jp f) ram rom = apart (jp_refusal false r (Jp f)) r (jp_registers false r (Jp f)) trb other ram ram
row-trb r trb other (JpCode f) ram rom = apart (jp_refusal false r (JpCode f)) r (jp_registers false r (JpCode f)) trb other ram ram
row-trb r trb other (Ldi f) ram rom = apart (ldi_refusal false r f rom) r (ldi_registers false r f ram rom) trb other ram (ldi_ram r f ram)

pub no-trb : NoTrb
unfolding word_done fetched_done
no-trb r trb other program rom ram = go (eqb t.refusal 0)
  where
    t : Taken
    t = taken_apart false (word_at program r.pc)

    go : (b : Bool) → cond b (row_done false r trb t.word ram rom) (refused_word t.refusal r trb ram) ≡ with_trb trb (cond b (row_done false r other t.word ram rom) (refused_word t.refusal r other ram))
    go true = row-trb r trb other t.word ram rom
    go false = refl
