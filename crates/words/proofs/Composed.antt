-- A word of each row, refused or done; and which row a fetched word has, by its size.
-- Assumes nothing.
use Prim.Native.Nat.{ℕ, ◌/◌, ◌≤◌, ◌<◌}
use native.Mathlib.Omega.{arith}
use mathlib.Core.Path.{◌≡◌, refl, ap, ◌∙◌}
use mathlib.Core.Bool.{Bool, true, false, cond, not, ◌&&◌, ◌||◌}
use mathlib.Core.List.{List}
use borrow.Author.Tests.{ne_eqb, lt-ltb, le-ltb, le-leb, lt-leb, ltb-true, ltb-false}
use lib.Dec.{ltb, leb, eqb}
use Rattle.numbers.specs.Bits.{bits}
use Rattle.device.specs.Device.{chip, word_limit}
use Rattle.device.specs.declared.registers.Registers.{Registers}
use Rattle.word.specs.Fields.{aligned, op_fields, jp_fields, code_fields, ldi_fields}
use Rattle.word.specs.Word.{jump_of, word_of, taken_apart}
use Rattle.word.specs.declared.OpFields.{OpFields}
use Rattle.word.specs.declared.LdiFields.{LdiFields}
use Rattle.word.specs.declared.Word.{Word}
use Rattle.codes.specs.Codes.{source_of, destination_of}
use Rattle.codes.specs.declared.Source.{Source}
use Rattle.codes.specs.declared.Destination.{Destination}
use Rattle.stages.specs.Bus.{bus_of, read_from}
use Rattle.stages.specs.Accumulators.{accumulated}
use Rattle.stages.specs.Destinations.{loaded, trb_loaded, ram_loaded}
use Rattle.stages.specs.Pointing.{pointed}
use Rattle.stages.proofs.Keeping.{accumulated-read, read-pointers, accumulated-pointers, pointed-loaded}
use Rattle.flow.specs.Stack.{stepped}
use Rattle.words.specs.Outcomes.{refused_word, finished_word}
use Rattle.words.specs.Refusals.{branch_unknown, unconditional, unused_bits, op_refusal, jp_refusal, ldi_refusal}
use Rattle.words.specs.Operation.{op_bus, op_registers, op_trb, op_ram, pc_moved, op_word}
use Rattle.words.specs.Load.{ldi_registers, ldi_trb, ldi_ram, ldi_word}
use Rattle.words.specs.Jump.{jp_word}
use Rattle.words.specs.Word.{row_done, fetched_done}
use Rattle.words.proofs.Between.{op_pointed}

-- ---- an OP or RT word

module _ (large rt : Bool) (r : Registers) (trb : ℕ) (f : OpFields) (ram rom : List ℕ) {n : ℕ} (number : n ≡ op_refusal large rt r f rom) where
  pub op-finished : n ≡ 0 → finished_word (op_registers large rt r trb f ram rom) (op_trb large r trb f ram rom) (op_ram large r trb f ram rom) ≡ op_word large rt r trb f ram rom
  unfolding op_word
  op-finished e = rw (← number, e)

-- the stages one after another, each reading what the one before it handed on, give what the definition reads from the state before the word.
module _ (large : Bool) (r : Registers) (trb : ℕ) (f : OpFields) (ram rom : List ℕ) where
  abbrev bus : ℕ
  bus = op_bus large r trb f ram rom

  abbrev read : Registers
  read = read_from r (source_of f.src)

  abbrev operated : Registers
  operated = accumulated read read f bus ram

  abbrev stored : Registers
  stored = loaded large operated.dp operated.rp operated (destination_of f.dst) bus ram rom

  same-operated : operated ≡ accumulated r read f bus ram
  same-operated = accumulated-read r (source_of f.src) f bus ram

  same-dp : operated.dp ≡ r.dp
  same-dp = (accumulated-pointers read read f bus ram).0 ∙ (read-pointers r (source_of f.src)).0

  same-rp : operated.rp ≡ r.rp
  same-rp = (accumulated-pointers read read f bus ram).1 ∙ (read-pointers r (source_of f.src)).1

  op-staged : pointed large stored.dp stored.rp stored f ≡ op_pointed large r trb f ram rom
  op-staged =
      pointed-loaded large operated.dp operated.rp operated f bus ram rom refl refl
      ∙ (λ i. pointed large (same-dp i) (same-rp i) (loaded large (same-dp i) (same-rp i) (same-operated i) (destination_of f.dst) bus ram rom) f)

  op-stored : ram_loaded operated.dp (destination_of f.dst) bus ram ≡ op_ram large r trb f ram rom
  op-stored = ap (λ dp. ram_loaded dp (destination_of f.dst) bus ram) same-dp

-- what the code has in hand at the end of the stages, put together
module _ (large rt : Bool) (r : Registers) (trb : ℕ) (f : OpFields) (ram rom : List ℕ) {n : ℕ} (number : n ≡ op_refusal large rt r f rom) (none : n ≡ 0)
    {source : Source} {destination : Destination} {dst : ℕ} (s : source ≡ source_of f.src) (d : destination ≡ destination_of f.dst) (code : dst ≡ f.dst) where
  pub op-composed : {bus after-trb : ℕ} {q₁ q₂ q₃ q₄ q₅ : Registers} {after : List ℕ}
      → bus ≡ bus_of large r trb source ram rom → after-trb ≡ trb_loaded large trb dst bus → q₁ ≡ read_from r source → q₂ ≡ accumulated q₁ q₁ f bus ram
      → q₃ ≡ loaded large q₂.dp q₂.rp q₂ destination bus ram rom → after ≡ ram_loaded q₂.dp destination bus ram
      → q₄ ≡ pointed large q₃.dp q₃.rp q₃ f → q₅ ≡ pc_moved large rt q₄ → finished_word q₅ after-trb after ≡ op_word large rt r trb f ram rom
  op-composed eb et e₁ e₂ e₃ ea e₄ e₅ =
      rw (e₅, e₄, e₃, ea, e₂, e₁, et, eb, s, d, code)
      ((λ i. finished_word (pc_moved large rt (op-staged large r trb f ram rom i)) (op_trb large r trb f ram rom) (op-stored large r trb f ram rom i)) ∙ op-finished large rt r trb f ram rom number none)

-- ---- a JP word

pub jp-unused : (large : Bool) (r : Registers) (trb : ℕ) (word : Word) (ram : List ℕ) → branch_unknown word ≡ false → unused_bits word ≡ true → refused_word 18 r trb ram ≡ jp_word large r trb word ram
unfolding jp_word jp_refusal
jp-unused large r trb word ram k u = rw (k, u)

-- which bits are unused, where it is known whether a condition is asked
pub unused-of : (large : Bool) (w : ℕ) (u : Bool) → unconditional (jump_of large w) ≡ u
    → unused_bits (jump_of large w) ≡ cond large (not (eqb (code_fields w).spare 0)) (not (eqb (jp_fields w).spare 0) || (u && not (eqb (jp_fields w).cnd 0)))
unused-of true w u e = refl
unused-of false w u e = rw e

-- ---- which row

-- a word is narrow enough where its fields above DPH-M are
narrow : (large : Bool) (w : ℕ) → aligned large w < 8388608 → ltb w (word_limit (chip large)) ≡ true
narrow true w h = lt-ltb w 16777216 (omega arith)
narrow false w h = lt-ltb w 8388608 h

wide : (large : Bool) (w : ℕ) → 8388608 ≤ aligned large w → ltb w (word_limit (chip large)) ≡ false
wide true w h = le-ltb w 16777216 (omega arith)
wide false w h = le-ltb w 8388608 h

module _ (large : Bool) (r : Registers) (trb w : ℕ) (ram rom : List ℕ) {v : ℕ} (e : v ≡ aligned large w) where
  -- the word's row, by the number of its two top bits
  row : {k : ℕ} → v / 2097152 ≡ k → v < 8388608 → bits (aligned large w) 22 21 ≡ k
  row k h = rw (← e) (omega arith)

  pub fetched-op : v < 4194304 → op_word large (leb 2097152 (aligned large w)) r trb (op_fields large w) ram rom ≡ fetched_done large r trb w ram rom
  unfolding fetched_done taken_apart word_of
  fetched-op h = rw (narrow large w (rw (← e) (omega arith))) (go (ltb v 2097152) refl)
    where
      go : (t : Bool) → ltb v 2097152 ≡ t → op_word large (leb 2097152 (aligned large w)) r trb (op_fields large w) ram rom ≡ row_done large r trb (word_of large w) ram rom
      go true k = let l = ltb-true v 2097152 k in rw (row {k = 0} (omega arith) (omega arith), lt-leb 2097152 (aligned large w) (rw (← e) l))
      go false k = let l = ltb-false v 2097152 k in rw (row {k = 1} (omega arith) (omega arith), le-leb 2097152 (aligned large w) (rw (← e) l))

  pub fetched-jp : 4194304 ≤ v → v < 6291456 → jp_word large r trb (jump_of large w) ram ≡ fetched_done large r trb w ram rom
  unfolding fetched_done taken_apart word_of
  fetched-jp l h = rw (narrow large w (rw (← e) (omega arith)), row {k = 2} (omega arith) (omega arith)) (by_jump large w)
    where
      by_jump : (chosen : Bool) (w : ℕ) → jp_word large r trb (jump_of chosen w) ram ≡ row_done large r trb (jump_of chosen w) ram rom
      by_jump true w = refl
      by_jump false w = refl

  pub fetched-ldi : 6291456 ≤ v → v < 8388608 → ldi_word large r trb (ldi_fields large w) ram rom ≡ fetched_done large r trb w ram rom
  unfolding fetched_done taken_apart word_of
  fetched-ldi l h = rw (narrow large w (rw (← e) (omega arith)), row {k = 3} (omega arith) (omega arith))

  pub fetched-refused : 8388608 ≤ v → refused_word 4 r trb ram ≡ fetched_done large r trb w ram rom
  unfolding fetched_done taken_apart
  fetched-refused h = rw (wide large w (rw (← e) (omega arith)))
