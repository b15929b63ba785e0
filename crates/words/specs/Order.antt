-- 01, "Replies": "The lowest number that applies is given"; 02, E8: 18 stands "after 5 and before 6".
use Rattle.std.specs.Prelude.{ℕ, ◌≡◌, Bool, true, false, cond, ◌&&◌, List, [], ◌∷◌, nat_le, ◌==◌}
use Rattle.device.specs.Device.{chip, word_limit}
use Rattle.device.specs.Lent.{word_at}
use Rattle.device.specs.declared.registers.Registers.{Registers}
use Rattle.word.specs.Fields.{branch}
use Rattle.word.specs.JumpCodes.{branch_of}
use Rattle.word.specs.Word.{taken_apart}
use Rattle.word.specs.declared.Word.{Word}
use Rattle.word.specs.declared.Word.TheVariants.{Op, Rt, Jp, JpCode, Ldi}
use Rattle.codes.specs.Codes.{is_destination}
use Rattle.codes.specs.declared.Destination.TheVariants as Dst
use Rattle.words.specs.Refusals.{branch_unknown, unused_bits, source_missing, uses_cell, cell_too_wide, nothing_to_pop, stack_full}
use Rattle.words.specs.Word.{word_done}

-- a refusal's number, and whether it applies
abbrev pub Refusal : Type 0
Refusal = ℕ × Bool

-- the number of the first that applies, 0 if none does
abbrev pub lowest : List Refusal → ℕ
lowest [] = 0
lowest (refusal ∷ others) = cond refusal.1 refusal.0 (lowest others)

-- ---- what the tests of one row say of a word of any row

abbrev pub has_unknown_branch : Word → Bool
has_unknown_branch (Op f) = false
has_unknown_branch (Rt f) = false
has_unknown_branch (Jp f) = branch_unknown (Jp f)
has_unknown_branch (JpCode f) = branch_unknown (JpCode f)
has_unknown_branch (Ldi f) = false

abbrev pub lacks_source : Bool → Word → Bool
lacks_source large (Op f) = source_missing large f
lacks_source large (Rt f) = source_missing large f
lacks_source large (Jp f) = false
lacks_source large (JpCode f) = false
lacks_source large (Ldi f) = false

abbrev pub reads_cell : Word → Bool
reads_cell (Op f) = uses_cell f
reads_cell (Rt f) = uses_cell f
reads_cell (Jp f) = false
reads_cell (JpCode f) = false
reads_cell (Ldi f) = is_destination f.dst Dst.Klr

abbrev pub is_return : Word → Bool
is_return (Op f) = false
is_return (Rt f) = true
is_return (Jp f) = false
is_return (JpCode f) = false
is_return (Ldi f) = false

abbrev pub is_call : Word → Bool
is_call (Op f) = false
is_call (Rt f) = false
is_call (Jp f) = branch_of (Jp f) == branch.call
is_call (JpCode f) = branch_of (JpCode f) == branch.call
is_call (Ldi f) = false

-- the refusals of a word taken apart, and whether it was too wide, in the order in which they are given: another one is another line
abbrev pub refusals_of : Bool → Bool → Registers → Word → List ℕ → List Refusal
refusals_of large too_wide r word rom =
    (4, too_wide)
    ∷ (5, has_unknown_branch word)
    ∷ (18, unused_bits word)
    ∷ (6, lacks_source large word)
    ∷ (7, reads_cell word && cell_too_wide large r rom)
    ∷ (8, nothing_to_pop (is_return word) r)
    ∷ (9, is_call word && stack_full large r)
    ∷ []

abbrev pub refusals : Bool → Registers → ℕ → List ℕ → List Refusal
refusals large r w rom = refusals_of large (nat_le (word_limit (chip large)) w) r (taken_apart large w).word rom

-- the number with which a word is answered is the first of them that applies, 0 if none does
abbrev pub LowestGiven : Type 0
LowestGiven =
    (large : Bool) (r : Registers) (trb : ℕ) (program rom ram : List ℕ)
    → (word_done large r trb program rom ram).number ≡ lowest (refusals large r (word_at program r.pc) rom)

-- every two of 5 to 9 and 18 that can apply to one word, whatever else the machine holds: the first is given
abbrev pub FirstOfTwo : Type 0
FirstOfTwo =
    (r : Registers) (trb : ℕ) (program rom ram : List ℕ) →
    let word = word_at program r.pc in
    let number = (word_done false r trb program rom ram).number in
    (word ≡ 0x400001 → number ≡ 5)  -- JP with BRCH 000 and spare 1: 5 and 18
    × (word ≡ 0x60001b → number ≡ 18)  -- LDI to KLR with spare 1: 18 and, where the cell is too wide, 7
    × (word ≡ 0x540001 → number ≡ 18)  -- a call with spare 1: 18 and, where the stack is full, 9
    × (word ≡ 0x542000 → number ≡ 18)  -- a call with CND 1: the same
    × (word ≡ 0x00000b → number ≡ 6)  -- OP from no source to KLR: 6 and, where the cell is too wide, 7
    × (word ≡ 0x200001 → number ≡ 6)  -- RT from no source to A: 6 and, at depth 0, 8
    × (word ≡ 0x200060 → cell_too_wide false r rom ≡ true → number ≡ 7)  -- RT that reads RO: 7 and, at depth 0, 8

-- the same of the larger chip
abbrev pub FirstOfTwoLarge : Type 0
FirstOfTwoLarge =
    (r : Registers) (trb : ℕ) (program rom ram : List ℕ) →
    let word = word_at program r.pc in
    let number = (word_done true r trb program rom ram).number in
    (word ≡ 0x800001 → number ≡ 5)  -- JP with code 000H and spare 1: 5 and 18
    × (word ≡ 0xa80001 → number ≡ 18)  -- a call with spare 1: 18 and, where the stack is full, 9
    × (word ≡ 0xa82000 → number ≡ 5)  -- code 141H, a call with its lowest bit set: no code of the table, and no unused bit

-- 18 and 6 never apply to one word: that 18 stands before 6 is seen by 7 and 9, which stand behind it
abbrev pub NeverBoth : Type 0
NeverBoth = (large : Bool) (word : Word) → (unused_bits word && lacks_source large word) ≡ false

-- 02, E10: "6 never occurs on this chip, because source 0 is TRB; please show that. 7 doesn't occur either, as the cells are full width."
abbrev pub NeverSixOrSeven : Type 0
NeverSixOrSeven =
    (r : Registers) (trb : ℕ) (program rom ram : List ℕ)
    → ((word_done true r trb program rom ram).number ≡ 6 → ⊥) × ((word_done true r trb program rom ram).number ≡ 7 → ⊥)
