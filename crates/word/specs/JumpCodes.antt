-- What a JP word asks for, by the fields of either chip. On the uPD77P20 BRCH and CND say it (01, "JP and LDI"); on the uPD77C25 one code of nine bits,
-- which has BRCH at its top, then CND, and a last bit that turns the condition round.
use Rattle.std.specs.Prelude.{ℕ, zero, suc, ◌+◌, ◌-◌, ◌<◌, ◌≡◌, Bool, false, cond, ◌||◌, List, [], ◌∷◌, ◌==◌}
use Rattle.numbers.specs.Bits.{bits}
use Rattle.word.specs.Fields.{branch}
use Rattle.word.specs.declared.Word.{Word}
use Rattle.word.specs.declared.Word.TheVariants.{Op, Rt, Jp, JpCode, Ldi}

-- 002, section 2, table 14, in its order: JMP, CALL; 34 jumps on a condition, of which JDPLN0 (0B1H) and JDPLNF (0B3H) ask that it does not hold
abbrev pub jump_codes : List ℕ
jump_codes =
    0x100 ∷ 0x140
    -- JNCA, JCA, JNCB, JCB, JNZA, JZA, JNZB, JZB
    ∷ 0x080 ∷ 0x082 ∷ 0x084 ∷ 0x086 ∷ 0x088 ∷ 0x08a ∷ 0x08c ∷ 0x08e
    -- JNOVA0, JOVA0, JNOVB0, JOVB0, JNOVA1, JOVA1, JNOVB1, JOVB1
    ∷ 0x090 ∷ 0x092 ∷ 0x094 ∷ 0x096 ∷ 0x098 ∷ 0x09a ∷ 0x09c ∷ 0x09e
    -- JNSA0, JSA0, JNSB0, JSB0, JNSA1, JSA1, JNSB1, JSB1
    ∷ 0x0a0 ∷ 0x0a2 ∷ 0x0a4 ∷ 0x0a6 ∷ 0x0a8 ∷ 0x0aa ∷ 0x0ac ∷ 0x0ae
    -- JDPL0, JDPLN0, JDPLF, JDPLNF
    ∷ 0x0b0 ∷ 0x0b1 ∷ 0x0b2 ∷ 0x0b3
    -- JNSIAK, JSIAK, JNSOAK, JSOAK, JNRQM, JRQM
    ∷ 0x0b4 ∷ 0x0b6 ∷ 0x0b8 ∷ 0x0ba ∷ 0x0bc ∷ 0x0be
    ∷ []

abbrev pub one_of : ℕ → List ℕ → Bool
one_of n [] = false
one_of n (m ∷ ms) = n == m || one_of n ms

-- the same by the code's parts
abbrev pub listed : ℕ → Bool
listed code =
    cond (bits code 8 6 == branch.conditional) (bits code 0 0 == 0 || (code == 0x0b1 || code == 0x0b3)) (code == 0x100 || code == 0x140)

abbrev pub Listed : Type 0
Listed = (code : ℕ) → code < 512 → listed code ≡ one_of code jump_codes

-- how many of the codes below n are listed
abbrev pub listed_below : ℕ → ℕ
listed_below zero = 0
listed_below (suc n) = cond (listed n) 1 0 + listed_below n

-- of the 512 codes of nine bits 36 are listed, so that 476 are refused
abbrev pub ThirtySix : Type 0
ThirtySix = (listed_below 512 ≡ 36) × (512 - listed_below 512 ≡ 476)

-- BRCH; 0, which is none of 010, 100 and 101, for a code that the table does not list and for a word that is no JP word
unfoldable pub branch_of : Word → ℕ
branch_of (Op f) = 0
branch_of (Rt f) = 0
branch_of (Jp f) = f.brch
branch_of (JpCode f) = cond (listed f.code) (bits f.code 8 6) 0
branch_of (Ldi f) = 0

-- CND
unfoldable pub condition_of : Word → ℕ
condition_of (Op f) = 0
condition_of (Rt f) = 0
condition_of (Jp f) = f.cnd
condition_of (JpCode f) = bits f.code 5 1
condition_of (Ldi f) = 0

-- "jumps on low DP not 0 and not 15": the jump is taken where its condition does not hold
unfoldable pub turned_round : Word → Bool
turned_round (Op f) = false
turned_round (Rt f) = false
turned_round (Jp f) = false
turned_round (JpCode f) = bits f.code 0 0 == 1
turned_round (Ldi f) = false

-- NA
unfoldable pub address_of : Word → ℕ
address_of (Op f) = 0
address_of (Rt f) = 0
address_of (Jp f) = f.na
address_of (JpCode f) = f.na
address_of (Ldi f) = 0
