-- Runs of the machine that meet the premises of demand 3, and runs that show why each premise stands: without it the rest can be true and
-- the promise false. And calls that count words in every way.
use Rattle.std.specs.Prelude.{ℕ, ◌+◌, ◌-◌, ◌*◌, ◌≡◌, Bool, true, false, cond, List, [], ◌∷◌, ◌++◌, ℤ, pos, ◌+ℤ◌, ◌-ℤ◌, length, replicate}
use Rattle.numbers.specs.Signed.{signed}
use Rattle.device.specs.Device.{chip}
use Rattle.device.specs.Registers.{fresh_registers}
use Rattle.device.specs.Set.{set_depth, set_a, set_k, set_l, set_sr, set_flags_a, set_flags_b}
use Rattle.device.specs.declared.registers.Registers.{Registers}
use Rattle.alu.specs.Answer.{answer}
use Rattle.stages.specs.Accumulators.{accumulator_a}
use Rattle.accuracy.specs.Exact.{in32768ths, products, held_sum}
use Rattle.accuracy.specs.Deeds.{Call, ended, after, deeds}
use Rattle.accuracy.specs.Listed.{words_done, words_in, interrupts_in}
use Rattle.accuracy.specs.Adding.{added}
use Rattle.accuracy.specs.Demand3.{Clear, Unreset, AtMostThree, Alone, Apart, Near}

-- ---- machines, words and calls

-- a machine that has run nothing, but for A, K and L
abbrev pub from : ℕ → ℕ → ℕ → Registers
from a k l = set_l (set_k (set_a fresh_registers a) k) l

-- OP words of either chip that add M to A, ADD and ADC, with source 0 and no destination; LDI to L and to A
abbrev pub add_m : Bool → ℕ
add_m large = cond large 0x250000 0x128000

abbrev pub adc_m : Bool → ℕ
adc_m large = cond large 0x270000 0x138000

abbrev pub load_l : Bool → ℕ → ℕ
load_l large id = cond large (0xc0000d + id * 64) (0x60000d + id * 32)

abbrev pub load_a : Bool → ℕ → ℕ
load_a large id = cond large (0xc00001 + id * 64) (0x600001 + id * 32)

-- a call with a program that begins with these words; data ROM and RAM hold nothing
abbrev pub call : Bool → List ℕ → ℕ → ℕ → Call
call large words kind value =
    record {
      program = words ++ replicate ((chip large).words - length words) 0;
      rom = replicate (chip large).cells 0;
      ram = replicate (chip large).ram 0;
      kind = kind;
      value = value;
    }

-- one call that runs them all
abbrev pub run : Bool → List ℕ → List Call
run large words = call large words 0 (length words) ∷ []

-- how far the held sum is above the answer
abbrev pub distance : Bool → Registers → ℕ → List Call → ℤ
distance large r trb calls = held_sum r.a (added (deeds large r trb calls)) -ℤ in32768ths (answer (accumulator_a (after large r trb calls)))

-- the sum before it is held, in 32768ths
abbrev pub exact_sum : Bool → Registers → ℕ → List Call → ℤ
exact_sum large r trb calls = in32768ths (signed r.a) +ℤ products (added (deeds large r trb calls))

-- ---- the premises can be met, and the allowance is reached

-- bench case 10: "OV1 0, A = 0, three adds with K = FFFFH, L = 1: A = FFFDH, and the distance is 98301, the full allowance."
abbrev pub Tight : Bool → ℕ → Type 0
Tight large trb =
    let r = from 0 0xffff 1 in
    let calls = run large (add_m large ∷ add_m large ∷ add_m large ∷ []) in
    Clear r × Unreset large r trb calls × AtMostThree large r trb calls × Alone large r trb calls × Apart large r trb calls
    × ((after large r trb calls).a ≡ 0xfffd) × (distance large r trb calls ≡ pos 98301)

-- ---- three is the limit

-- "OV1 0, A = 7FFFH, adding 7FFFH three times gives FFFCH with OV1 1; a fourth add of 8001H gives 7FFDH with OV1 0, though the sum is 98301."
-- -32768 times -32767 makes M = 7FFFH, and -32768 times 32767 makes M = 8001H.
abbrev pub Sharp : Bool → ℕ → Type 0
Sharp large trb =
    let r = from 0x7fff 0x8000 0x8001 in
    let three = run large (add_m large ∷ add_m large ∷ add_m large ∷ []) in
    let four = run large (add_m large ∷ add_m large ∷ add_m large ∷ load_l large 0x7fff ∷ add_m large ∷ []) in
    ((after large r trb three).a ≡ 0xfffc) × ((after large r trb three).flags.a.ov1 ≡ true)
    × ((after large r trb four).a ≡ 0x7ffd) × ((after large r trb four).flags.a.ov1 ≡ false) × (exact_sum large r trb four ≡ in32768ths (pos 98301))

-- with four words that add, the promise is false: 7FFFH + 7FFFH + 7FFFH + 3 - 32767 leaves A = 1 with OV1 0
abbrev pub FourAdds : Bool → ℕ → Type 0
FourAdds large trb =
    let r = from 0x7fff 0x8000 0x8001 in
    let calls = run large (add_m large ∷ add_m large ∷ load_l large 0xfffd ∷ add_m large ∷ load_l large 0x7fff ∷ add_m large ∷ []) in
    Clear r × Unreset large r trb calls × (length (added (deeds large r trb calls)) ≡ 4) × Alone large r trb calls × Apart large r trb calls
    × ((after large r trb calls).a ≡ 1) × ((after large r trb calls).flags.a.ov1 ≡ false) × (Near large r trb calls → ⊥)

-- ---- each other premise is needed

-- -32768 squared: M is -32768, and the product is + 32768 whole
abbrev pub Squared : Bool → ℕ → Type 0
Squared large trb =
    let r = from 0 0x8000 0x8000 in
    let calls = run large (add_m large ∷ []) in
    Clear r × Unreset large r trb calls × AtMostThree large r trb calls × Alone large r trb calls × ((after large r trb calls).a ≡ 0x8000) × (Near large r trb calls → ⊥)

-- a reset clears OV1 while A stays wrapped
abbrev pub ResetBetween : Bool → ℕ → Type 0
ResetBetween large trb =
    let r = from 0x7fff 0x8000 0x8001 in
    let calls = call large (add_m large ∷ []) 0 1 ∷ call large [] 7 0 ∷ [] in
    Clear r × AtMostThree large r trb calls × Alone large r trb calls × Apart large r trb calls × (Near large r trb calls → ⊥)

-- a load of A is no part of the sum
abbrev pub Loaded : Bool → ℕ → Type 0
Loaded large trb =
    let r = from 0 0 0 in
    let calls = run large (load_a large 1 ∷ []) in
    Clear r × Unreset large r trb calls × AtMostThree large r trb calls × Apart large r trb calls × (Near large r trb calls → ⊥)

-- ADC "counts as something else": it takes B's C
abbrev pub WithCarry : Bool → ℕ → Type 0
WithCarry large trb =
    let r = set_flags_b (from 0 0 0) (record { s1 = false; s0 = false; c = true; z = false; ov1 = false; ov0 = false }) in
    let calls = run large (adc_m large ∷ []) in
    Clear r × Unreset large r trb calls × AtMostThree large r trb calls × Apart large r trb calls × (Near large r trb calls → ⊥)

-- an OV1 that was 1 at the start tells of an earlier sum
abbrev pub Unclear : Bool → ℕ → Type 0
Unclear large trb =
    let r = set_flags_a (from 0 0 0) (record { s1 = true; s0 = false; c = false; z = false; ov1 = true; ov0 = false }) in
    Unreset large r trb [] × AtMostThree large r trb [] × Alone large r trb [] × Apart large r trb [] × (Near large r trb [] → ⊥)

-- ---- the words done, and the words of the list

-- a word, an accepted interrupt, an ignored one (EI is 0 since) and two words: five are done, three of them are in the list
abbrev pub Interrupted : Bool → ℕ → Type 0
Interrupted large trb =
    let r = set_sr fresh_registers 0x80 in
    let calls = call large [] 0 1 ∷ call large [] 6 0 ∷ call large [] 6 0 ∷ call large [] 0 2 ∷ [] in
    (words_done large r trb calls ≡ 5) × (words_in (deeds large r trb calls) ≡ 3) × (interrupts_in large r trb calls ≡ 1) × ((after large r trb calls).pc.0 ≡ 0x102)

-- on a full stack it is refused, and counts nothing
abbrev pub InterruptRefused : Bool → ℕ → Type 0
InterruptRefused large trb =
    let r = set_depth (set_sr fresh_registers 0x80) 4 in
    let calls = call large [] 6 0 ∷ [] in
    (words_done large r trb calls ≡ 0) × (words_in (deeds large r trb calls) ≡ 0) × (interrupts_in large r trb calls ≡ 0) × ((ended large r trb (call large [] 6 0)).number ≡ 9)

-- on the smaller chip all of them; on the larger one that the premises can be met, and that three is the limit there too
abbrev pub Examples : Type 0
Examples =
    (trb : ℕ) → Tight false trb × Sharp false trb × FourAdds false trb × Squared false trb × ResetBetween false trb × Loaded false trb × WithCarry false trb × Unclear false trb
    × Interrupted false trb × InterruptRefused false trb
    × Tight true trb × Sharp true trb × FourAdds true trb
