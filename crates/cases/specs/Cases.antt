-- The bench cases of 01, "Bench cases, marked to be proved", in one list: of the smaller chip where a case names its words or sizes, else of either. Where a case leaves a flag or an input open, it is said of every one.
use Rattle.std.specs.Prelude.{ℕ, ◌*◌, ◌≡◌, Bool, true, false, List, [], ◌∷◌, pos, length, replicate}
use Rattle.numbers.specs.Every.{Every}
use Rattle.alu.specs.Operations.{operated}
use Rattle.alu.specs.declared.Accumulator.{Accumulator}
use Rattle.alu.specs.declared.Flags.{Flags}
use Rattle.alu.specs.declared.Operation.TheVariants.{Add, Shr1, Shl2, Shl4}
use Rattle.multiplier.specs.Product.{m_of, n_of}
use Rattle.device.specs.Device.{chip, upd77p20}
use Rattle.device.specs.Lent.{word_at}
use Rattle.device.specs.Registers.{registers_fit}
use Rattle.device.specs.Pointers.{next_address, ram_pointer_moved, rom_pointer_down}
use Rattle.device.specs.Set.{set_pc, set_a}
use Rattle.device.specs.declared.registers.Registers.{Registers}
use Rattle.word.specs.Fields.{branch}
use Rattle.word.specs.Word.{taken_apart}
use Rattle.word.specs.declared.Word.TheVariants.{Jp, Ldi}
use Rattle.status.specs.Status.{drc, drs}
use Rattle.stages.specs.Bus.{bus_of}
use Rattle.codes.specs.Codes.{destination_code}
use Rattle.codes.specs.declared.Source.TheVariants.{Sil}
use Rattle.codes.specs.declared.Destination.TheVariants.{A}
use Rattle.words.specs.Outcomes.{finished_word}
use Rattle.words.specs.Word.{word_done}
use Rattle.machine.specs.Events.{lent_fit, event_done}
use Rattle.accuracy.specs.Exact.{Inputs}
use Rattle.accuracy.specs.Deeds.{Call, after, deeds}
use Rattle.accuracy.specs.Adding.{added}
use Rattle.accuracy.specs.Demand3.{Clear, Unreset, Alone}
use Rattle.accuracy.specs.Examples.{distance, Tight}

-- a case: its number in 01, and what it says
pub record Case : Type 1 where
  pub number : ℕ
  pub says : Type 0

-- an accumulator with OV1 0 and any other flags
abbrev pub clear : ℕ → Bool → Bool → Bool → Bool → Bool → Accumulator
clear value s1 s0 c z ov0 = record { value = value; flags = record { s1 = s1; s0 = s0; c = c; z = z; ov1 = false; ov0 = ov0 } }

-- an accumulator's value, C, OV1 and S1
abbrev pub shows : Accumulator → ℕ → Bool → Bool → Bool → Type 0
shows a value c ov1 s1 = (a.value ≡ value) × (a.flags.c ≡ c) × (a.flags.ov1 ≡ ov1) × (a.flags.s1 ≡ s1)

-- K and L as three adding words find them
abbrev pub three_times : ℕ → ℕ → List Inputs
three_times k l = replicate 3 (record { k = k; l = l })

-- "Of RAM and the registers listed in this paper, word 0 changes PC only.": on either chip
unfoldable pub case1 : Case
case1 =
    record {
      number = 1;
      says =
          (large : Bool) (r : Registers) (trb : ℕ) (program rom ram : List ℕ) → word_at program r.pc ≡ 0
          → word_done large r trb program rom ram ≡ finished_word (set_pc r (next_address (chip large) r.pc)) trb ram;
    }

-- "501000H jumps to 100H. 624681H loads A with 1234H.": as fields, and run
unfoldable pub case2 : Case
case2 =
    record {
      number = 2;
      says =
          (taken_apart false 0x501000 ≡ record { refusal = 0; word = Jp (record { brch = branch.jump; cnd = 0; na = 0x100; spare = 0 }) })
          × (taken_apart false 0x624681 ≡ record { refusal = 0; word = Ldi (record { id = 0x1234; spare = 0; dst = destination_code A }) })
          × ((r : Registers) (trb : ℕ) (program rom ram : List ℕ) → word_at program r.pc ≡ 0x501000
          → word_done false r trb program rom ram ≡ finished_word (set_pc r (record { 0 = 0x100 })) trb ram)
          × ((r : Registers) (trb : ℕ) (program rom ram : List ℕ) → word_at program r.pc ≡ 0x624681
          → word_done false r trb program rom ram ≡ finished_word (set_pc (set_a r 0x1234) (next_address upd77p20 r.pc)) trb ram);
    }

-- "K = L = 8000H: M = 8000H, N = 0. K = FFFFH, L = 1: M = FFFFH, N = FFFEH."
unfoldable pub case3 : Case
case3 =
    record {
      number = 3;
      says = (m_of 0x8000 0x8000 ≡ 0x8000) × (n_of 0x8000 0x8000 ≡ 0) × (m_of 0xffff 1 ≡ 0xffff) × (n_of 0xffff 1 ≡ 0xfffe);
    }

-- "OV1 0, A = 7FFFH, ADD 7FFFH: FFFEH, C 0, OV1 1, S1 1. Then ADD 8000H: 7FFEH, C 1, OV1 0, S1 1."
unfoldable pub case4 : Case
case4 =
    record {
      number = 4;
      says =
          (s1 s0 c z ov0 other : Bool) →
          shows (operated Add (clear 0x7fff s1 s0 c z ov0) 0x7fff other) 0xfffe false true true
          × shows (operated Add (operated Add (clear 0x7fff s1 s0 c z ov0) 0x7fff other) 0x8000 other) 0x7ffe true false true;
    }

-- "OV1 0, A = 8000H, ADD 8000H: 0, Z 1, C 1, OV1 1, S1 0."
unfoldable pub case5 : Case
case5 =
    record {
      number = 5;
      says =
          (s1 s0 c z ov0 other : Bool) →
          shows (operated Add (clear 0x8000 s1 s0 c z ov0) 0x8000 other) 0 true true false
          × ((operated Add (clear 0x8000 s1 s0 c z ov0) 0x8000 other).flags.z ≡ true);
    }

-- "SHR1 of 8001H: C000H, C 1. SHL2 of 1: 7. SHL4 of 1: 1FH.": with any flags
unfoldable pub case6 : Case
case6 =
    record {
      number = 6;
      says =
          (flags : Flags) (other : Bool) (p : ℕ) →
          ((operated Shr1 (record { value = 0x8001; flags = flags }) p other).value ≡ 0xc000)
          × ((operated Shr1 (record { value = 0x8001; flags = flags }) p other).flags.c ≡ true)
          × ((operated Shl2 (record { value = 1; flags = flags }) p other).value ≡ 7)
          × ((operated Shl4 (record { value = 1; flags = flags }) p other).value ≡ 0x1f);
    }

-- "DP 0FH, up, DPH-M 1: 10H. RP 0 down: 511."
unfoldable pub case7 : Case
case7 =
    record {
      number = 7;
      says = (ram_pointer_moved 1 1 (record { 0 = 0x0f }) ≡ record { 0 = 0x10 }) × (rom_pointer_down upd77p20 (record { 0 = 0 }) ≡ record { 0 = 511 });
    }

-- "SIL of 1: 8000H."
unfoldable pub case8 : Case
case8 = record { number = 8; says = (large : Bool) (r : Registers) (trb : ℕ) (ram rom : List ℕ) → r.si ≡ 1 → bus_of large r trb Sil ram rom ≡ 0x8000 }

-- "DR 1234H, DRC 0, DRS 0: the host reads 34H, then 12H.": wherever what is lent and the registers fit, both reads are answered 0
unfoldable pub case9 : Case
case9 =
    record {
      number = 9;
      says =
          (large : Bool) (r : Registers) (trb : ℕ) (program rom ram : List ℕ) → lent_fit large program rom ram ≡ true → registers_fit (chip large) r ≡ true
          → r.dr ≡ 0x1234 → drc r.sr ≡ false → drs r.sr ≡ false
          → let first = event_done large r trb program rom ram 1 0 in
          let second = event_done large first.registers first.trb program rom ram 1 0 in
          (first.number ≡ 0) × (first.value ≡ 0x34) × (second.number ≡ 0) × (second.value ≡ 0x12);
    }

-- "OV1 0, A = 0, three adds with K = FFFFH, L = 1: A = FFFDH, and the distance is 98301, the full allowance.": on any machine, by any calls
-- without a reset in which nothing else operates on A or loads it; and on one, by one run
unfoldable pub case10 : Case
case10 =
    record {
      number = 10;
      says =
          ((large : Bool) (r : Registers) (trb : ℕ) (calls : List Call) → Clear r → r.a ≡ 0 → Unreset large r trb calls → Alone large r trb calls
          → added (deeds large r trb calls) ≡ three_times 0xffff 1
          → ((after large r trb calls).a ≡ 0xfffd) × (distance large r trb calls ≡ pos 98301) × (32767 * length (added (deeds large r trb calls)) ≡ 98301))
          × ((trb : ℕ) → Tight false trb × Tight true trb);
    }

unfoldable pub cases : List Case
cases = case1 ∷ case2 ∷ case3 ∷ case4 ∷ case5 ∷ case6 ∷ case7 ∷ case8 ∷ case9 ∷ case10 ∷ []

-- every case of the list holds
abbrev pub Bench : Type 0
Bench = Every (λ (case : Case). case.says) cases
