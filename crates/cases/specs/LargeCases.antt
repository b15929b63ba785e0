-- Bench cases of the uPD77C25, in one list, chosen where it differs from the uPD77P20; case 1 of 01 holds of both (`Cases`).
use Rattle.std.specs.Prelude.{ℕ, ◌≡◌, true, List, [], ◌∷◌, slice_index}
use Rattle.numbers.specs.Every.{Every}
use Rattle.device.specs.Device.{upd77c25}
use Rattle.device.specs.Lent.{word_at}
use Rattle.device.specs.Pointers.{next_address, rom_pointer_down}
use Rattle.device.specs.Set.{set_pc, set_a, set_k, set_l, set_dp}
use Rattle.device.specs.declared.registers.Registers.{Registers}
use Rattle.word.specs.Word.{taken_apart}
use Rattle.word.specs.declared.Word.TheVariants.{JpCode, Ldi}
use Rattle.codes.specs.Codes.{destination_code}
use Rattle.codes.specs.declared.Destination.TheVariants.{A}
use Rattle.words.specs.Outcomes.{Outcome, finished_word}
use Rattle.words.specs.Word.{word_done}
use Rattle.cases.specs.Cases.{Case}

-- what a word does, whatever the machine holds beside what is asked of it
abbrev pub Does : ℕ → (Registers → ℕ → List ℕ → Outcome) → (Registers → ℕ → Type 0) → Type 0
Does word outcome asked =
    (r : Registers) (trb : ℕ) (program rom ram : List ℕ) → word_at program r.pc ≡ word → asked r trb → word_done true r trb program rom ram ≡ outcome r trb ram

-- PC goes up by one
abbrev pub on : Registers → Registers
on r = set_pc r (next_address upd77c25 r.pc)

-- A00400H jumps to 100H. C48D01H loads A with 1234H: as fields, and run
unfoldable pub case1 : Case
case1 =
    record {
      number = 1;
      says =
          (taken_apart true 0xa00400 ≡ record { refusal = 0; word = JpCode (record { code = 0x100; na = 0x100; spare = 0 }) })
          × (taken_apart true 0xc48d01 ≡ record { refusal = 0; word = Ldi (record { id = 0x1234; spare = 0; dst = destination_code A }) })
          × Does 0xa00400 (λ r trb ram. finished_word (set_pc r (record { 0 = 0x100 })) trb ram) (λ r trb. Unit)
          × Does 0xc48d01 (λ r trb ram. finished_word (on (set_a r 0x1234)) trb ram) (λ r trb. Unit);
    }

-- DP 0FH, up, DPH-M 8: 80H. RP 0 down: 1023. PC 2047: 0
unfoldable pub case2 : Case
case2 =
    record {
      number = 2;
      says =
          Does 0x003000 (λ r trb ram. finished_word (on (set_dp r (record { 0 = 0x80 }))) trb ram) (λ r trb. r.dp ≡ record { 0 = 0x0f })
          × (rom_pointer_down upd77c25 (record { 0 = 0 }) ≡ record { 0 = 1023 })
          × (next_address upd77c25 (record { 0 = 2047 }) ≡ record { 0 = 0 });
    }

-- KLM from MEM with DP 85H: K from RAM at C5H, L from RAM at 85H
unfoldable pub case3 : Case
case3 =
    record {
      number = 3;
      says = Does 0x0000fc (λ r trb ram. finished_word (on (set_l (set_k r (slice_index ram 0xc5)) (slice_index ram 0x85))) trb ram) (λ r trb. r.dp ≡ record { 0 = 0x85 });
    }

-- JDPLN0 to 100H with low DP 0 goes on to the next word, with low DP 1 it jumps; JDPLNF the other way round with 15 and 0
unfoldable pub case4 : Case
case4 =
    record {
      number = 4;
      says =
          Does 0x962400 (λ r trb ram. finished_word (on r) trb ram) (λ r trb. r.dp ≡ record { 0 = 0x80 })
          × Does 0x962400 (λ r trb ram. finished_word (set_pc r (record { 0 = 0x100 })) trb ram) (λ r trb. r.dp ≡ record { 0 = 0x81 })
          × Does 0x966400 (λ r trb ram. finished_word (on r) trb ram) (λ r trb. r.dp ≡ record { 0 = 0x8f })
          × Does 0x966400 (λ r trb ram. finished_word (set_pc r (record { 0 = 0x100 })) trb ram) (λ r trb. r.dp ≡ record { 0 = 0x80 });
    }

-- 000001H with TRB 1234H gives A = 1234H. C48D0EH loads TRB with 1234H
unfoldable pub case5 : Case
case5 =
    record {
      number = 5;
      says =
          Does 0x000001 (λ r trb ram. finished_word (on (set_a r 0x1234)) trb ram) (λ r trb. trb ≡ 0x1234)
          × Does 0xc48d0e (λ r trb ram. finished_word (on r) 0x1234 ram) (λ r trb. Unit);
    }

unfoldable pub large_cases : List Case
large_cases = case1 ∷ case2 ∷ case3 ∷ case4 ∷ case5 ∷ []

-- every case of the list holds
abbrev pub LargeBench : Type 0
LargeBench = Every (λ (case : Case). case.says) large_cases
