-- One call: 01, "Events from outside" and "Replies". What each event does to the registers is in crate `events`.
use Rattle.std.specs.Prelude.{ℕ, Bool, cond, List, [], ◌∷◌, length, slice_index_or}
use Rattle.numbers.specs.Bits.{bits}
use Rattle.device.specs.Device.{chip, lengths_fit}
use Rattle.device.specs.Registers.{registers_fit}
use Rattle.device.specs.declared.registers.Registers.{Registers}
use Rattle.status.specs.Status.{ei}
use Rattle.machine.specs.Replies.{Ending, refused_call, finished_call, accepted_call}
use Rattle.words.specs.Refusals.{stack_full}
use Rattle.machine.specs.Run.{ran}
use Rattle.events.specs.Host.{byte_read, host_read, host_written}
use Rattle.events.specs.Events.{allowed, serial_in, serial_out, interrupted, reset}

-- not "a lent image or RAM is not 512, 512, 128 long" (refusal 1)
abbrev pub lent_fit : Bool → List ℕ → List ℕ → List ℕ → Bool
lent_fit large program rom ram = lengths_fit (chip large) (length program) (length rom) (length ram)

-- event 5, or refusal 10: "serial out with SORQ 0"
unfoldable pub serial_out_ending : Registers → ℕ → List ℕ → Ending
serial_out_ending r trb ram = cond r.sorq (finished_call r.so (serial_out r) trb ram) (refused_call 10 r trb ram)

-- event 6, or refusal 9: "interrupt taken, at depth 4"; 02, E3: "an ignored one stays 0"
unfoldable pub interrupt_ending : Bool → Registers → ℕ → List ℕ → Ending
interrupt_ending large r trb ram =
    cond (ei r.sr) (cond (stack_full large r) (refused_call 9 r trb ram) (accepted_call (interrupted r) trb ram)) (finished_call 0 r trb ram)

-- events 0 to 6
abbrev pub kinds : Bool → ℕ → Registers → ℕ → List ℕ → List ℕ → List ℕ → List Ending
kinds large value r trb program rom ram =
    ran large value 0 r trb program rom ram
    ∷ finished_call (byte_read r) (host_read r) trb ram
    ∷ finished_call 0 (host_written r value) trb ram
    -- event 3: "host reads status: the high byte of SR"
    ∷ finished_call (bits r.sr 15 8) r trb ram
    ∷ finished_call 0 (serial_in r value) trb ram
    ∷ serial_out_ending r trb ram
    ∷ interrupt_ending large r trb ram ∷ []

-- the event of a kind, once nothing is against it; a reset leaves TRB
unfoldable pub kind_done : Bool → ℕ → ℕ → Registers → ℕ → List ℕ → List ℕ → List ℕ → Ending
kind_done large kind value r trb program rom ram = slice_index_or (kinds large value r trb program rom ram) kind (finished_call 0 (reset r) trb ram)

-- "The lowest number that applies is given"
unfoldable pub event_done : Bool → Registers → ℕ → List ℕ → List ℕ → List ℕ → ℕ → ℕ → Ending
event_done large r trb program rom ram kind value =
    cond (lent_fit large program rom ram)
    (cond (registers_fit (chip large) r)
    (cond (allowed kind value) (kind_done large kind value r trb program rom ram) (refused_call 3 r trb ram))
    (refused_call 2 r trb ram))
    (refused_call 1 r trb ram)
