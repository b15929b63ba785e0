-- What events 4 to 7 do to the registers, and which kinds and values are allowed: 01, "Events from outside". `Host` has events 1 and 2.
use Rattle.std.specs.Prelude.{ℕ, Bool, true, false, [], ◌∷◌, nat_le, ◌==◌, slice_index_or, Result, Ok, Err}
use Rattle.device.specs.Registers.{clear_flags}
use Rattle.device.specs.Set.{set_pc, set_depth, set_flags_a, set_flags_b, set_sr, set_si, set_siack, set_soack, set_sorq}
use Rattle.device.specs.declared.registers.Registers.{Registers}
use Rattle.flow.specs.Stack.{pushed}
use Rattle.status.specs.Status.{without_ei}
use Rattle.refusals.specs.declared.Refusal.{Refusal}
use Rattle.events.specs.declared.input.Event.{Event}
use Rattle.events.specs.declared.input.Input.{Input}
use Rattle.events.specs.declared.input.Input.TheVariants.{Run, HostRead, HostWrite, HostStatus, SerialIn, SerialOut, Interrupt, Reset}

-- not "event kind over 7, or value not allowed" (refusal 3): what each kind allows
abbrev pub allowed : ℕ → ℕ → Bool
allowed kind value =
    slice_index_or (nat_le value 65535 ∷ (value == 0) ∷ nat_le value 255 ∷ (value == 0) ∷ nat_le value 65535 ∷ (value == 0) ∷ (value == 0) ∷ (value == 0) ∷ []) kind false

-- "0 run value words .. 7 reset": the kind and the value of each
abbrev pub event_of : Input → Event
event_of (Run count) = record { kind = 0; value = count }
event_of HostRead = record { kind = 1; value = 0 }
event_of (HostWrite byte) = record { kind = 2; value = byte }
event_of HostStatus = record { kind = 3; value = 0 }
event_of (SerialIn word) = record { kind = 4; value = word }
event_of SerialOut = record { kind = 5; value = 0 }
event_of Interrupt = record { kind = 6; value = 0 }
event_of Reset = record { kind = 7; value = 0 }

abbrev pub asked : Result Input Refusal → Result Event Refusal
asked (Ok input) = Ok (event_of input)
asked (Err refusal) = Err refusal

-- event 4: "serial word in: SI takes the value .., SIACK set"
abbrev pub serial_in : Registers → ℕ → Registers
serial_in r value = set_siack (set_si r value) true

-- event 5: "serial word out: hands SO, clears SORQ, sets SOACK"
abbrev pub serial_out : Registers → Registers
serial_out r = set_soack (set_sorq r false) true

-- event 6: ".. push PC, go to 100H, clear EI"
abbrev pub interrupted : Registers → Registers
interrupted r = set_sr (set_pc (pushed r r.pc) (record { 0 = 0x100 })) (without_ei r.sr)

-- event 7: "reset: PC, depth, flags, SR, SORQ, SIACK, SOACK to 0"
unfoldable pub reset : Registers → Registers
reset r =
    set_soack (set_siack (set_sorq (set_sr (set_flags_b (set_flags_a (set_depth (set_pc r (record { 0 = 0 })) 0) clear_flags) clear_flags) 0) false) false) false
