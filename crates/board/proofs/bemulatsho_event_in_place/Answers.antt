-- `bemulatsho_event_in_place`: the machine's answer, whose TRB is 0 because the smaller chip hands back the 0 that it is given.
use Rattle.std.proofs.Common.{◌≡◌, ℕ, List, sym, ap}
use Rattle.device.specs.declared.registers.Registers.{Registers}
use Rattle.machine.specs.Replies.{Ending}
use Rattle.machine.specs.Events.{event_done}
use Rattle.machine.proofs.Never.{no-trb}
use mathlib.Core.Bool.{false}
use Rattle.board.proofs.bemulatsho_event_in_place.Goals as goal

-- an ending with another TRB in its place
without-trb : {number words value trb : ℕ} {q : Registers} {ram : List ℕ} (e : Ending) → record { number = number; words = words; value = value; registers = q; trb = trb; ram = ram } ≡ e → e.trb ≡ 0
    → record { number = number; words = words; value = value; registers = q; trb = 0; ram = ram } ≡ e
without-trb e p z = λ i. record { number = (p i).number; words = (p i).words; value = (p i).value; registers = (p i).registers; trb = sym z i; ram = (p i).ram }

pub returns : goal.returns
returns c =
    let s = c.args in
    rw c.from.ensures
    (without-trb (event_done false s.registers.now 0 s.program.now s.rom.now s.ram.now s.event.kind s.event.value) c.event-after.ensures
    (ap (λ (e : Ending). e.trb) (no-trb s.registers.now 0 0 s.program.now s.rom.now s.ram.now s.event.kind s.event.value)))
