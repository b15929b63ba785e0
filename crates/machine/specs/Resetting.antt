-- What a reader asks of event 7: "reset: PC, depth, flags, SR, SORQ, SIACK, SOACK to 0", and the rest as it was, TRB of the larger chip too.
use Rattle.std.specs.Prelude.{ℕ, ◌≡◌, Bool, false, List}
use Rattle.device.specs.Registers.{clear_flags}
use Rattle.device.specs.declared.registers.Registers.{Registers}
use Rattle.machine.specs.Events.{event_done}

pub record Reset (r q : Registers) : Type 0 where
  pub pc : q.pc.0 ≡ 0
  pub depth : q.depth ≡ 0
  pub flags-a : q.flags.a ≡ clear_flags
  pub flags-b : q.flags.b ≡ clear_flags
  pub sr : q.sr ≡ 0
  pub sorq : q.sorq ≡ false
  pub siack : q.siack ≡ false
  pub soack : q.soack ≡ false
  pub stack : (q.stack0 ≡ r.stack0) × (q.stack1 ≡ r.stack1) × (q.stack2 ≡ r.stack2) × (q.stack3 ≡ r.stack3)
  pub accumulators : (q.a ≡ r.a) × (q.b ≡ r.b)
  pub inputs : (q.k ≡ r.k) × (q.l ≡ r.l)
  pub others : (q.tr ≡ r.tr) × (q.dr ≡ r.dr) × (q.si ≡ r.si) × (q.so ≡ r.so)
  pub pointers : (q.dp ≡ r.dp) × (q.rp ≡ r.rp)

abbrev pub EventResets : Type 0
EventResets =
    (large : Bool) (r : Registers) (trb : ℕ) (program rom ram : List ℕ) (value : ℕ) → (event_done large r trb program rom ram 7 value).number ≡ 0
    → Reset r (event_done large r trb program rom ram 7 value).registers × ((event_done large r trb program rom ram 7 value).trb ≡ trb)
