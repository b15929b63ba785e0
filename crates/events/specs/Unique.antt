-- No two answers of the reader of events say the same.
use Rattle.std.specs.Prelude.{◌≡◌, cond, Result, Ok, Err}
use Rattle.refusals.specs.declared.Refusal.{Refusal}
use Rattle.refusals.specs.declared.Refusal.TheVariants.{NoSuchEvent}
use Rattle.events.specs.Events.{allowed, asked}
use Rattle.events.specs.declared.input.Event.{Event}
use Rattle.events.specs.declared.input.Input.{Input}

abbrev pub OneInput : Type 0
OneInput = (x y : Result Input Refusal) → asked x ≡ asked y → x ≡ y

-- so that two answers that meet the contract are equal
abbrev pub OneAsked : Type 0
OneAsked =
    (event : Event) (x y : Result Input Refusal) → asked x ≡ cond (allowed event.kind event.value) (Ok event) (Err NoSuchEvent)
    → asked y ≡ cond (allowed event.kind event.value) (Ok event) (Err NoSuchEvent) → x ≡ y
