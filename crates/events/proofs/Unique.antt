-- An input is read back from its kind and value.
-- Assumes nothing.
use mathlib.Core.Path.{◌≡◌, refl, sym, ap, ◌∙◌}
use Rattle.std.specs.Prelude.{[], ◌∷◌, slice_index_or, Result, Ok, Err}
use Rattle.refusals.specs.declared.Refusal.{Refusal}
use Rattle.events.specs.Events.{event_of, asked}
use Rattle.events.specs.Unique.{OneInput, OneAsked}
use Rattle.events.specs.declared.input.Event.{Event}
use Rattle.events.specs.declared.input.Input.{Input}
use Rattle.events.specs.declared.input.Input.TheVariants.{Run, HostRead, HostWrite, HostStatus, SerialIn, SerialOut, Interrupt, Reset}

input_of : Event → Input
input_of e = slice_index_or (Run e.value ∷ HostRead ∷ HostWrite e.value ∷ HostStatus ∷ SerialIn e.value ∷ SerialOut ∷ Interrupt ∷ []) e.kind Reset

input-back : (x : Input) → input_of (event_of x) ≡ x
unfolding input_of
input-back (Run count) = refl
input-back HostRead = refl
input-back (HostWrite byte) = refl
input-back HostStatus = refl
input-back (SerialIn word) = refl
input-back SerialOut = refl
input-back Interrupt = refl
input-back Reset = refl

read_back : Result Event Refusal → Result Input Refusal
read_back (Ok event) = Ok (input_of event)
read_back (Err refusal) = Err refusal

back : (x : Result Input Refusal) → read_back (asked x) ≡ x
unfolding read_back
back (Ok input) = ap Ok (input-back input)
back (Err refusal) = refl

pub one-input : OneInput
one-input x y e = sym (back x) ∙ ap read_back e ∙ back y

pub one-asked : OneAsked
one-asked event x y e₁ e₂ = one-input x y (e₁ ∙ sym e₂)
