-- A call is refused by refusal 1, 2 or 3, or the event of its kind is done.
-- Assumes nothing.
use Prim.Native.Nat.{ℕ, ◌<◌, ◌≤◌}
use native.Mathlib.Omega.{arith}
use mathlib.Core.Path.{◌≡◌, sym, ap, ◌∙◌}
use mathlib.Core.Bool.{Bool, true, false}
use mathlib.Core.List.{List}
use borrow.Author.Tests.{leb-true}
use lib.ListN.{get_or-eq_default}
use Rattle.device.specs.Device.{chip}
use Rattle.device.specs.Registers.{registers_fit}
use Rattle.device.specs.declared.registers.Registers.{Registers}
use Rattle.machine.specs.Promises.{CallRefused}
use Rattle.machine.specs.Replies.{refused_call, finished_call}
use Rattle.machine.specs.Events.{lent_fit, kinds, kind_done, event_done}
use Rattle.events.specs.Events.{allowed, reset}

module _ (large : Bool) (r : Registers) (trb : ℕ) (program rom ram : List ℕ) (kind value : ℕ) where
  pub call-refused-1 : lent_fit large program rom ram ≡ false → refused_call 1 r trb ram ≡ event_done large r trb program rom ram kind value
  unfolding event_done
  call-refused-1 e = rw e

  module _ (long : lent_fit large program rom ram ≡ true) where
    pub call-refused-2 : registers_fit (chip large) r ≡ false → refused_call 2 r trb ram ≡ event_done large r trb program rom ram kind value
    unfolding event_done
    call-refused-2 e = rw (long, e)

    module _ (fit : registers_fit (chip large) r ≡ true) where
      pub call-refused-3 : allowed kind value ≡ false → refused_call 3 r trb ram ≡ event_done large r trb program rom ram kind value
      unfolding event_done
      call-refused-3 e = rw (long, fit, e)

      pub call-done : allowed kind value ≡ true → kind_done large kind value r trb program rom ram ≡ event_done large r trb program rom ram kind value
      unfolding event_done
      call-done e = rw (long, fit, e)

  -- a kind that is none of the others is the reset
  pub kind-reset : 7 ≤ kind → finished_call 0 (reset r) trb ram ≡ kind_done large kind value r trb program rom ram
  unfolding kind_done
  kind-reset h = sym (get_or-eq_default (kinds large value r trb program rom ram) (finished_call 0 (reset r) trb ram) {n = kind} h)

pub call-refused : CallRefused
call-refused large r trb program rom ram kind value =
    ((λ e. sym (call-refused-1 large r trb program rom ram kind value e)), (λ long e. sym (call-refused-2 large r trb program rom ram kind value long e)), (λ long fit e. sym (call-refused-3 large r trb program rom ram kind value long fit e)))

-- what a kind allows fits its type
module _ (kind value : ℕ) (ok : allowed kind value ≡ true) where
  at : {k : ℕ} → kind ≡ k → allowed k value ≡ true
  at e = ap (λ k. allowed k value) (sym e) ∙ ok

  pub run_fits : kind ≡ 0 → value < 65536
  run_fits e = omega (arith, leb-true value 65535 (at e))

  pub byte_fits : kind ≡ 2 → value < 256
  byte_fits e = omega (arith, leb-true value 255 (at e))
