-- Event 0: "run value words". A refused word ends the run; "words finished earlier in that call stay done and are counted".
use Rattle.std.specs.Prelude.{ℕ, zero, suc, ◌+◌, Bool, cond, List, ◌==◌}
use Rattle.device.specs.declared.registers.Registers.{Registers}
use Rattle.machine.specs.Replies.{Ending}
use Rattle.words.specs.Word.{word_done}

-- n words to go, `words` done
unfoldable pub ran : Bool → ℕ → ℕ → Registers → ℕ → List ℕ → List ℕ → List ℕ → Ending
ran large zero words r trb program rom ram = record { number = 0; words = words; value = 0; registers = r; trb = trb; ram = ram }
ran large (suc n) words r trb program rom ram =
    let o = word_done large r trb program rom ram in
    let more = ran large n (words + 1) o.registers o.trb program rom o.ram in
    cond (o.number == 0) more (record { number = o.number; words = words; value = 0; registers = o.registers; trb = o.trb; ram = o.ram })
