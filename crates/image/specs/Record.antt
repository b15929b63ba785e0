-- What a line of a text says, in whichever form it is written.
use Rattle.std.specs.Prelude.{ℕ, Bool, List}

-- its refusal or 0, whether it ends the text, and its bytes from an address on
pub record Record : Type 0 where
  pub number : ℕ
  pub last : Bool
  pub address : ℕ
  pub bytes : List ℕ
