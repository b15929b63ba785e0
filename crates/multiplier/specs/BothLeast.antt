-- "both multiplier inputs at -32768", in demand 3.
use Rattle.std.specs.Prelude.{ℕ, ◌≡◌, negsuc}
use Rattle.numbers.specs.Signed.{signed}

abbrev pub BothLeast : ℕ → ℕ → Type 0
BothLeast k l = (signed k ≡ negsuc 32767) × (signed l ≡ negsuc 32767)
