-- M and N of K and L: 01, "One OP or RT word", "M is the signed product".
use Rattle.std.specs.Prelude.{ℕ, ◌*◌, ℤ, ◌*ℤ◌}
use Rattle.numbers.specs.Signed.{signed, floor_div, floor_mod, kept16}

-- "the signed product K times L"
unfoldable pub product : ℕ → ℕ → ℤ
product k l = signed k *ℤ signed l

-- "divided by 32768, rounded down, kept to 16 bits"
unfoldable pub m_of : ℕ → ℕ → ℕ
m_of k l = kept16 (floor_div (product k l) 32768)

-- "the product's low 15 bits doubled"
unfoldable pub n_of : ℕ → ℕ → ℕ
n_of k l = floor_mod (product k l) 32768 * 2
