-- What holds of every member of a list.
use Rattle.std.specs.Prelude.{List, [], ◌∷◌}

module _ {ℓ} {A : Type ℓ} (P : A → Type 0) where
  abbrev pub Every : List A → Type 0
  Every [] = Unit
  Every (x ∷ l) = P x × Every l
