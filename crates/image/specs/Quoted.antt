-- A text as it stands between quotation marks, each character as its number.
use Rattle.std.specs.Prelude.{List, [], ◌∷◌, ℕ}
use Prim.Native.Char.{code}
use Prim.Native.String.{String, [] as done, ◌∷◌ as ◌then◌}

unfoldable pub quoted : String → List ℕ
quoted done = []
quoted (◌then◌ c s) = code c ∷ quoted s
