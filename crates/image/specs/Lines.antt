-- A text is its lines: "Lines end with a line feed or with carriage return and line feed".
use Rattle.std.specs.Prelude.{cond, List, [], ◌∷◌, ◌++◌, ℕ, suc, ◌==◌}

abbrev pub line_feed : ℕ
line_feed = 10

abbrev pub carriage_return : ℕ
carriage_return = 13

-- a character before the first line
abbrev pub onto : ℕ → List (List ℕ) → List (List ℕ)
onto c [] = (c ∷ []) ∷ []
onto c (line ∷ lines) = (c ∷ line) ∷ lines

-- the lines of a text; where it does not end with a line feed, the last has none
unfoldable pub lines : List ℕ → List (List ℕ)
lines [] = []
lines (c ∷ text) = cond (c == line_feed) ((c ∷ []) ∷ lines text) (onto c (lines text))

-- the text of some lines
unfoldable pub joined : List (List ℕ) → List ℕ
joined [] = []
joined (line ∷ lines) = line ++ joined lines

-- how many characters the first line has
unfoldable pub line_length : List ℕ → ℕ
line_length [] = 0
line_length (c ∷ text) = suc (cond (c == line_feed) 0 (line_length text))
