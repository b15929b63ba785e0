-- A text of records, and the image that it fills.
use Rattle.std.specs.Prelude.{Bool, true, false, cond, ◌||◌, List, [], ◌∷◌, ◌++◌, map, ℕ, zero, suc, ◌+◌, ◌*◌, ◌/◌, ◌%◌, length, slice_index, take, drop, set, replicate, ◌==◌}
use Rattle.image.specs.Lines.{lines}
use Rattle.image.specs.Record.{Record}

-- what giving bytes leaves: 15 or 0, and the byte given for each address, 256 where none was
pub record Given : Type 0 where
  pub number : ℕ
  pub bytes : List ℕ

abbrev pub given : ℕ → List ℕ → Given
given number bytes = record { number = number; bytes = bytes }

-- "15 address outside, given twice": bytes from an address on, each where none was given yet; an address outside is no such place
unfoldable pub give : ℕ → List ℕ → List ℕ → Given
give address [] g = given 0 g
give address (b ∷ bs) g =
    let more = give (address + 1) bs (set g address b) in
    cond (slice_index g address == 256) more (given 15 g)

-- "or missing": an address for which no byte was given
unfoldable pub missing : List ℕ → Bool
missing [] = false
missing (b ∷ g) = b == 256 || missing g

-- how reading a text ended: the refusal or 0, and the line that decided, counted from 1 (0 if none was looked at)
pub record Loading : Type 0 where
  pub number : ℕ
  pub line : ℕ

-- what has become of a text: its refusal or 0, the line that decided, counted from 1, and what was given
pub record Walked : Type 0 where
  pub number : ℕ
  pub line : ℕ
  pub bytes : List ℕ

abbrev pub walked : Loading → List ℕ → Walked
walked reply g = record { number = reply.number; line = reply.line; bytes = g }

abbrev pub at : ℕ → ℕ → Loading
at line number = record { number = number; line = line }

-- after the end record: 15 for missing, and then 16 for text after it, which begins in the next line
unfoldable pub ended : ℕ → Bool → List ℕ → Loading
ended line after g = cond (missing g) (at line 15) (cond after (at (line + 1) 16) (at line 0))

-- after the last line of a text without an end record: 15 or 16
unfoldable pub unended : ℕ → List ℕ → Loading
unended line g = cond (missing g) (at line 15) (at line 16)

abbrev pub some : List Record → Bool
some [] = false
some (r ∷ records) = true

-- the records in turn, "the first faulty record deciding", from the line after `line` on
unfoldable pub walk : ℕ → List Record → List ℕ → Walked
walk line [] g = walked (unended line g) g
walk line (r ∷ records) g =
    let here = line + 1 in
    let p = give r.address r.bytes g in
    let more = walk here records p.bytes in
    let on = cond (p.number == 0) more (walked (at here p.number) p.bytes) in
    cond (r.number == 0) (cond r.last (walked (ended here (some records) g) g) on) (walked (at here r.number) g)

-- the number that bytes spell, "low byte first"
unfoldable pub value : List ℕ → ℕ
value [] = 0
value (b ∷ bs) = b + 256 * value bs

-- "instruction word n at addresses 4n to 4n+3 and data cell n at 2n and 2n+1": so many cells of `width` bytes each
unfoldable pub cells : ℕ → ℕ → List ℕ → List ℕ
cells width zero bytes = []
cells width (suc size) bytes = value (take width bytes) ∷ cells width size (drop width bytes)

-- and back: the bytes of a number, and of cells one after the other
unfoldable pub low_first : ℕ → ℕ → List ℕ
low_first zero v = []
low_first (suc width) v = v % 256 ∷ low_first width (v / 256)

unfoldable pub cell_bytes : ℕ → List ℕ → List ℕ
cell_bytes width [] = []
cell_bytes width (v ∷ vs) = low_first width v ++ cell_bytes width vs

-- what a call leaves: the number, the line that decided (0 where none was looked at), and the image
pub record Loaded : Type 0 where
  pub number : ℕ
  pub line : ℕ
  pub image : List ℕ

abbrev pub loaded : Loading → List ℕ → Loaded
loaded reply image = record { number = reply.number; line = reply.line; image = image }

-- "An image is filled whole or not touched": an image of `size` cells of `width` bytes from a text in some form; "1 for a lent image of the wrong
-- length, before the rest"
unfoldable pub load : (List ℕ → Record) → ℕ → ℕ → List ℕ → List ℕ → Loaded
load form width size text image =
    let t = walk 0 (map form (lines text)) (replicate (width * size) 256) in
    let reply = at t.line t.number in
    let filled = loaded reply (cells width size t.bytes) in
    cond (length image == size) (cond (t.number == 0) filled (loaded reply image)) (loaded (at 0 1) image)
