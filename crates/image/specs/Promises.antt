-- What a reader asks of any load.
use Rattle.std.specs.Prelude.{◌≡◌, Result, Bool, cond, ◌&&◌, ℕ, ◌+◌, ◌-◌, length, take, nat_le}
use mathlib.Core.List.{List, [], ◌∷◌, ◌++◌, map, Permᴰ}
use Rattle.image.specs.Lines.{line_feed, carriage_return, lines, joined}
use Rattle.image.specs.IntelHex.{ending, record_head, intel_hex}
use Rattle.image.specs.Image.{Loading, loaded, load}
use Rattle.image.specs.Replies.{head_of, loading_of}
use Rattle.image.specs.declared.record.RecordHead.{RecordHead as Head}
use Rattle.image.specs.declared.text.Fault.{Fault}
use Rattle.refusals.specs.declared.Refusal.{Refusal}

-- two answers that meet the contract of a load are equal, and so are the images that they leave
abbrev pub OneAnswer : Type 0
OneAnswer =
    (width size : ℕ) (text image : List ℕ) (x y : Loading) (a b : List ℕ)
    → loaded x a ≡ load intel_hex width size text image → loaded y b ≡ load intel_hex width size text image → (x ≡ y) × (a ≡ b)

-- no two replies of the code say the same
abbrev pub OneLoading : Type 0
OneLoading = (x y : Result ℕ Fault) → loading_of x ≡ loading_of y → x ≡ y

abbrev pub OneHead : Type 0
OneHead = (x y : Result Head Refusal) → head_of x ≡ head_of y → x ≡ y

-- so that two answers of the code that meet the contract are equal: of one who reads a line
abbrev pub OneRead : Type 0
OneRead = (line : List ℕ) (x y : Result Head Refusal) → head_of x ≡ record_head line → head_of y ≡ record_head line → x ≡ y

-- and of a load, and so are the images that they leave
abbrev pub OneLoad : Type 0
OneLoad =
    (width size : ℕ) (text image : List ℕ) (x y : Result ℕ Fault) (a b : List ℕ)
    → loaded (loading_of x) a ≡ load intel_hex width size text image → loaded (loading_of y) b ≡ load intel_hex width size text image → (x ≡ y) × (a ≡ b)

-- "An image is filled whole or not touched": a refused one is as it was
abbrev pub Untouched : Type 0
Untouched = (width size : ℕ) (text image : List ℕ) → ((load intel_hex width size text image).number ≡ 0 → ⊥) → (load intel_hex width size text image).image ≡ image

-- and of one that is filled nothing is left: two images before, one after
abbrev pub Replaced : Type 0
Replaced =
    (width size : ℕ) (text image other : List ℕ) → length image ≡ length other → (load intel_hex width size text image).number ≡ 0
    → load intel_hex width size text other ≡ load intel_hex width size text image

-- every line of a text is in it as it stands
abbrev pub Whole : Type 0
Whole = (text : List ℕ) → joined (lines text) ≡ text

-- the order of the data records makes no difference: the lines before the last, in another order
abbrev pub AnyOrder : Type 0
AnyOrder =
    (width size : ℕ) (text image : List ℕ) (records reordered : List (List ℕ)) (last : List ℕ)
    → lines text ≡ records ++ last ∷ [] → Permᴰ records reordered → (load intel_hex width size text image).number ≡ 0
    → load intel_hex width size (joined (reordered ++ last ∷ [])) image ≡ load intel_hex width size text image

-- "Hex digits may be capitals or small letters when read": a text, taken or refused, with its letters a to f or A to F changed
abbrev pub capital : ℕ → ℕ
capital c = cond (nat_le 97 c && nat_le c 102) (c - 32) c

abbrev pub small : ℕ → ℕ
small c = cond (nat_le 65 c && nat_le c 70) (c + 32) c

abbrev pub InCapitals : Type 0
InCapitals = (width size : ℕ) (text image : List ℕ) → load intel_hex width size (map capital text) image ≡ load intel_hex width size text image

abbrev pub InSmallLetters : Type 0
InSmallLetters = (width size : ℕ) (text image : List ℕ) → load intel_hex width size (map small text) image ≡ load intel_hex width size text image

-- "Lines end with a line feed or with carriage return and line feed": the same lines, each with the ending that is chosen for its number
abbrev pub chosen_ending : Bool → List ℕ
chosen_ending short = cond short (line_feed ∷ []) (carriage_return ∷ line_feed ∷ [])

abbrev pub with_ending : Bool → List ℕ → List ℕ
with_ending short line = take (ending line) line ++ chosen_ending short

abbrev pub retold : (ℕ → Bool) → ℕ → List (List ℕ) → List (List ℕ)
retold short number [] = []
retold short number (line ∷ more) = with_ending (short number) line ∷ retold short (number + 1) more

abbrev pub EitherEnding : Type 0
EitherEnding =
    (width size : ℕ) (text image : List ℕ) (short : ℕ → Bool) → (load intel_hex width size text image).number ≡ 0
    → load intel_hex width size (joined (retold short 0 (lines text))) image ≡ load intel_hex width size text image
