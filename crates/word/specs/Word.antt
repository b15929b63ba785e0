-- A word taken apart and built, with refusals 4 and 11: 01, "A word has D22-21 and the fields of its own row, and no others".
use Rattle.std.specs.Prelude.{ℕ, ◌+◌, Bool, cond, not, ◌&&◌, [], ◌∷◌, nat_lt, slice_index_or, Result, Ok, Err}
use Rattle.refusals.specs.Refusals.{number_of}
use Rattle.refusals.specs.declared.Refusal.{Refusal}
use Rattle.device.specs.Device.{chip, word_limit}
use Rattle.numbers.specs.Bits.{bits, at}
use Rattle.word.specs.Fields.{aligned, raised, op_fields, op_holds, op_bits, jp_fields, jp_holds, jp_bits, code_fields, code_holds, code_bits, ldi_fields, ldi_holds, ldi_bits}
use Rattle.word.specs.declared.Word.{Word}
use Rattle.word.specs.declared.Word.TheVariants.{Op, Rt, Jp, JpCode, Ldi}
use Rattle.word.specs.declared.Built.{Built}

-- a refusal's number or 0, and the word taken apart
pub record Taken : Type 0 where
  pub refusal : ℕ
  pub word : Word

-- a JP word with the fields that its chip has
abbrev pub jump_of : Bool → ℕ → Word
jump_of large w = cond large (JpCode (code_fields w)) (Jp (jp_fields w))

-- by D22-21, or D23-22 of the uPD77C25: OP 00, RT 01, JP 10, LDI 11
unfoldable pub word_of : Bool → ℕ → Word
word_of large w = slice_index_or (Op (op_fields large w) ∷ Rt (op_fields large w) ∷ jump_of large w ∷ []) (bits (aligned large w) 22 21) (Ldi (ldi_fields large w))

-- refusal 4, "fetched word 2^23 or more (also when one is taken apart)": "the taker hands an OP word's fields, all 0, with 4"
unfoldable pub taken_apart : Bool → ℕ → Taken
taken_apart large w = cond (nat_lt w (word_limit (chip large))) (record { refusal = 0; word = word_of large w }) (record { refusal = 4; word = Op (op_fields large 0) })

-- the number and the word of each answer of the taker
abbrev pub number_and_word : Bool → Result Word Refusal → Taken
number_and_word large (Ok word) = record { refusal = 0; word = word }
number_and_word large (Err refusal) = record { refusal = number_of refusal; word = Op (op_fields large 0) }

-- every field is within its width, and the chip has the row
unfoldable pub word_holds : Bool → Word → Bool
word_holds large (Op f) = op_holds large f
word_holds large (Rt f) = op_holds large f
word_holds large (Jp f) = not large && jp_holds f
word_holds large (JpCode f) = large && code_holds f
word_holds large (Ldi f) = ldi_holds large f

unfoldable pub word_bits : Bool → Word → ℕ
word_bits large (Op f) = raised large (at 21 0) + op_bits large f
word_bits large (Rt f) = raised large (at 21 1) + op_bits large f
word_bits large (Jp f) = raised large (at 21 2) + jp_bits f
word_bits large (JpCode f) = raised large (at 21 2) + code_bits f
word_bits large (Ldi f) = raised large (at 21 3) + ldi_bits large f

-- refusal 11, "a field too wide for the builder": "The builder hands word 0 with 11"
abbrev pub built_of : Bool → ℕ → Built
built_of fit bits = cond fit (record { refusal = 0; bits = bits }) (record { refusal = 11; bits = 0 })

-- the number and the word of each answer of the builder
abbrev pub number_and_bits : Result ℕ Refusal → Built
number_and_bits (Ok bits) = record { refusal = 0; bits = bits }
number_and_bits (Err refusal) = record { refusal = number_of refusal; bits = 0 }

unfoldable pub built : Bool → Word → Built
built large word = built_of (word_holds large word) (word_bits large word)
