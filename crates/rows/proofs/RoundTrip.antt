-- Taking apart and building undo each other in the form that C holds, because they do in the form of rows.
-- Assumes nothing.
use mathlib.Core.Path.{◌≡◌, refl, ◌∙◌}
use mathlib.Core.Bool.{Bool, true, false, false≢true}
use Rattle.word.specs.Word.{taken_apart, word_holds, built}
use Rattle.word.specs.declared.Word.{Word}
use Rattle.word.specs.declared.Word.TheVariants.{Op, Rt, Jp, JpCode, Ldi}
use Rattle.word.proofs.RoundTrip.{taken-holds, taken-then-built, built-then-taken}
use Rattle.rows.specs.Rows.{rows_of, taken_any_rows, built_any_rows}
use Rattle.rows.specs.RoundTrip.{AnyRowsTakenThenBuilt, AnyRowsBuiltThenTaken}

-- the builder on the rows of a word that the chip has is the builder on the word
same-built : (large : Bool) (word : Word) → word_holds large word ≡ true → built_any_rows large (rows_of word) ≡ built large word
unfolding built_any_rows word_holds
same-built large (Op f) h = refl
same-built large (Rt f) h = refl
same-built true (Jp f) h = absurd (false≢true h)
same-built false (Jp f) h = refl
same-built true (JpCode f) h = refl
same-built false (JpCode f) h = absurd (false≢true h)
same-built large (Ldi f) h = refl

pub any-rows-taken-then-built : AnyRowsTakenThenBuilt
unfolding taken_any_rows
any-rows-taken-then-built large w h = same-built large (taken_apart large w).word (taken-holds large w h) ∙ taken-then-built large w h

pub any-rows-built-then-taken : AnyRowsBuiltThenTaken
unfolding taken_any_rows
any-rows-built-then-taken large word h = rw (same-built large word h, built-then-taken large word h)
