-- No two refusals have one number, and none has 0, "done".
-- Assumes nothing.
use Rattle.std.proofs.Common.{◌≡◌, ℕ, List, [], ◌∷◌, true, false, refl, sym, ap, ◌∙◌, eqb, get_or}
use mathlib.Core.Bool.{false≢true}
use Rattle.refusals.specs.Refusals.{number_of}
use Rattle.refusals.specs.declared.Refusal.{Refusal}
use Rattle.refusals.specs.declared.Refusal.TheVariants.{WrongLength, RegisterTooWide, NoSuchEvent, WordTooWide, NoSuchJump, NoSource, CellTooWide, StackEmpty, StackFull, NothingToSend, FieldTooWide, BadRecord, BadCheckByte, NoSuchRecordType, AddressNotOnce, NoEndRecord, UnusedBits}

-- the refusal of a number, where there is one
refusal_of : ℕ → Refusal
refusal_of n = get_or (WrongLength ∷ WrongLength ∷ RegisterTooWide ∷ NoSuchEvent ∷ WordTooWide ∷ NoSuchJump ∷ NoSource ∷ CellTooWide ∷ StackEmpty ∷ StackFull ∷ NothingToSend ∷ FieldTooWide ∷ BadRecord ∷ BadCheckByte ∷ NoSuchRecordType ∷ AddressNotOnce ∷ NoEndRecord ∷ WrongLength ∷ UnusedBits ∷ []) n WrongLength

named : (r : Refusal) → refusal_of (number_of r) ≡ r
unfolding refusal_of
named = elim [ WrongLength ↦ refl | RegisterTooWide ↦ refl | NoSuchEvent ↦ refl | WordTooWide ↦ refl | NoSuchJump ↦ refl | NoSource ↦ refl | CellTooWide ↦ refl | StackEmpty ↦ refl | StackFull ↦ refl | NothingToSend ↦ refl | FieldTooWide ↦ refl | BadRecord ↦ refl | BadCheckByte ↦ refl | NoSuchRecordType ↦ refl | AddressNotOnce ↦ refl | NoEndRecord ↦ refl | UnusedBits ↦ refl ]

pub one_number : {a b : Refusal} → number_of a ≡ number_of b → a ≡ b
one_number {a} {b} e = sym (named a) ∙ ap refusal_of e ∙ named b

pub not_done : (r : Refusal) → eqb (number_of r) 0 ≡ false
not_done = elim [ WrongLength ↦ refl | RegisterTooWide ↦ refl | NoSuchEvent ↦ refl | WordTooWide ↦ refl | NoSuchJump ↦ refl | NoSource ↦ refl | CellTooWide ↦ refl | StackEmpty ↦ refl | StackFull ↦ refl | NothingToSend ↦ refl | FieldTooWide ↦ refl | BadRecord ↦ refl | BadCheckByte ↦ refl | NoSuchRecordType ↦ refl | AddressNotOnce ↦ refl | NoEndRecord ↦ refl | UnusedBits ↦ refl ]

pub not_0 : (r : Refusal) → number_of r ≡ 0 → ⊥
not_0 r e = false≢true (sym (not_done r) ∙ ap (λ n. eqb n 0) e)
