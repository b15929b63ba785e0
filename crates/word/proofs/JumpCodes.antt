-- The test by a code's parts is the table: every code of nine bits is tried.
-- Assumes nothing.
use Prim.Native.Nat.{ℕ, zero, suc, ◌<◌}
use native.Mathlib.Omega.{arith}
use mathlib.Core.Path.{◌≡◌, refl, sym, subst}
use mathlib.Core.Bool.{Bool, true, false, beq, ◌&&◌, false≢true}
use borrow.Author.Tests.{eqb-true, eqb-false}
use lib.Dec.{eqb}
use Rattle.word.specs.JumpCodes.{jump_codes, one_of, listed, Listed, ThirtySix}

abbrev agrees : ℕ → Bool
agrees code = beq (listed code) (one_of code jump_codes)

-- all numbers below n
every_below : ℕ → Bool
every_below zero = true
every_below (suc n) = agrees n && every_below n

one-of-them : (n code : ℕ) → code < n → every_below n ≡ true → agrees code ≡ true
unfolding every_below
one-of-them zero code h e = absurd (omega arith)
one-of-them (suc n) code h e = go (one-of-them n code) (agrees n) refl (eqb code n) refl e
  where
    go : (code < n → every_below n ≡ true → agrees code ≡ true) → (a : Bool) → agrees n ≡ a → (t : Bool) → eqb code n ≡ t → (a && every_below n) ≡ true → agrees code ≡ true
    go smaller false ea t et k = absurd (false≢true k)
    go smaller true ea true et k = subst (λ m. agrees m ≡ true) (sym (eqb-true code n et)) ea
    go smaller true ea false et k = let apart = eqb-false code n et in smaller (omega arith) k

same : (p q : Bool) → beq p q ≡ true → p ≡ q
same true true e = refl
same true false e = sym e
same false true e = e
same false false e = refl

pub listed-codes : Listed
unfolding every_below
listed-codes code h = same (listed code) (one_of code jump_codes) (one-of-them 512 code h refl)

pub thirty-six : ThirtySix
thirty-six = (refl, refl)
