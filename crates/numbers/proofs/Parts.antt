-- A number parted into fields of given widths, from the top down, and put together again: the two undo each other.
-- Assumes nothing.
use Rattle.std.proofs.Common.{◌≡◌, ℕ, ◌+◌, ◌*◌, ◌/◌, ◌%◌, ◌^◌, ◌<◌, Bool, true, false, ◌&&◌, ltb, List, [], ◌∷◌, sym, refl, ap, ◌∙◌, subst, mod-lt, mod-eq_of_lt, mul_assoc, add-mul, arith, pow_pos, pow-add, ltb-true, lt-ltb}
use native.Mathlib.Nat.{mul-add-mod_self_right, mod-one}
use mathlib.Core.Bool.{false≢true}
use lib.Arith.{digits_lt}
use lib.Pow.{high, mod-pow-add}

abbrev pub total : List ℕ → ℕ
total [] = 0
total (k ∷ ks) = k + total ks

abbrev pub parts : List ℕ → ℕ → List ℕ
parts [] x = []
parts (k ∷ ks) x = x / 2 ^ total ks % 2 ^ k ∷ parts ks x

abbrev pub together : List ℕ → List ℕ → ℕ
together [] vs = 0
together (k ∷ ks) [] = 0
together (k ∷ ks) (v ∷ vs) = v * 2 ^ total ks + together ks vs

-- as many numbers as widths, and each fits its width
abbrev pub fitting : List ℕ → List ℕ → Bool
fitting [] [] = true
fitting [] (v ∷ vs) = false
fitting (k ∷ ks) [] = false
fitting (k ∷ ks) (v ∷ vs) = ltb v (2 ^ k) && fitting ks vs

both : (a b : Bool) → (a && b) ≡ true → (a ≡ true) × (b ≡ true)
both true true e = (refl, refl)
both true false e = (refl, e)
both false b e = (e, absurd (false≢true e))

pub parts-fit : (ks : List ℕ) (x : ℕ) → fitting ks (parts ks x) ≡ true
parts-fit [] x = refl
parts-fit (k ∷ ks) x = rw (lt-ltb (x / 2 ^ total ks % 2 ^ k) (2 ^ k) (mod-lt (x / 2 ^ total ks) (pow_pos k)), parts-fit ks x)

-- parted, then put together
pub parts-together : (ks : List ℕ) (x : ℕ) → together ks (parts ks x) ≡ x % 2 ^ total ks
parts-together [] x = sym (mod-one x)
parts-together (k ∷ ks) x = rw (parts-together ks x, mod-pow-add x k (total ks))

pub together-lt : (ks vs : List ℕ) → fitting ks vs ≡ true → together ks vs < 2 ^ total ks
together-lt [] [] h = omega arith
together-lt [] (v ∷ vs) h = absurd (false≢true h)
together-lt (k ∷ ks) [] h = absurd (false≢true h)
together-lt (k ∷ ks) (v ∷ vs) h =
    let b = both (ltb v (2 ^ k)) (fitting ks vs) h in
    rw (pow-add 2 k (total ks)) (digits_lt (ltb-true v (2 ^ k) b.0) (together-lt ks vs b.1))

-- put together, then parted; what stands above is not looked at
pub together-parts : (ks vs : List ℕ) (above : ℕ) → fitting ks vs ≡ true → parts ks (above * 2 ^ total ks + together ks vs) ≡ vs
together-parts [] [] above h = refl
together-parts [] (v ∷ vs) above h = absurd (false≢true h)
together-parts (k ∷ ks) [] above h = absurd (false≢true h)
together-parts (k ∷ ks) (v ∷ vs) above h =
    rw (
      raised,
      high (above * 2 ^ k + v) (total ks) (together-lt ks vs b.1),
      mul-add-mod_self_right above (2 ^ k) v,
      mod-eq_of_lt (ltb-true v (2 ^ k) b.0),
      together-parts ks vs (above * 2 ^ k + v) b.1,
    )
  where
    b : (ltb v (2 ^ k) ≡ true) × (fitting ks vs ≡ true)
    b = both (ltb v (2 ^ k)) (fitting ks vs) h

    raised : above * 2 ^ (k + total ks) + (v * 2 ^ total ks + together ks vs) ≡ (above * 2 ^ k + v) * 2 ^ total ks + together ks vs
    raised = rw (pow-add 2 k (total ks), add-mul (above * 2 ^ k) v (2 ^ total ks), mul_assoc above (2 ^ k) (2 ^ total ks)) (omega arith)

-- ---- a record whose fields are the parts of a number

pub record Row (F : Type 0) : Type 0 where
  pub widths : List ℕ
  -- the fields as a list, and back
  pub values : F → List ℕ
  pub of_values : List ℕ → F
  pub same : (f : F) → of_values (values f) ≡ f
  -- taken from a number, tested, and made a number, as the definitions have it
  pub fields : ℕ → F
  pub holds : F → Bool
  pub number : F → ℕ
  pub taken : (x : ℕ) → values (fields x) ≡ parts widths x
  pub fitted : (f : F) → fitting widths (values f) ≡ holds f
  pub put : (f : F) → together widths (values f) ≡ number f

module _ {F : Type 0} (row : Row F) where
  pub row_back : (x : ℕ) → row.number (row.fields x) ≡ x % 2 ^ total row.widths
  row_back x = sym (row.put (row.fields x)) ∙ ap (together row.widths) (row.taken x) ∙ parts-together row.widths x

  pub row_fits : (x : ℕ) → row.holds (row.fields x) ≡ true
  row_fits x = sym (row.fitted (row.fields x)) ∙ ap (fitting row.widths) (row.taken x) ∙ parts-fit row.widths x

  module _ (f : F) (h : row.holds f ≡ true) where
    pub row_lt : row.number f < 2 ^ total row.widths
    row_lt = subst (λ n. n < 2 ^ total row.widths) (row.put f) (together-lt row.widths (row.values f) (row.fitted f ∙ h))

    pub row-again : (above : ℕ) → row.fields (above * 2 ^ total row.widths + row.number f) ≡ f
    row-again above =
        let x = above * 2 ^ total row.widths + row.number f in
        sym (row.same (row.fields x))
        ∙ ap row.of_values
        (row.taken x
        ∙ ap (λ n. parts row.widths (above * 2 ^ total row.widths + n)) (sym (row.put f))
        ∙ together-parts row.widths (row.values f) above (row.fitted f ∙ h))
        ∙ row.same f
