-- No two replies say the same. Assumes nothing.
use Prim.Native.Nat.{ℕ}
use native.Mathlib.Omega.{arith}
use mathlib.Core.Path.{◌≡◌, refl, sym, ap, ◌∙◌}
use Rattle.std.specs.Prelude.{Result, Ok, Err, IsErrAnd}
use Rattle.refusals.specs.Refusals.{number_of}
use Rattle.refusals.proofs.Numbers.{one_number, not_0}
use Rattle.image.specs.IntelHex.{RecordHead}
use Rattle.image.specs.Image.{Loading, at}
use Rattle.image.specs.Replies.{type_of, loading_of}
use Rattle.image.specs.Promises.{OneLoading, OneHead, OneRead}
use Rattle.image.specs.declared.record.RecordType.{RecordType}
use Rattle.image.specs.declared.record.RecordType.TheVariants.{Data, End}
use Rattle.image.specs.declared.text.Fault.{Fault}

pub fault-said : (r : Result ℕ Fault) (f : Fault) → IsErrAnd r (λ e. e ≡ f) → loading_of r ≡ at f.line (number_of f.refusal)
fault-said (Ok line) f h = absurd h
fault-said (Err e) f h = ap (λ (x : Fault). at x.line (number_of x.refusal)) h

type-one : (k l : RecordType) → type_of k ≡ type_of l → k ≡ l
type-one Data Data e = refl
type-one Data End e = absurd (omega arith)
type-one End Data e = absurd (omega arith)
type-one End End e = refl

pub one-loading : OneLoading
one-loading (Ok line) (Ok other) e =
    let same : line ≡ other = ap (λ (l : Loading). l.line) e in
    λ i. Ok (same i)
one-loading (Ok line) (Err g) e = absurd (not_0 g.refusal (sym (ap (λ (l : Loading). l.number) e)))
one-loading (Err f) (Ok other) e = absurd (not_0 f.refusal (ap (λ (l : Loading). l.number) e))
one-loading (Err f) (Err g) e =
    let same : f.refusal ≡ g.refusal = one_number (ap (λ (l : Loading). l.number) e) in
    λ i. Err (record { refusal = same i; line = (e i).line })

pub one-head : OneHead
one-head (Ok h) (Ok k) e =
    let t : h.kind ≡ k.kind = type-one h.kind k.kind (ap (λ (r : RecordHead). r.kind) e) in
    λ i. Ok (record { kind = t i; address = (e i).address; length = (e i).length })
one-head (Ok h) (Err s) e = absurd (not_0 s (sym (ap (λ (r : RecordHead). r.number) e)))
one-head (Err r) (Ok k) e = absurd (not_0 r (ap (λ (r : RecordHead). r.number) e))
one-head (Err r) (Err s) e =
    let same : r ≡ s = one_number (ap (λ (h : RecordHead). h.number) e) in
    λ i. Err (same i)

pub one-read : OneRead
one-read line x y e₁ e₂ = one-head x y (e₁ ∙ sym e₂)
