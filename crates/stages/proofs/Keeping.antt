-- What a stage leaves alone.
-- Assumes nothing.
use Prim.Native.Nat.{ℕ}
use mathlib.Core.Path.{◌≡◌, refl, ap, ◌∙◌}
use mathlib.Core.Bool.{Bool, true, false, cond, ◌||◌}
use mathlib.Core.List.{List}
use borrow.Author.Tests.{eqb-false}
use lib.Dec.{eqb}
use Rattle.numbers.proofs.Choices.{of-cond, of-get_or-but}
use Rattle.alu.specs.declared.Accumulator.{Accumulator}
use Rattle.alu.specs.Operations.{operated}
use Rattle.device.specs.declared.registers.Registers.{Registers}
use Rattle.word.specs.declared.OpFields.{OpFields}
use Rattle.device.specs.Device.{chip}
use Rattle.device.specs.Pointers.{ram_pointer_moved, rom_pointer_down}
use Rattle.device.specs.Set.{set_dp, set_rp, set_sr, set_siack}
use Rattle.device.specs.declared.pointers.RamPointer.{RamPointer}
use Rattle.device.specs.declared.pointers.RomPointer.{RomPointer}
use Rattle.device.proofs.Widths.{ram_pointer_moved-still}
use Rattle.stages.specs.Accumulators.{operand_of, stored_a, stored_b, chooses_a, blocked, accumulated}
use Rattle.stages.specs.Bus.{read_from}
use Rattle.codes.specs.Codes.{source_code, is_source, destinations, destination_of, destination_code, is_destination}
use Rattle.stages.specs.Destinations.{loaded}
use Rattle.codes.specs.declared.Source.{Source}
use Rattle.codes.specs.declared.Source.TheVariants as Src
use Rattle.codes.specs.declared.Destination.TheVariants as Dst
use Rattle.status.specs.Status.{with_rqm}
use Rattle.stages.specs.Pointing.{dp_after, pointed}

-- ---- the ALU does nothing

either : {A : Type 0} (s t : Bool) (x : A) → cond s x (cond t x x) ≡ x
either true t x = refl
either false true x = refl
either false false x = refl

-- operation 0 does nothing
pub accumulated-idle : (r : Registers) (f : OpFields) (bus : ℕ) (ram : List ℕ) → f.alu ≡ 0 → accumulated r r f bus ram ≡ r
unfolding accumulated operated
accumulated-idle r f bus ram e = rw e (either (blocked f) (chooses_a f) r)

-- DPL 0 and DPH-M 0 leave DP where it is
pub dp_after-idle : (dp : RamPointer) (f : OpFields) → f.dpl ≡ 0 → f.dphm ≡ 0 → dp_after dp dp f ≡ dp
dp_after-idle dp f e₁ e₂ = rw (e₁, e₂, ram_pointer_moved-still dp) (go (is_destination f.dst Dst.Dp))
  where
    go : (s : Bool) → cond s dp dp ≡ dp
    go true = refl
    go false = refl

-- DPL 0, DPH-M 0 and RPDCR 0 move no pointer
pub pointed-idle : (large : Bool) (r : Registers) (f : OpFields) → f.dpl ≡ 0 → f.dphm ≡ 0 → f.rpdcr ≡ 0 → pointed large r.dp r.rp r f ≡ r
unfolding pointed
pointed-idle large r f e₁ e₂ e₃ = rw (dp_after-idle r.dp f e₁ e₂, e₃) (go (is_destination f.dst Dst.Rp))
  where
    go : (t : Bool) → set_rp (set_dp r r.dp) (cond t r.rp r.rp) ≡ r
    go true = refl
    go false = refl

-- ---- "Everything is read from the state before the word": what a stage reads, the stages before it left alone

-- reading the source leaves what the ALU reads, and the pointers
module _ (r : Registers) (s : Source) where
  -- what holds of the registers as they were, with RQM set, and with SIACK cleared, holds of them as reading leaves them
  pub of-read : (P : Registers → Type 0) → P r → P (set_sr r (with_rqm r.sr)) → P (set_siack r false) → P (read_from r s)
  unfolding read_from
  of-read P still asked taken =
      of-cond P (is_source (source_code s) Src.Dr) asked (of-cond P (is_source (source_code s) Src.Sim || is_source (source_code s) Src.Sil) taken still)

  pub accumulated-read : (f : OpFields) (bus : ℕ) (ram : List ℕ) → accumulated (read_from r s) (read_from r s) f bus ram ≡ accumulated r (read_from r s) f bus ram
  unfolding accumulated operand_of
  accumulated-read f bus ram = of-read (λ q. accumulated q q f bus ram ≡ accumulated r q f bus ram) refl refl refl

  pub read-pointers : ((read_from r s).dp ≡ r.dp) × ((read_from r s).rp ≡ r.rp)
  read-pointers = of-read (λ q. (q.dp ≡ r.dp) × (q.rp ≡ r.rp)) (refl, refl) (refl, refl) (refl, refl)

-- the ALU leaves the pointers
pub accumulated-pointers : (r q : Registers) (f : OpFields) (bus : ℕ) (ram : List ℕ) → ((accumulated r q f bus ram).dp ≡ q.dp) × ((accumulated r q f bus ram).rp ≡ q.rp)
unfolding accumulated
accumulated-pointers r q f bus ram = go (blocked f) (chooses_a f) _ _
  where
    go : (s t : Bool) (x y : Accumulator) → ((cond s q (cond t (stored_a q x) (stored_b q y))).dp ≡ q.dp) × ((cond s q (cond t (stored_a q x) (stored_b q y))).rp ≡ q.rp)
    go true t x y = (refl, refl)
    go false true x y = (refl, refl)
    go false false x y = (refl, refl)

-- only DST DP loads DP, and only DST RP loads RP
module _ (large : Bool) (dp : RamPointer) (rp : RomPointer) (q : Registers) (bus : ℕ) (ram rom : List ℕ) where
  loaded-dp : (dst : ℕ) → (dst ≡ destination_code Dst.Dp → ⊥) → (loaded large dp rp q (destination_of dst) bus ram rom).dp ≡ q.dp
  unfolding loaded
  loaded-dp dst =
      of-get_or-but (λ d. (loaded large dp rp q d bus ram rom).dp ≡ q.dp) destinations (destination_code Dst.Dp) dst
      (refl, (refl, (refl, (refl, (refl, (refl, (refl, (refl, (refl, (refl, (refl, (refl, (refl, (refl, (refl, tt))))))))))))))) refl

  loaded-rp : (dst : ℕ) → (dst ≡ destination_code Dst.Rp → ⊥) → (loaded large dp rp q (destination_of dst) bus ram rom).rp ≡ q.rp
  unfolding loaded
  loaded-rp dst =
      of-get_or-but (λ d. (loaded large dp rp q d bus ram rom).rp ≡ q.rp) destinations (destination_code Dst.Rp) dst
      (refl, (refl, (refl, (refl, (refl, (refl, (refl, (refl, (refl, (refl, (refl, (refl, (refl, (refl, (refl, tt))))))))))))))) refl

-- a pointer is moved from where it was, or is what was loaded
pub pointed-loaded : (large : Bool) (dp : RamPointer) (rp : RomPointer) (q : Registers) (f : OpFields) (bus : ℕ) (ram rom : List ℕ) → q.dp ≡ dp → q.rp ≡ rp
    → pointed large (loaded large dp rp q (destination_of f.dst) bus ram rom).dp (loaded large dp rp q (destination_of f.dst) bus ram rom).rp (loaded large dp rp q (destination_of f.dst) bus ram rom) f
    ≡ pointed large dp rp (loaded large dp rp q (destination_of f.dst) bus ram rom) f
unfolding pointed
pointed-loaded large dp rp q f bus ram rom e₁ e₂ =
    let x = loaded large dp rp q (destination_of f.dst) bus ram rom in
    rw (on-dp x (λ h. loaded-dp large dp rp q bus ram rom f.dst h ∙ e₁) (is_destination f.dst Dst.Dp) refl, on-rp x (λ h. loaded-rp large dp rp q bus ram rom f.dst h ∙ e₂) (is_destination f.dst Dst.Rp) refl)
  where
    on-dp : (x : Registers) → ((f.dst ≡ destination_code Dst.Dp → ⊥) → x.dp ≡ dp) → (t : Bool) → is_destination f.dst Dst.Dp ≡ t → cond t x.dp (ram_pointer_moved f.dpl f.dphm x.dp) ≡ cond t x.dp (ram_pointer_moved f.dpl f.dphm dp)
    on-dp x h true e = refl
    on-dp x h false e = ap (ram_pointer_moved f.dpl f.dphm) (h (eqb-false f.dst (destination_code Dst.Dp) e))

    on-rp : (x : Registers) → ((f.dst ≡ destination_code Dst.Rp → ⊥) → x.rp ≡ rp) → (t : Bool) → is_destination f.dst Dst.Rp ≡ t → cond t x.rp (cond (eqb f.rpdcr 0) x.rp (rom_pointer_down (chip large) x.rp)) ≡ cond t x.rp (cond (eqb f.rpdcr 0) rp (rom_pointer_down (chip large) rp))
    on-rp x h true e = refl
    on-rp x h false e = ap (λ z. cond (eqb f.rpdcr 0) z (rom_pointer_down (chip large) z)) (h (eqb-false f.dst (destination_code Dst.Rp) e))
