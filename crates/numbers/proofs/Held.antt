-- A number held within two ends is the end that it is beyond, or itself.
-- Assumes nothing.
use Rattle.std.proofs.Common.{◌≡◌, ◌+◌, ◌<◌, ◌≤◌, Bool, true, false, cond, ℤ, refl, arith}
use Rattle.std.proofs.lemmas.Int.{ints}
use borrow.Author.Differences.{up, down}
use lib.Signed.{lt_z}
use Rattle.numbers.specs.Held.{held}

pub data Holding (least most z : ℤ) : ℤ → Type 0 where
  below : up z + down least < up least + down z → Holding least most z least
  above : (up least + down z ≤ up z + down least) × (up most + down z < up z + down most) → Holding least most z most
  within : (up least + down z ≤ up z + down least) × (up z + down most ≤ up most + down z) → Holding least most z z

module _ (least most z : ℤ) where
  pub holding : Holding least most z (held least most z)
  unfolding held
  holding = go (lt_z z least) (lt_z most z) refl refl
    where
      go : (s t : Bool) → lt_z z least ≡ s → lt_z most z ≡ t → Holding least most z (cond s least (cond t most z))
      go true t e f = below (omega (arith, ints))
      go false true e f = above (omega (arith, ints), omega (arith, ints))
      go false false e f = within (omega (arith, ints), omega (arith, ints))

  pub held_below : up z + down least < up least + down z → held least most z ≡ least
  unfolding held
  held_below h = grind (arith, ints)

  pub held-above : up least + down most ≤ up most + down least → up most + down z < up z + down most → held least most z ≡ most
  unfolding held
  held-above o h = grind (arith, ints)

  pub held-within : up least + down z ≤ up z + down least → up z + down most ≤ up most + down z → held least most z ≡ z
  unfolding held
  held-within h k = grind (arith, ints)
