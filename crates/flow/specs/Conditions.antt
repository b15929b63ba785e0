-- The 32 conditions: 01, "CND 0 to 23 run in pairs ..".
use Rattle.std.specs.Prelude.{ℕ, ◌-◌, ◌/◌, ◌%◌, Bool, false, cond, List, [], ◌∷◌, nat_lt, ◌==◌, slice_index_or}
use Rattle.std.specs.Bool.{beq}
use Rattle.device.specs.declared.registers.Registers.{Registers}
use Rattle.status.specs.Status.{rqm}

-- "CA, CB, ZA, ZB, OVA0, OVB0, OVA1, OVB1, SA0, SB0, SA1, SB1"
abbrev pub condition_flags : Registers → List Bool
condition_flags r =
    r.flags.a.c ∷ r.flags.b.c ∷ r.flags.a.z ∷ r.flags.b.z ∷ r.flags.a.ov0 ∷ r.flags.b.ov0 ∷ r.flags.a.ov1 ∷ r.flags.b.ov1
    ∷ r.flags.a.s0 ∷ r.flags.b.s0 ∷ r.flags.a.s1 ∷ r.flags.b.s1 ∷ []

-- "SIACK, SOACK, RQM"
abbrev pub condition_marks : Registers → List Bool
condition_marks r = r.siack ∷ r.soack ∷ rqm r.sr ∷ []

-- "in pairs, first is 0 then is 1"
abbrev pub in_pairs : List Bool → ℕ → Bool
in_pairs flags n = beq (slice_index_or flags (n / 2) false) ((n % 2) == 1)

-- "24: low DP is 0. 25: low DP is 15. 26 to 31, again in pairs"; a larger number is no condition and does not hold
unfoldable pub condition_holds : Registers → ℕ → Bool
condition_holds r cnd =
    cond (nat_lt cnd 24) (in_pairs (condition_flags r) cnd)
    (cond (cnd == 24) ((r.dp.0 % 16) == 0)
    (cond (cnd == 25) ((r.dp.0 % 16) == 15)
    (cond (nat_lt cnd 32) (in_pairs (condition_marks r) (cnd - 26)) false)))
