-- Violations: how far flows are from the domains of their arcs.
use Rattle.std.specs.Prelude.{◌≡◌, ℕ, ◌+◌, ◌*◌, ◌-◌, ◌^◌, ◌≤◌, ℤ, pos, ◌+ℤ◌, ◌-ℤ◌, neg_ℤ, Bool, true, false, Option, Some, None, List}
use Rattle.theory.specs.declared.ext.Ext.{Ext}
use Rattle.theory.specs.declared.ext.Ext.TheVariants.{MinusInf, At, PlusInf}
use Rattle.theory.specs.Sums.{positive_part, total_below}
use Rattle.theory.specs.Ends.{IsAtLeast, IsAtMost}
use Rattle.theory.specs.CurveList.{first, last}
use Rattle.theory.specs.Limits.{number_most, IsWithin}
use Rattle.theory.specs.Network.{«at», list_at}
use Rattle.painted_search.specs.Room.{count_most}
use Rattle.feasible_flow.specs.declared.domains.Need.{Need}

-- how far a flow is below the lower end, and above the upper end
abbrev pub missing : Ext → ℤ → ℕ
missing MinusInf x = 0
missing (At a) x = positive_part (a -ℤ x)
missing PlusInf x = 0

abbrev pub surplus : Ext → ℤ → ℕ
surplus MinusInf x = 0
surplus (At b) x = positive_part (x -ℤ b)
surplus PlusInf x = 0

abbrev pub violation : List Ext → ℤ → ℕ
violation items x = missing (first items) x + surplus (last items) x

-- the violation of arc j, and those of the first m arcs together
abbrev pub violation_at : List (List Ext) → List ℤ → ℕ → ℕ
violation_at lists x j = violation (list_at lists j) («at» x j)

abbrev pub total_violation : ℕ → List (List Ext) → List ℤ → ℕ
total_violation m lists x = total_below m (violation_at lists x)

-- the most that m flows of 0 lack to their domains
abbrev pub violation_most : ℕ → ℕ
violation_most m = m * number_most

-- ---- one arc

-- what a flow lacks forward (true), backward (false)
abbrev pub needed : List Ext → ℤ → Bool → ℕ
needed items x true = missing (first items) x
needed items x false = surplus (last items) x

-- the flow lacks this amount in the direction
pub record IsNeed (items : List Ext) (x : ℤ) (forward : Bool) (amount : ℕ) : Type 0 where
  pub some : 1 ≤ amount
  pub exact : amount ≡ needed items x forward

abbrev pub IsNeedOf : List (List Ext) → List ℤ → ℕ → Option Need → Type 0
IsNeedOf lists x j None = violation_at lists x j ≡ 0
IsNeedOf lists x j (Some need) =
    (need.step.arc.0 ≡ j) × IsNeed (list_at lists need.step.arc.0) («at» x need.step.arc.0) need.step.forward need.amount

-- the flow moved by the amount is not past the end of the domain that it moves to
abbrev pub HasRoom : List Ext → ℤ → Bool → ℕ → Type 0
HasRoom items x true amount = IsAtMost 1 (last items) (x +ℤ pos amount)
HasRoom items x false amount = IsAtLeast 1 (first items) (x +ℤ neg_ℤ (pos amount))

-- how far a flow is from an end, on either side; an infinite end is further than any flow
abbrev pub distance : Ext → ℤ → ℕ
distance MinusInf x = 2 ^ 64 - 1
distance (At a) x = missing (At a) x + surplus (At a) x
distance PlusInf x = 2 ^ 64 - 1

-- ---- ranges

-- flows within this and what they lack fit 64 bits together: no flow is further from 0 on the way
abbrev pub near_most : ℕ
near_most = violation_most count_most

-- flows within this may be moved by no more than this, and what they lack is measured
abbrev pub movable_most : ℕ
movable_most = 2 ^ 61

abbrev pub AreNear : ℕ → List ℤ → Type 0
AreNear most x = (j : ℕ) → IsWithin most («at» x j)
