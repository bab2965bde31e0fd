-- Plan of a table over a denominator: a whole amount for each lane, such that each shop gets what it needs and no plant gives
-- more than it makes. Its cost is that of all lanes' amounts and of all plants' totals. Shortage: what a set of shops needs
-- beyond what a set of plants makes and what the lanes from the other plants carry to them.
-- All of it speaks of the table alone.
use Rattle.std.specs.Prelude.{◌≡◌, ℕ, ◌+◌, ◌≤◌, ◌<◌, ◌==◌, ℤ, pos, neg_ℤ, ◌+ℤ◌, ◌-ℤ◌, ◌*ℤ◌, ◌≤ℤ◌, ◌<ℤ◌, Bool, true, not, ◌&&◌, List, [], ◌∷◌, length, drop}
use Rattle.std.specs.Int.{int_min, int_max}
use Rattle.theory.specs.Network.{«at»}
use Rattle.theory.specs.Sums.{sum_below, counted}
use Rattle.theory.specs.Cut.{holds}
use Rattle.theory.specs.Certificate.{Certificate}
use Rattle.theory.specs.Certificate.Certificate.{optimal, cut, circuit}
use Rattle.theory.specs.Certificate.{IsValid}
use Rattle.theory.specs.Grounded.{grounded}
use Rattle.transport_front.specs.declared.pair.Pair.{Pair}
use Rattle.transport_front.specs.Table.{Kind, Table, size_of, kind_at, is_plant, lane_at, IsTable, compiled}
use Rattle.transport_front.specs.Table.Kind.{plant, shop}

-- ---- prices

-- what of the amount z lies between the two numbers
abbrev pub part : (from to z : ℤ) → ℤ
part from to z = int_min to (int_max from z) -ℤ from

-- each pair's price for the part of z that lies beyond the sizes before it and within its own, each size taken q times
abbrev pub price_from : ℕ → ℕ → List Pair → ℤ → ℤ
price_from q before [] z = pos 0
price_from q before (p ∷ ps) z =
    p.price *ℤ part (pos q *ℤ pos before) (pos q *ℤ pos (before + p.size)) z +ℤ price_from q (before + p.size) ps z

abbrev pub price : ℕ → List Pair → ℤ → ℤ
price q pairs z = price_from q 0 pairs z

-- ---- plans

-- what leaves a place on lanes, and what comes to it
abbrev pub taken : Table → List ℤ → ℕ → ℤ
taken t z i = sum_below (length t.lanes) (λ j. counted ((lane_at t j).from == i) («at» z j))

abbrev pub brought : Table → List ℤ → ℕ → ℤ
brought t z i = sum_below (length t.lanes) (λ j. counted ((lane_at t j).to == i) («at» z j))

abbrev pub IsServed : ℕ → Kind → (out into : ℤ) → Type 0
IsServed q (plant pairs) out into = out ≤ℤ (pos q *ℤ pos (size_of pairs))
IsServed q (shop demand) out into = into ≡ pos q *ℤ pos demand

pub record IsPlan (q : ℕ) (t : Table) (z : List ℤ) : Type 0 where
  pub one_each : length z ≡ length t.lanes
  pub some : (j : ℕ) → j < length t.lanes → pos 0 ≤ℤ «at» z j
  pub most : (j : ℕ) → j < length t.lanes → «at» z j ≤ℤ (pos q *ℤ pos (size_of (lane_at t j).pairs))
  pub served : (i : ℕ) → i < length t.places → IsServed q (kind_at t i) (taken t z i) (brought t z i)

-- a plant is paid for its total, a shop for nothing
abbrev pub place_cost : ℕ → Kind → ℤ → ℤ
place_cost q (plant pairs) out = price q pairs out
place_cost q (shop demand) out = pos 0

abbrev pub plan_cost : ℕ → Table → List ℤ → ℤ
plan_cost q t z =
    sum_below (length t.places) (λ i. place_cost q (kind_at t i) (taken t z i))
    +ℤ sum_below (length t.lanes) (λ j. price q (lane_at t j).pairs («at» z j))

-- a plan of that cost, and no plan over any denominator costs less
pub record IsBestPlan (t : Table) (z : List ℤ) (cost : ℤ) : Type 0 where
  pub plan : IsPlan 1 t z
  pub cost_is : plan_cost 1 t z ≡ cost
  pub least : (q : ℕ) (y : List ℤ) → 1 ≤ q → IsPlan q t y → (pos q *ℤ cost) ≤ℤ plan_cost q t y

abbrev pub NoPlan : Table → Type 0
NoPlan t = (q : ℕ) (y : List ℤ) → 1 ≤ q → IsPlan q t y → ⊥

-- ---- shortage

-- one set of places stands for both: its plants and its shops
abbrev pub wanted : Kind → ℤ
wanted (plant pairs) = neg_ℤ (pos (size_of pairs))
wanted (shop demand) = pos demand

abbrev pub shortage : Table → (ℕ → Bool) → ℤ
shortage t set =
    sum_below (length t.places) (λ i. counted (set i) (wanted (kind_at t i)))
    -ℤ sum_below (length t.lanes) (λ j. counted (not (set (lane_at t j).from) && set (lane_at t j).to) (pos (size_of (lane_at t j).pairs)))

-- the sets fall short by that number, so there is no plan
pub record IsShort (t : Table) (set : ℕ → Bool) (short : ℤ) : Type 0 where
  pub is : shortage t set ≡ short
  pub above : pos 0 <ℤ short
  pub none : NoPlan t

-- ---- what a valid certificate of the compiled model says of the table

-- the places outside a side of a cut; the ground is node 0 there
abbrev pub outside : List Bool → ℕ → Bool
outside side i = not (holds side (i + 1))

-- a plant's total is the flow of its ground arc
abbrev pub AreTotals : Table → (x z : List ℤ) → Type 0
AreTotals t x z = (i : ℕ) → i < length t.places → is_plant (kind_at t i) ≡ true → «at» x i ≡ taken t z i

abbrev pub SaysOfTable : Table → Certificate → Type 0
SaysOfTable t (optimal x u cost value) = IsBestPlan t (drop (length t.places) x) cost × AreTotals t x (drop (length t.places) x)
SaysOfTable t (cut side capacity) = IsShort t (outside side) (neg_ℤ capacity)
SaysOfTable t (circuit x walk span) = ⊥

abbrev pub TransportLaw : Type 0
TransportLaw = (t : Table) (c : Certificate) → IsTable t → IsValid (grounded (compiled t)) c → SaysOfTable t c
