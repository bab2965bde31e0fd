-- What `transport` answers to the text of a table: the line for the first fault; or a plan that no plan undercuts; or plants and shops that fall
-- short, where there is no plan.
use Rattle.std.specs.Prelude.{◌≡◌, ◌⊎◌, ◌↔◌, ℕ, ◌+◌, ◌≤◌, ℤ, Bool, ◌&&◌, if◌then◌else◌, List, [], ◌∷◌, ◌++◌, length, codes, Option}
use Rattle.theory.specs.Network.{«at»}
use Rattle.outside_io.specs.Sink.{Grew}
use Rattle.model_text.specs.Printed.{printed_line, printed_number}
use Rattle.cert_text.specs.CertificateText.{texts_below}
use Rattle.transport_front.specs.Table.{Table, is_plant, is_shop, kind_at, place_at, lane_at}
use Rattle.transport_front.specs.Plan.{IsPlan, IsBestPlan, NoPlan, IsShort, taken}
use Rattle.transport_front.specs.TableText.{Spells, IsFirstFault}
use Rattle.transport_front.specs.declared.fault.TableWord.{TableWord}
use Rattle.mono_top.specs.TableLines.{table_line}
use Rattle.mono_top.specs.declared.status.Status.{Status}
use Rattle.mono_top.specs.declared.status.Status.TheVariants.{Done, Cut, TableRefused}

-- ---- the texts

abbrev pub headed : List ℕ → ℤ → List ℕ
headed word number = printed_line (codes "transport") (word ∷ printed_number number ∷ [])

abbrev pub plant_line : Table → ℕ → ℤ → List ℕ
plant_line t i total = if is_plant (kind_at t i) then printed_line (codes "plant") ((place_at t i).name ∷ printed_number total ∷ []) else []

abbrev pub lane_line : Table → ℕ → ℤ → List ℕ
lane_line t j amount = printed_line (codes "lane") ((lane_at t j).name ∷ printed_number amount ∷ [])

-- the cost, each plant with its total, each lane with its amount
abbrev pub plan_text : Table → List ℤ → ℤ → List ℕ
plan_text t plan cost =
    headed (codes "cost") cost ++ texts_below (length t.places) (λ i. plant_line t i (taken t plan i))
    ++ texts_below (length t.lanes) (λ j. lane_line t j («at» plan j))

-- the same by the flows of the places and of the lanes behind them
abbrev pub flows_text : Table → List ℤ → ℤ → List ℕ
flows_text t flows cost =
    headed (codes "cost") cost ++ texts_below (length t.places) (λ i. plant_line t i («at» flows i))
    ++ texts_below (length t.lanes) (λ j. lane_line t j («at» flows (length t.places + j)))

abbrev pub plant_named : Table → (ℕ → Bool) → ℕ → List ℕ
plant_named t set i = if set i && is_plant (kind_at t i) then printed_line (codes "plant") ((place_at t i).name ∷ []) else []

abbrev pub shop_named : Table → (ℕ → Bool) → ℕ → List ℕ
shop_named t set i = if set i && is_shop (kind_at t i) then printed_line (codes "shop") ((place_at t i).name ∷ []) else []

-- the shortage, the plants of the set, the shops of the set
abbrev pub short_text : Table → (ℕ → Bool) → ℤ → List ℕ
short_text t set short =
    headed (codes "short") short ++ texts_below (length t.places) (plant_named t set) ++ texts_below (length t.places) (shop_named t set)

-- ---- the answer to a table

pub record IsPlanned (t : Table) (status : Status) (text : List ℕ) : Type 0 where
  pub plan : List ℤ
  pub cost : ℤ
  pub best : IsBestPlan t plan cost
  pub done : status ≡ Done
  pub is : text ≡ plan_text t plan cost

pub record IsUnmet (t : Table) (status : Status) (text : List ℕ) : Type 0 where
  pub set : ℕ → Bool
  pub short : ℤ
  pub falls_short : IsShort t set short
  pub unmet : status ≡ Cut
  pub is : text ≡ short_text t set short

abbrev pub Plans : Table → Status → List ℕ → Type 0
Plans t status text = IsPlanned t status text ⊎ IsUnmet t status text

-- ---- the answer to a text

abbrev pub AnswersTable : List ℕ → Status → List ℕ → Type 0
AnswersTable bytes status text =
    ((line : ℕ) × (word : TableWord) × IsFirstFault bytes line word × (status ≡ TableRefused line word) × (text ≡ table_line line word))
    ⊎ ((t : Table) × Spells bytes t × Plans t status text)

-- ---- what a call concludes

abbrev pub HasPlan : Table → Type 0
HasPlan t = (q : ℕ) × (plan : List ℤ) × (1 ≤ q) × IsPlan q t plan

-- The table has a plan, over some denominator, exactly where one is printed, and then none undercuts it; else what is printed falls short.
pub record ConcludesTable (t : Table) (status : Status) (old new : Option (List ℕ)) : Type 0 where
  pub text : List ℕ
  pub answer : Plans t status text
  pub written : Grew old new text
  pub planned : (status ≡ Done) ↔ HasPlan t
  pub unmet : (status ≡ Cut) ↔ NoPlan t
