-- A table as its lines list it: plants and shops, which are its places, and the lanes between them.
use Rattle.std.specs.Prelude.{◌≡◌, ℕ, ◌+◌, ◌≤◌, ◌<◌, ℤ, pos, neg_ℤ, int_lt, Bool, true, false, not, List, [], ◌∷◌, map, length, drop, slice_index_or}
use Rattle.std.specs.List.{list_any, zip}
use Rattle.theory.specs.declared.ext.Ext.{Ext}
use Rattle.theory.specs.declared.ext.Ext.TheVariants.{At}
use Rattle.theory.specs.CurveList.{Listing}
use Rattle.theory.specs.Grounded.{Entries, NodeEntry, ArcEntry}
use Rattle.theory.specs.Limits.{number_most, nodes_most, arcs_most, IsWithin}
use Rattle.model_text.specs.Model.{AreNames}
use Rattle.transport_front.specs.declared.pair.Pair.{Pair}

-- what a plant makes or a lane carries, by sizes and unit prices; or what a shop needs
pub data Kind : Type 0 where
  plant : List Pair → Kind
  shop : ℕ → Kind

pub record Place : Type 0 where
  pub name : List ℕ
  pub kind : Kind

-- the ends are positions in the list of places
pub record Lane : Type 0 where
  pub name : List ℕ
  pub from : ℕ
  pub to : ℕ
  pub pairs : List Pair

pub record Table : Type 0 where
  pub places : List Place
  pub lanes : List Lane

-- the most pairs of a plant or of a lane: their curve list has two items a pair and one more
abbrev pub pairs_most : ℕ
pairs_most = 2000

abbrev pub size_of : List Pair → ℕ
size_of [] = 0
size_of (p ∷ ps) = p.size + size_of ps

abbrev pub is_plant : Kind → Bool
is_plant (plant pairs) = true
is_plant (shop demand) = false

abbrev pub is_shop : Kind → Bool
is_shop (plant pairs) = false
is_shop (shop demand) = true

abbrev pub place_at : Table → ℕ → Place
place_at t i = slice_index_or t.places i (record { name = []; kind = shop 0 })

abbrev pub kind_at : Table → ℕ → Kind
kind_at t i = (place_at t i).kind

abbrev pub lane_at : Table → ℕ → Lane
lane_at t j = slice_index_or t.lanes j (record { name = []; from = 0; to = 0; pairs = [] })

abbrev pub place_names : Table → List (List ℕ)
place_names t = map (λ place. place.name) t.places

abbrev pub lane_names : Table → List (List ℕ)
lane_names t = map (λ lane. lane.name) t.lanes

-- ---- what every table keeps

-- a price isn't above the price before it
abbrev pub has_fall : List Pair → Bool
has_fall pairs = list_any (λ two. not (int_lt two.0.price two.1.price)) (zip pairs (drop 1 pairs))

pub record ArePairs (pairs : List Pair) : Type 0 where
  pub some : 1 ≤ length pairs
  pub few : length pairs ≤ pairs_most
  pub sizes : (k : ℕ) (d : Pair) → k < length pairs → 1 ≤ (slice_index_or pairs k d).size
  pub total : size_of pairs ≤ number_most
  pub prices : (k : ℕ) (d : Pair) → k < length pairs → IsWithin number_most (slice_index_or pairs k d).price
  pub rise : has_fall pairs ≡ false

-- the pairs of a plant, the demand of a shop
abbrev pub pairs_in : Kind → List Pair
pairs_in (plant pairs) = pairs
pairs_in (shop demand) = []

abbrev pub demand_in : Kind → ℕ
demand_in (plant pairs) = 0
demand_in (shop demand) = demand

pub record IsKind (kind : Kind) : Type 0 where
  pub pairs : is_plant kind ≡ true → ArePairs (pairs_in kind)
  pub demand : demand_in kind ≤ number_most

-- a lane runs from a plant to a shop
pub record IsLane (places : List Place) (lane : Lane) : Type 0 where
  pub tail : lane.from < length places
  pub head : lane.to < length places
  pub from_plant : is_plant (slice_index_or places lane.from (record { name = []; kind = shop 0 })).kind ≡ true
  pub to_shop : is_shop (slice_index_or places lane.to (record { name = []; kind = shop 0 })).kind ≡ true
  pub pairs : ArePairs lane.pairs

pub record IsTable (t : Table) : Type 0 where
  pub few_places : length t.places ≤ nodes_most
  pub few_lanes : length t.lanes ≤ arcs_most
  pub places_named : AreNames (place_names t)
  pub lanes_named : AreNames (lane_names t)
  pub kinds : (i : ℕ) (d : Place) → i < length t.places → IsKind (slice_index_or t.places i d).kind
  pub joined : (j : ℕ) (d : Lane) → j < length t.lanes → IsLane t.places (slice_index_or t.lanes j d)

-- what a clause sees of a table: its lists, and what they keep
pub record Kept : Type 0 where
  pub table : Table
  pub kept : IsTable table

-- ---- the model that a table stands for: places are nodes and lanes are arcs, in order and with their names

-- the points and slopes behind the point `before`: each price holds up to the sizes so far
abbrev pub after : ℕ → List Pair → List Ext
after before [] = []
after before (p ∷ ps) = At p.price ∷ At (pos (before + p.size)) ∷ after (before + p.size) ps

abbrev pub priced : List Pair → List Ext
priced pairs = At (pos 0) ∷ after 0 pairs

abbrev pub listed : List Ext → Listing
listed items = record { items = items; base = pos 0 }

-- a plant supplies what it makes, a shop takes its demand away
abbrev pub supply_items : Kind → List Ext
supply_items (plant pairs) = priced pairs
supply_items (shop demand) = At (neg_ℤ (pos demand)) ∷ []

abbrev pub place_node : Place → NodeEntry
place_node place = record { name = place.name; supply = listed (supply_items place.kind) }

abbrev pub lane_arc : Lane → ArcEntry
lane_arc lane = record { name = lane.name; from = lane.from; to = lane.to; curve = listed (priced lane.pairs) }

abbrev pub compiled : Table → Entries
compiled t = record { nodes = map place_node t.places; arcs = map lane_arc t.lanes }
