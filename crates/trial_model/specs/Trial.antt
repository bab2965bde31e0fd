-- The trial model of a number, which is the state that the generator begins with: 200 nodes, a ring of 200 arcs without ends
-- that carries every balanced supply, and 800 chords. Positions are counted from 0, and the numbers in names from 1.
use Rattle.std.specs.Prelude.{ℕ, zero, suc, ◌+◌, ◌*◌, ◌%◌, ℤ, pos, ◌+ℤ◌, ◌-ℤ◌, neg_ℤ, List, [], ◌∷◌, ◌++◌}
use Rattle.theory.specs.declared.ext.Ext.{Ext}
use Rattle.theory.specs.declared.ext.Ext.TheVariants.{MinusInf, At, PlusInf}
use Rattle.theory.specs.CurveList.{Listing}
use Rattle.theory.specs.Grounded.{Entries, NodeEntry, ArcEntry}
use Rattle.theory.specs.Sums.{sum_over}
use Rattle.model_text.specs.Printed.{printed_number}
use Rattle.trial_model.specs.Generator.{state_after, drawn}

-- f 0, f 1, .., f (n - 1)
unfoldable pub values_below : {A : Type 0} → ℕ → (ℕ → A) → List A
values_below zero f = []
values_below (suc n) f = values_below n f ++ f n ∷ []

-- all bases are 0
abbrev pub listed : List Ext → Listing
listed items = record { items = items; base = pos 0 }

-- a letter, and the number of the position: `n1` is the node at position 0
abbrev pub numbered : ℕ → ℕ → List ℕ
numbered letter position = letter ∷ printed_number (pos (position + 1))

-- ---- nodes `n1` to `n200` (`n` is 110): each supply but the last is drawn, and the last one balances them

abbrev pub drawn_supply : ℕ → ℕ → ℤ
drawn_supply state position = pos (drawn state (position + 1) 21) -ℤ pos 10

abbrev pub balance : List ℤ → ℤ
balance supplies = neg_ℤ (sum_over (λ supply. supply) supplies)

abbrev pub node : ℕ → ℤ → NodeEntry
node position supply = record { name = numbered 110 position; supply = listed (At supply ∷ []) }

abbrev pub drawn_node : ℕ → ℕ → NodeEntry
drawn_node state position = node position (drawn_supply state position)

abbrev pub nodes : ℕ → List NodeEntry
nodes state = values_below 199 (drawn_node state) ++ node 199 (balance (values_below 199 (drawn_supply state))) ∷ []

-- ---- the ring, arcs `r1` to `r200` (`r` is 114), from each node to the next one and from the last to the first

abbrev pub ring_items : ℕ → List Ext
ring_items slope = MinusInf ∷ At (neg_ℤ (pos slope)) ∷ At (pos 0) ∷ At (pos slope) ∷ PlusInf ∷ []

abbrev pub ring_arc : ℕ → ℕ → ArcEntry
ring_arc state position = record {
  name = numbered 114 position;
  from = position;
  to = (position + 1) % 200;
  curve = listed (ring_items (1 + drawn state (position + 1) 1000));
}

abbrev pub ring : ℕ → List ArcEntry
ring state = values_below 200 (ring_arc state)

-- ---- the chords, arcs `c1` to `c800` (`c` is 99), each of six draws: where it begins, how far on it ends, its first slope, the
-- flow up to which that holds, how much steeper the second slope is, and for how much more flow

abbrev pub chord_list : ℕ → ℕ → ℕ → ℕ → List Ext
chord_list slope first steeper further =
    At (pos 0) ∷ At (pos slope -ℤ pos 500) ∷ At (pos (1 + first)) ∷ At ((pos slope -ℤ pos 500) +ℤ pos (1 + steeper))
    ∷ At (pos (1 + first) +ℤ pos (1 + further)) ∷ []

abbrev pub chord_items : ℕ → List Ext
chord_items state = chord_list (drawn state 3 1000) (drawn state 4 50) (drawn state 5 100) (drawn state 6 50)

abbrev pub chord_from : ℕ → ℕ
chord_from state = drawn state 1 200

abbrev pub chord_to : ℕ → ℕ
chord_to state = (drawn state 1 200 + (1 + drawn state 2 199)) % 200

abbrev pub chord_of : ℕ → ℕ → ArcEntry
chord_of state position =
    record { name = numbered 99 position; from = chord_from state; to = chord_to state; curve = listed (chord_items state) }

abbrev pub chord : ℕ → ℕ → ArcEntry
chord state position = chord_of (state_after state (6 * position)) position

abbrev pub chords : ℕ → List ArcEntry
chords state = values_below 800 (chord state)

-- ---- the model: the nodes are drawn first, then the ring, then the chords

abbrev pub state_at_ring : ℕ → ℕ
state_at_ring number = state_after number 199

abbrev pub state_at_chords : ℕ → ℕ
state_at_chords number = state_after (state_at_ring number) 200

abbrev pub trial_entries : ℕ → Entries
trial_entries number =
    record { nodes = nodes number; arcs = ring (state_at_ring number) ++ chords (state_at_chords number) }
