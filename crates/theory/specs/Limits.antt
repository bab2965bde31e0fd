-- Limits: of a model, of the numbers of curves and certificates, and of a file. Each is written here and nowhere else;
-- the constants of the code are proved to be these numbers where a clause cites them.
use Rattle.std.specs.Prelude.{ℕ, ◌+◌, ◌^◌, ◌<◌, ℤ, pos, neg_ℤ, ◌≤ℤ◌, List, length}
use Rattle.theory.specs.declared.ext.Ext.{Ext}
use Rattle.theory.specs.Ends.{whole}
use Rattle.theory.specs.CurveList.{item}

-- ---- of a model

-- the most nodes and the most arcs
abbrev pub nodes_most : ℕ
nodes_most = 10000

abbrev pub arcs_most : ℕ
arcs_most = 50000

-- of its network with the ground: one node more, and one arc more for each node
abbrev pub grounded_nodes_most : ℕ
grounded_nodes_most = nodes_most + 1

abbrev pub grounded_arcs_most : ℕ
grounded_arcs_most = nodes_most + arcs_most

-- the most items of a curve list
abbrev pub list_most : ℕ
list_most = 4001

-- of a curve: those of a model's list, and one more at either end, as the conjugate may have
abbrev pub items_most : ℕ
items_most = list_most + 2

-- the most bytes of a name, and of a file
abbrev pub name_most : ℕ
name_most = 64

abbrev pub file_most : ℕ
file_most = 16777216

-- ---- of numbers

-- the magnitude is at most this
abbrev pub IsWithin : ℕ → ℤ → Type 0
IsWithin most z = (neg_ℤ (pos most) ≤ℤ z) × (z ≤ℤ pos most)

-- the greatest magnitude of a point and of a slope
abbrev pub number_most : ℕ
number_most = 1000000000

-- the number of the top level: twice itself so often, 1 is above every point
abbrev pub level_most : ℕ
level_most = 30

-- of a base
abbrev pub base_most : ℕ
base_most = 10 ^ 24

-- of a flow or tension that a curve is read at
abbrev pub arg_most : ℕ
arg_most = 2 ^ 62

-- of a flow or potential of a certificate
abbrev pub flow_most : ℕ
flow_most = 10 ^ 15

-- of a cost, value, capacity or span of a certificate
abbrev pub sum_most : ℕ
sum_most = 10 ^ 30

-- the finite items are within the limit
abbrev pub AreWithin : ℕ → List Ext → Type 0
AreWithin most items = (k : ℕ) → k < length items → IsWithin most (whole (item items k))
