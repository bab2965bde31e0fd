-- The printed form: a text of lines, each a keyword and words that each follow one space.
use Rattle.std.specs.Prelude.{ℕ, zero, suc, ◌+◌, ◌-◌, ◌==◌, ℤ, pos, negsuc, Bool, if◌then◌else◌, List, [], ◌∷◌, ◌++◌, length, take, drop, replicate, codes}
use Rattle.std.specs.Ordering.{int_eq}
use Rattle.std.specs.Fmt.{decimal, signed_decimal}
use Rattle.std.specs.List.{flat_map}
use Rattle.theory.specs.declared.ext.Ext.{Ext}
use Rattle.theory.specs.declared.ext.Ext.TheVariants.{MinusInf, At, PlusInf}
use Rattle.theory.specs.CurveList.{Listing}
use Rattle.theory.specs.Grounded.{Entries, NodeEntry, ArcEntry}
use Rattle.model_text.specs.Model.{node_at}
use Rattle.model_text.specs.ModelText.{digit_word}
use Rattle.model_text.specs.Scale.{cost_decimals}
use Rattle.model_text.specs.declared.scale.Scale.{Scale}

-- the one shortest decimal form, with `-` before a negative number
abbrev pub printed_number : ℤ → List ℕ
printed_number z = signed_decimal z

-- the digits with zeros (48) in front where there are fewer
abbrev pub filled : ℕ → List ℕ → List ℕ
filled count digits = replicate (count - length digits) 48 ++ digits

-- a point (46) before the last of the digits
abbrev pub pointed : ℕ → List ℕ → List ℕ
pointed decimals digits =
    take (length digits - decimals) digits ++ 46 ∷ drop (length digits - decimals) digits

-- the digits of so many units, with as many decimals and one digit before them at least
abbrev pub printed_units : ℕ → ℕ → List ℕ
printed_units zero n = decimal n
printed_units (suc k) n = pointed (suc k) (filled (suc k + 1) (decimal n))

-- `-` (45) before a negative number
abbrev pub sign_of : Bool → List ℕ
sign_of negative = if negative then 45 ∷ [] else []

abbrev pub printed_fixed : ℕ → ℤ → List ℕ
printed_fixed decimals (pos n) = printed_units decimals n
printed_fixed decimals (negsuc n) = 45 ∷ printed_units decimals (suc n)

abbrev pub printed_end : ℕ → Ext → List ℕ
printed_end decimals MinusInf = codes "-inf"
printed_end decimals (At a) = printed_fixed decimals a
printed_end decimals PlusInf = codes "+inf"

-- words, each after one space (32)
abbrev pub spaced : List (List ℕ) → List ℕ
spaced words = flat_map (λ word. 32 ∷ word) words

-- a line ends with LF (10)
abbrev pub printed_line : List ℕ → List (List ℕ) → List ℕ
printed_line keyword words = keyword ++ spaced words ++ 10 ∷ []

-- a list is written in full: points and slopes in turn, with so many decimals each
abbrev pub printed_list : ℕ → ℕ → List Ext → List (List ℕ)
printed_list here next [] = []
printed_list here next (e ∷ items) = printed_end here e ∷ printed_list next here items

-- the base stands there exactly where it isn't 0
abbrev pub printed_base : ℕ → ℤ → List (List ℕ)
printed_base decimals base = if int_eq base (pos 0) then [] else (codes "base" ∷ printed_fixed decimals base ∷ [])

abbrev pub printed_curve : Scale → Listing → List (List ℕ)
printed_curve s curve = printed_list s.flow s.tension curve.items ++ printed_base (cost_decimals s) curve.base

-- ---- the printed form of a model: its front, a line per node, a line per arc

abbrev pub printed_front : Scale → List ℕ
printed_front s =
    if s.version == 1 then printed_line (codes "network 1") []
    else (printed_line (codes "network 2") [] ++ printed_line (codes "decimals") (digit_word s.flow ∷ digit_word s.tension ∷ []))

abbrev pub printed_node : Scale → NodeEntry → List ℕ
printed_node s node = printed_line (codes "node") (node.name ∷ printed_curve s node.supply)

abbrev pub printed_arc : Scale → Entries → ArcEntry → List ℕ
printed_arc s m arc =
    printed_line (codes "arc")
    (arc.name ∷ (node_at m arc.from).name ∷ (node_at m arc.to).name ∷ printed_curve s arc.curve)

abbrev pub printed_model : Scale → Entries → List ℕ
printed_model s m =
    printed_front s ++ flat_map (printed_node s) m.nodes ++ flat_map (printed_arc s m) m.arcs
