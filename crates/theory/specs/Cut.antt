-- Cut sum of a set of nodes: the upper domain ends of the arcs that leave it less the lower domain ends of the arcs
-- that enter it (Rockafellar: the capacity of a cut). It counts where all these ends are finite.
use Rattle.std.specs.Prelude.{ℕ, ◌<◌, ℤ, pos, ◌<ℤ◌, Bool, false, not, ◌&&◌, if◌then◌else◌, List, length, slice_index_or}
use Rattle.theory.specs.declared.ext.Ext.{Ext}
use Rattle.theory.specs.declared.ext.Ext.TheVariants.{At}
use Rattle.theory.specs.Ends.{IsFinite, whole, negated}
use Rattle.theory.specs.CurveList.{first, last}
use Rattle.theory.specs.Network.{Network, tail, head, curve, over_arcs}

-- whether the set, one mark a node, holds node i
abbrev pub holds : List Bool → ℕ → Bool
holds side i = slice_index_or side i false

abbrev pub leaves : Network → List Bool → ℕ → Bool
leaves net side j = holds side (tail net j) && not (holds side (head net j))

abbrev pub enters : Network → List Bool → ℕ → Bool
enters net side j = not (holds side (tail net j)) && holds side (head net j)

-- what arc j adds to the sum
abbrev pub cut_end : Network → List Bool → ℕ → Ext
cut_end net side j =
    if leaves net side j then last (curve net j).items
    else (if enters net side j then negated (first (curve net j).items) else (At (pos 0)))

abbrev pub CutCounts : Network → List Bool → Type 0
CutCounts net side = (j : ℕ) → j < length net.arcs → IsFinite (cut_end net side j)

abbrev pub cut_sum : Network → List Bool → ℤ
cut_sum net side = over_arcs net (λ j. whole (cut_end net side j))

pub record IsNegativeCut (net : Network) (side : List Bool) : Type 0 where
  pub counts : CutCounts net side
  pub negative : cut_sum net side <ℤ pos 0
