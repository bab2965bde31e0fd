-- A set of nodes with one node more: that node is in it, all others are as they were.
use Rattle.std.proofs.Common.{◌≡◌, ◌≢◌, ℕ, ◌<◌, true, false, IsTrue, List, Bool, length, set, ◌∙◌, ⊎_elim}
use Rattle.std.proofs.lemmas.Bool.{cases_eq}
use Rattle.std.proofs.lemmas.List.{get_or-set_same, get_or-set_other}
use Rattle.theory.specs.Cut.{holds}

pub holds-set_same : (side : List Bool) (i : ℕ) → i < length side → IsTrue (holds (set side i true) i)
holds-set_same side i l = get_or-set_same side i true false l

pub holds-set_other : (side : List Bool) (i k : ℕ) → k ≢ i → holds (set side i true) k ≡ holds side k
holds-set_other side i k other = get_or-set_other side i k true false other

pub holds-set_at : (side : List Bool) (i k : ℕ) → i < length side → k ≡ i → IsTrue (holds (set side i true) k)
holds-set_at side i k l e = rw e (holds-set_same side i l)

pub holds-set_kept : (side : List Bool) (i k : ℕ) → i < length side → IsTrue (holds side k) → IsTrue (holds (set side i true) k)
holds-set_kept side i k l held =
    ⊎_elim
    (λ (same : k ≡ i). holds-set_at side i k l same)
    (λ (other : k ≡ i → ⊥). holds-set_other side i k other ∙ held)
    (cases_eq k i)
