-- How a search settles nodes. Each is settled once, so the steps that are tried at all of them are at most two for each arc.
use Rattle.std.proofs.Common.{◌≡◌, ℕ, ◌+◌, ◌*◌, ◌<◌, ◌≤◌, pos, ◌≤ℤ◌, Bool, true, false, IsTrue, List, length, set, refl, sym, ap, ◌∙◌, subst, ⊎_elim, arith}
use Rattle.std.proofs.lemmas.Int.{ints}
use Rattle.std.proofs.lemmas.Bool.{cases_eq}
use Rattle.std.proofs.lemmas.List.{get_or-set_other}
use Rattle.std.proofs.Math.Nat.{mul-le-mul_left}
use Rattle.theory.specs.declared.ext.Ext.{Ext}
use Rattle.theory.specs.Cut.{holds}
use Rattle.net_incidence.specs.Graph.{Graph}
use Rattle.net_incidence.specs.Incidence.{incident_steps}
use Rattle.painted_search.specs.Room.{Room}
use Rattle.painted_search.specs.Writes.{with_mark}
use Rattle.net_incidence.proofs.Degrees.{degrees}
use Rattle.kilter_solver.specs.Excess.{excess}
use Rattle.kilter_solver.specs.Marks.{marked_total}
use Rattle.kilter_solver.specs.Ready.{Ready}
use Rattle.kilter_solver.specs.Spread.{Spread, IsSameState, IsLater, IsSameButQueue}
use Rattle.theory.proofs.Marks.{holds-set_other}
use Rattle.kilter_solver.proofs.Marking.{marked_total-set, marked_total-most}
use Rattle.kilter_solver.proofs.Spreading.{near-done, near-below, started, started-alone, ready-same}
use Rattle.kilter_solver.proofs.Requeued.{later-queue}

abbrev pub degree : Graph → ℕ → ℕ
degree g i = length (incident_steps g.arcs i)

-- ---- what it spends

pub spent-more : (g : Graph) (side : List Bool) (i weight start old new : ℕ) → i < g.nodes → i < length side → holds side i ≡ false
    → old ≤ start + marked_total g.nodes (degree g) side * weight → new ≤ old + degree g i * weight
    → (after : List Bool) → after ≡ set side i true
    → new ≤ start + marked_total g.nodes (degree g) after * weight
spent-more g side i weight start old new there marked waits before here after is =
    let more = marked_total-set g.nodes (degree g) side i there marked waits in
    rw (is, more) (omega arith)

pub spent-most : (g : Graph) (side : List Bool) (weight start new : ℕ) → new ≤ start + marked_total g.nodes (degree g) side * weight
    → new ≤ start + 2 * length g.arcs * weight
spent-most g side weight start new before =
    let most = marked_total-most g.nodes (degree g) side in
    let all = degrees g.nodes g.arcs in
    let few : marked_total g.nodes (degree g) side ≤ 2 * length g.arcs = omega arith in
    omega (arith, mul-le-mul_left weight few)

-- ---- settled nodes lack nothing

pub none_lacks-more : (w : Room) (i : ℕ) → ((k : ℕ) → IsTrue (holds w.reached k) → pos 0 ≤ℤ excess w k) → pos 0 ≤ℤ excess w i
    → (k : ℕ) → IsTrue (holds (with_mark w i).reached k) → pos 0 ≤ℤ excess w k
none_lacks-more w i before here k done =
    ⊎_elim
    (λ (same : k ≡ i). let e : excess w k ≡ excess w i = ap (excess w) same in omega (arith, ints))
    (λ (other : k ≡ i → ⊥). before k (sym (holds-set_other w.reached i k other) ∙ done))
    (cases_eq k i)

-- ---- the state along the way

pub state-further : (u v w : Room) → IsSameState u v → IsSameState v w → IsSameState u w
state-further u v w first second = record {
  nodes = second.nodes ∙ first.nodes;
  arcs = second.arcs ∙ first.arcs;
  flows = second.flows ∙ first.flows;
  potentials = second.potentials ∙ first.potentials;
  excesses = λ i l. second.excesses i (omega (arith, first.nodes)) ∙ first.excesses i l;
}

-- what holds whenever the next node is looked for
pub record IsSettling (g : Graph) (lists : List (List Ext)) (source : ℕ) (entry w : Room) : Type 0 where
  pub ready : Ready g lists w
  pub spread : Spread g lists source g.nodes w
  pub state : IsSameState entry w
  pub none_lacks : (i : ℕ) → IsTrue (holds w.reached i) → pos 0 ≤ℤ excess w i

module _ (g : Graph) (lists : List (List Ext)) (source : ℕ) where
  -- of settled nodes, after a visit
  visited-none_lacks : (v w : Room) → IsLater v w → ((i : ℕ) → IsTrue (holds v.reached i) → pos 0 ≤ℤ excess v i)
      → (i : ℕ) → IsTrue (holds w.reached i) → pos 0 ≤ℤ excess w i
  visited-none_lacks v w later before i done =
      let done_before : IsTrue (holds v.reached i) = subst (λ (side : List Bool). IsTrue (holds side i)) later.reached done in
      let e = later.state.excesses i (near-below v i (near-done v i done_before)) in
      let h = before i done_before in
      omega (arith, ints)

  pub settling-begun : (entry v w : Room) → IsSameButQueue (started entry source) v → source < g.nodes → Ready g lists entry → pos 0 ≤ℤ excess entry source
      → IsLater v w → Spread g lists source g.nodes w → IsSettling g lists source entry w
  settling-begun entry v w is there ready surplus later spread =
      let begun_state : IsSameState entry (started entry source) = record {
        nodes = refl;
        arcs = refl;
        flows = refl;
        potentials = refl;
        excesses = λ i l. get_or-set_other entry.scratch (entry.nodes + source) i (pos 0) (pos 0) (λ e. omega arith);
      } in
      let now = later-queue (started entry source) v is in
      let state : IsSameState entry v = state-further entry (started entry source) v begun_state now.state in
      let below : source < entry.nodes = omega (arith, ready.same_nodes) in
      record {
        ready = ready-same g lists v w later.state (ready-same g lists entry v state ready);
        spread = spread;
        state = state-further entry v w state later.state;
        none_lacks = visited-none_lacks v w later
            (λ i done.
            let alone : i ≡ source = started-alone g lists entry source ready.same_nodes below i
            (near-done (started entry source) i (subst (λ (side : List Bool). IsTrue (holds side i)) now.reached done)) in
            let e : excess v i ≡ excess v source = ap (excess v) alone in
            let f = state.excesses source below in
            omega (arith, ints));
      }

  pub settling-more : (entry u v w : Room) (i : ℕ) → IsSettling g lists source entry u → IsSameButQueue (with_mark u i) v → pos 0 ≤ℤ excess u i
      → IsLater v w → Spread g lists source g.nodes w → IsSettling g lists source entry w
  settling-more entry u v w i before is surplus later spread =
      let marked : IsSameState u (with_mark u i) =
      record { nodes = refl; arcs = refl; flows = refl; potentials = refl; excesses = λ k l. refl } in
      let now = later-queue (with_mark u i) v is in
      let same : IsSameState u v = state-further u (with_mark u i) v marked now.state in
      let none : (k : ℕ) → IsTrue (holds v.reached k) → pos 0 ≤ℤ excess v k =
      visited-none_lacks (with_mark u i) v now (none_lacks-more u i before.none_lacks surplus) in
      record {
        ready = ready-same g lists v w later.state (ready-same g lists u v same before.ready);
        spread = spread;
        state = state-further entry u w before.state (state-further u v w same later.state);
        none_lacks = visited-none_lacks v w later none;
      }
