-- Two nodes of a model, and what is found between them. Two different names have two different places, so the return joins two nodes, and what is
-- found says what the laws of cuts and paths say of it; so each status comes exactly where it says so.
use Rattle.std.proofs.Common.{◌≡◌, ◌≢◌, ◌⊎◌, ◌↔◌, ℕ, ◌+◌, ◌<◌, ◌≤◌, ℤ, pos, List, [], length, get_or, bytes_eq, Option, Some, None, refl, sym, ap, ◌∙◌, inl, inr, arith}
use Rattle.std.proofs.lemmas.List.{length-map}
use Rattle.std.proofs.lemmas.List.Sums.{passes_at_first}
use Rattle.std.proofs.lemmas.Slice.Eq.{bytes_eq-Decides}
use Rattle.theory.specs.declared.network.Step.{Step}
use Rattle.theory.specs.Network.{IsNetwork}
use Rattle.theory.specs.Circuit.{WalkIsThere}
use Rattle.theory.specs.Best.{FlowIsRefused, TensionIsRefused}
use Rattle.theory.specs.Grounded.{Entries, grounded}
use Rattle.theory.proofs.GroundedLaw.{grounded_is_network, length-grounded_arcs}
use Rattle.outside_io.specs.Sink.{Grew}
use Rattle.model_text.specs.Model.{IsWellFormed, node_names, place_of}
use Rattle.model_text.specs.declared.scale.Scale.{Scale}
use Rattle.model_text.proofs.FirstPlace.{found as found_at}
use Rattle.path_cut.specs.GreatestFlow.{IsGreatestFlow, FlowHasNoTop}
use Rattle.path_cut.specs.GreatestTension.{IsGreatestTension, TensionHasNoTop}
use Rattle.path_cut.specs.Found.{IsFlowFound, IsTensionFound}
use Rattle.path_cut.specs.Returned.{returned}
use Rattle.path_cut.specs.Says.{FlowSays, TensionSays, LacksGreatestFlow, LacksGreatestTension}
use Rattle.path_cut.specs.declared.flow_found.FlowFound.{FlowFound}
use Rattle.path_cut.specs.declared.flow_found.FlowFound.TheVariants.{Greatest as GreatestFlow, Unbounded as NoTopFlow, Refused as NoFlow}
use Rattle.path_cut.specs.declared.tension_found.TensionFound.{TensionFound}
use Rattle.path_cut.specs.declared.tension_found.TensionFound.TheVariants.{Greatest as GreatestTension, Unbounded as NoTopTension, Refused as NoTension}
use Rattle.path_cut.proofs.FlowBound.{flow-exact}
use Rattle.path_cut.proofs.TensionBound.{tension-exact}
use Rattle.path_cut.proofs.Returns.{returned-arcs, returned-has, returned-network}
use Rattle.path_cut.proofs.Says.{flow-says, tension-says, flow-lacks, tension-lacks}
use Rattle.mono_top.specs.Between.{OfNodes, FindsFlow, FindsTension, FlowFits, TensionFits, WalkFits, status_of_flow, status_of_tension}
use Rattle.mono_top.specs.Headline.{ConcludesFlow, ConcludesTension}
use Rattle.mono_top.specs.declared.status.Status.{Status}
use Rattle.mono_top.specs.declared.status.Status.TheVariants.{Done, Cut, Circuit, Unbounded, UnknownNode}

one_is_one : 1 ≤ 1
one_is_one = omega arith

-- ---- names and places

-- a name that has a place stands there
named_at : (names : List (List ℕ)) (name : List ℕ) (place : ℕ) → place_of names name ≡ Some place → name ≡ get_or names place []
named_at names name place is =
    let at = found_at (bytes_eq name) names place (sym is) in
    let there = passes_at_first (bytes_eq name) names [] (rw at.0 at at.1) in
    rw at.0 ((bytes_eq-Decides name _).0 there)

pub places_differ : (names : List (List ℕ)) (one other : List ℕ) (i k : ℕ) → place_of names one ≡ Some i → place_of names other ≡ Some k
    → one ≢ other → i ≢ k
places_differ names one other i k first second apart same =
    apart (named_at names one i first ∙ ap (λ n. get_or names n []) same ∙ sym (named_at names other k second))

-- the node stands behind the ground
pub place_there : (m : Entries) (name : List ℕ) (i : ℕ) → place_of (node_names m) name ≡ Some i → i + 1 < length m.nodes + 1
place_there m name i is =
    let at = found_at (bytes_eq name) (node_names m) i (sym is) in
    omega (arith, at.1, length-map m.nodes (λ node. node.name))

-- ---- what the texts need

pub flow_text_fits : (m : Entries) (from to : ℕ) (found : FlowFound) → IsFlowFound (returned (grounded m) from to) found → FlowFits m found
flow_text_fits m from to (GreatestFlow t x side) is =
    let arcs = length-grounded_arcs m in
    let more = returned-arcs (grounded m) from to in
    let each = is.feasible.one_each in
    (omega arith, is.one_mark_each)
flow_text_fits m from to (NoTopFlow x walk) is =
    let arcs = length-grounded_arcs m in
    let more = returned-arcs (grounded m) from to in
    let each = is.0.one_each in
    (omega arith, λ k there. let other = is.1.others k there in omega arith)
flow_text_fits m from to (NoFlow side sum) is = is.0

walk_fits : (m : Entries) (walk : List Step) → WalkIsThere (grounded m) walk → WalkFits m walk
walk_fits m walk there k inside = (let arcs = length-grounded_arcs m in let here = there k inside in omega arith)

pub tension_text_fits : (m : Entries) (from to : ℕ) (found : TensionFound) → IsTensionFound (grounded m) from to found → TensionFits m found
tension_text_fits m from to (GreatestTension t u walk) is = (is.feasible.one_each, walk_fits m walk is.path.path.there)
tension_text_fits m from to (NoTopTension u side) is = (is.0.one_each, is.1)
tension_text_fits m from to (NoTension walk sum) is = walk_fits m walk is.0

-- ---- the statuses

module _ (Next : ℕ → ℕ → Status → List ℕ → Type 0) (status : Status) (text : List ℕ) where
  -- by the two places
  pub of_both : (from to : Option ℕ) (i k : ℕ) → OfNodes Next from to status text → from ≡ Some i → to ≡ Some k → Next (i + 1) (k + 1) status text
  of_both from to i k answers from_is to_is = rw (from_is, to_is) at answers

  pub unknown_is_refused : (from to : Option ℕ) → OfNodes Next from to status text → (from ≡ None) ⊎ (to ≡ None) → status ≡ UnknownNode
  unknown_is_refused (Some i) (Some k) answers (inl none) = absurd cc
  unknown_is_refused (Some i) (Some k) answers (inr none) = absurd cc
  unknown_is_refused (Some i) None answers none = answers.0
  unknown_is_refused None to answers none = answers.0

  pub refused_is_unknown : (from to : Option ℕ) → OfNodes Next from to status text → ((i k : ℕ) → Next i k status text → status ≢ UnknownNode)
      → status ≡ UnknownNode → (from ≡ None) ⊎ (to ≡ None)
  refused_is_unknown (Some i) (Some k) answers never is = absurd (never (i + 1) (k + 1) answers is)
  refused_is_unknown (Some i) None answers never is = inr refl
  refused_is_unknown None to answers never is = inl refl

  -- a status of what was found
  pub record IsOfBoth (from to : Option ℕ) : Type 0 where
    pub i : ℕ
    pub k : ℕ
    pub from_is : from ≡ Some i
    pub to_is : to ≡ Some k
    pub next : Next (i + 1) (k + 1) status text

  pub known : (from to : Option ℕ) → OfNodes Next from to status text → status ≢ UnknownNode → IsOfBoth from to
  known (Some i) (Some k) answers never = record { i = i; k = k; from_is = refl; to_is = refl; next = answers }
  known (Some i) None answers never = absurd (never answers.0)
  known None to answers never = absurd (never answers.0)

-- ---- what is found says so

module _ (s : Scale) (m : Entries) (from to : ℕ) (formed : IsWellFormed m) (from_there : from < length m.nodes + 1) (to_there : to < length m.nodes + 1) (status : Status) (text : List ℕ) where
  good : IsNetwork (grounded m)
  good = grounded_is_network m formed.model

  flow_says : (finds : FindsFlow s m from to status text) → FlowSays (returned (grounded m) from to) finds.found
  flow_says finds =
      flow-says (returned (grounded m) from to) finds.found (returned-network (grounded m) from to good from_there to_there finds.apart)
      (returned-has (grounded m) from to good.one_curve_each) finds.is_found

  tension_says : (finds : FindsTension s m from to status text) → TensionSays (grounded m) from to finds.found
  tension_says finds = tension-says (grounded m) from to finds.found good from_there to_there finds.is_found

  -- what each kind of flow found says of the three statuses
  pub record IsFlowKind : Type 0 where
    pub greatest : (status ≡ Done) ↔ ((t : ℤ) × IsGreatestFlow (returned (grounded m) from to) t)
    pub unbounded : (status ≡ Unbounded) ↔ FlowHasNoTop (returned (grounded m) from to)
    pub refused : (status ≡ Cut) ↔ FlowIsRefused (returned (grounded m) from to)
    pub lacks : (status ≡ Unbounded) ↔ LacksGreatestFlow (returned (grounded m) from to)

  flow_kind_by : (found : FlowFound) → FlowSays (returned (grounded m) from to) found → status ≡ status_of_flow found → IsFlowKind
  flow_kind_by (GreatestFlow t x side) says is =
      let some = says.carried in
      record {
        greatest = (λ e. (t, says), λ top. is);
        unbounded = (λ e. absurd cc, λ endless. absurd ((flow-exact (returned (grounded m) from to)).not_both t says endless));
        refused = (λ e. absurd cc, λ none. absurd (none 1 some.0 one_is_one some.1));
        lacks = (λ e. absurd cc, λ lacks. absurd (lacks.none t says));
      }
  flow_kind_by (NoTopFlow x walk) says is =
      let some = says (pos 0) in
      record {
        greatest = (λ e. absurd cc, λ top. absurd ((flow-exact (returned (grounded m) from to)).not_both top.0 top.1 says));
        unbounded = (λ e. says, λ endless. is);
        refused = (λ e. absurd cc, λ none. absurd (none 1 some.0 one_is_one some.1));
        lacks = (λ e. flow-lacks (returned (grounded m) from to) says, λ lacks. is);
      }
  flow_kind_by (NoFlow side sum) says is =
      record {
        greatest = (λ e. absurd cc, λ top. let some = top.1.carried in absurd (says 1 some.0 one_is_one some.1));
        unbounded = (λ e. absurd cc, λ endless. let some = endless (pos 0) in absurd (says 1 some.0 one_is_one some.1));
        refused = (λ e. says, λ none. is);
        lacks = (λ e. absurd cc, λ lacks. let some = lacks.some in absurd (says some.0 some.1 some.2 some.3));
      }

  pub flow_kind : FindsFlow s m from to status text → IsFlowKind
  flow_kind finds = flow_kind_by finds.found (flow_says finds) finds.kind

  pub concludes_flow : (old new : Option (List ℕ)) → FindsFlow s m from to status text → Grew old new text → ConcludesFlow s m from to status old new
  concludes_flow old new finds grew =
      let kind = flow_kind finds in
      record {
        text = text;
        finds = finds;
        written = grew;
        says = flow_says finds;
        greatest = kind.greatest;
        unbounded = kind.unbounded;
        refused = kind.refused;
      }

  pub record IsTensionKind : Type 0 where
    pub greatest : (status ≡ Done) ↔ ((t : ℤ) × IsGreatestTension (grounded m) from to t)
    pub unbounded : (status ≡ Unbounded) ↔ TensionHasNoTop (grounded m) from to
    pub refused : (status ≡ Circuit) ↔ TensionIsRefused (grounded m)
    pub lacks : (status ≡ Unbounded) ↔ LacksGreatestTension (grounded m) from to

  tension_kind_by : (found : TensionFound) → TensionSays (grounded m) from to found → status ≡ status_of_tension found → IsTensionKind
  tension_kind_by (GreatestTension t u walk) says is =
      let some = says.reached in
      record {
        greatest = (λ e. (t, says), λ top. is);
        unbounded = (λ e. absurd cc, λ endless. absurd ((tension-exact (grounded m) from to).not_both t says endless));
        refused = (λ e. absurd cc, λ none. absurd (none 1 some.0 one_is_one some.1));
        lacks = (λ e. absurd cc, λ lacks. absurd (lacks.none t says));
      }
  tension_kind_by (NoTopTension u side) says is =
      let some = says (pos 0) in
      record {
        greatest = (λ e. absurd cc, λ top. absurd ((tension-exact (grounded m) from to).not_both top.0 top.1 says));
        unbounded = (λ e. says, λ endless. is);
        refused = (λ e. absurd cc, λ none. absurd (none 1 some.0 one_is_one some.1));
        lacks = (λ e. tension-lacks (grounded m) from to says, λ lacks. is);
      }
  tension_kind_by (NoTension walk sum) says is =
      record {
        greatest = (λ e. absurd cc, λ top. let some = top.1.reached in absurd (says 1 some.0 one_is_one some.1));
        unbounded = (λ e. absurd cc, λ endless. let some = endless (pos 0) in absurd (says 1 some.0 one_is_one some.1));
        refused = (λ e. says, λ none. is);
        lacks = (λ e. absurd cc, λ lacks. let some = lacks.some in absurd (says some.0 some.1 some.2 some.3));
      }

  pub tension_kind : FindsTension s m from to status text → IsTensionKind
  tension_kind finds = tension_kind_by finds.found (tension_says finds) finds.kind

  pub concludes_tension : (old new : Option (List ℕ)) → FindsTension s m from to status text → Grew old new text → ConcludesTension s m from to status old new
  concludes_tension old new finds grew =
      let kind = tension_kind finds in
      record {
        text = text;
        finds = finds;
        written = grew;
        says = tension_says finds;
        greatest = kind.greatest;
        unbounded = kind.unbounded;
        refused = kind.refused;
      }
