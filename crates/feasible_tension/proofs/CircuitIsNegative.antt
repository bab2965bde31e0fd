-- Once round a circuit of labels. Each label's bound says that the potential of its node is at least that where it begins plus
-- its span end; summed from the start on, the potential at the start is at least that at hand plus the sum. Where they are equal,
-- each bound was tight, so stamps fell all the way. Back at the start the stamp there would be below itself: so the sum is below 0.
-- There is room for each step, since the nodes met before the way comes round are different.
use Rattle.std.proofs.Common.{◌≡◌, ◌≢◌, ◌⊎◌, inl, inr, ℕ, suc, ◌+◌, ◌-◌, ◌<◌, ◌≤◌, ℤ, pos, negsuc, ◌+ℤ◌, ◌≤ℤ◌, ◌<ℤ◌, Option, Some, None, List, [], ◌∷◌, ◌++◌, length, reverse, refl, sym, ap, ◌∙◌, subst, ⊎_elim, length-append, arith}
use Rattle.std.proofs.lemmas.Bool.{cases_lt}
use Rattle.std.proofs.lemmas.Int.{ints}
use Rattle.std.proofs.lemmas.List.{reverse-append}
use Rattle.std.proofs.lemmas.Option.{none-some}
use Rattle.theory.specs.declared.network.Step.{Step}
use Rattle.theory.specs.Ends.{whole}
use Rattle.theory.specs.Network.{Network, «at»}
use Rattle.theory.specs.Circuit.{step, begin_of, span_end, SpanCounts, span_sum}
use Rattle.theory.proofs.Walks.{step-kept, step-last}
use Rattle.painted_search.specs.Room.{Room}
use Rattle.painted_search.specs.Writes.{with_no_walk, with_step}
use Rattle.painted_search.specs.Path.{label_at}
use Rattle.feasible_tension.specs.Back.{back, IsOnCircuit}
use Rattle.feasible_tension.specs.Kept.{IsKept}
use Rattle.feasible_tension.specs.Relaxing.{IsRelaxing}
use Rattle.feasible_tension.specs.Lap.{IsLap}
use Rattle.feasible_tension.proofs.Bounded.{IsBounded}
use Rattle.feasible_tension.proofs.Rounds.{parent-labelled}
use Rattle.feasible_tension.proofs.Pigeons.{differ-few}
use Rattle.feasible_tension.proofs.LabelsComeRound.{back-sum, back-there}

-- v is the room with the labels, w the room with the walk so far, which leads back from the root to the node
pub record IsGoing (net : Network) (v w : Room) (root node : ℕ) : Type 0 where
  pub relaxed : (rounds : ℕ) × IsRelaxing net rounds 0 None v
  pub on : IsOnCircuit net v.labels root
  pub labels : w.labels ≡ v.labels
  pub kept : IsKept v w
  pub led : (k : ℕ) → k < length w.walk → label_at v.labels (back net v.labels k root) ≡ Some (step w.walk k)
  pub at_node : back net v.labels (length w.walk) root ≡ node
  pub not_before : (k : ℕ) → 0 < k → k < length w.walk → back net v.labels k root ≢ root
  pub counts : SpanCounts net (reverse w.walk)
  pub least : («at» v.potentials node +ℤ span_sum net (reverse w.walk)) ≤ℤ «at» v.potentials root
  pub tight : 0 < length w.walk → («at» v.potentials node +ℤ span_sum net (reverse w.walk)) ≡ «at» v.potentials root
      → relaxed.1.stamp node < relaxed.1.stamp root

-- the walk has not come round
abbrev pub IsOpen : Room → ℕ → ℕ → Type 0
IsOpen w root node = 0 < length w.walk → node ≢ root

pub going-start : (net : Network) (v w : Room) (root : ℕ) → ((rounds : ℕ) × IsRelaxing net rounds 0 None v) → IsOnCircuit net v.labels root
    → w ≡ with_no_walk v → IsGoing net v w root root
going-start net v w root relaxed on made =
    subst (λ w. IsGoing net v w root root) (sym made) (record {
      relaxed = relaxed;
      on = on;
      labels = refl;
      kept = record { nodes = refl; arcs = refl; flows = refl };
      led = λ k l. absurd (omega arith);
      at_node = refl;
      not_before = λ k some l. absurd (omega arith);
      counts = tt;
      least = omega (arith, ints);
      tight = λ some e. absurd (omega arith);
    })

-- from a node that comes again, another one that comes twice comes so after as many labels as lie between
pub comes-again : (net : Network) (labels : List (Option Step)) (root period a b between : ℕ) → back net labels period root ≡ root
    → a + between ≡ b → a ≤ period → back net labels a root ≡ back net labels b root → back net labels between root ≡ root
comes-again net labels root period a b between again sum within same =
    let rest = period - a in
    let way = λ (t : ℕ). back net labels t root in
    let longer : way (between + period) ≡ way between =
    sym (back-sum net labels between period (between + period) root refl) ∙ ap (back net labels between) again in
    let once : way period ≡ way (between + period) =
    sym (back-sum net labels rest a period root (omega arith)) ∙ ap (back net labels rest) same
    ∙ back-sum net labels rest b (between + period) root (omega arith) in
    sym longer ∙ sym once ∙ again

-- ---- room for a step, and the label for it

-- the way has not come round yet, so it is within the first period
going-within : (net : Network) (v w : Room) (root node : ℕ) → (going : IsGoing net v w root node) → IsOpen w root node
    → length w.walk < going.on.period
going-within net v w root node going is_open =
    ⊎_elim
    (λ (within : length w.walk < going.on.period). within)
    (λ (beyond : going.on.period ≤ length w.walk).
    let some = going.on.some in
    ⊎_elim
    (λ (before : going.on.period < length w.walk). absurd (going.not_before going.on.period some before going.on.comes_again))
    (λ (last : length w.walk ≤ going.on.period).
    let e : length w.walk ≡ going.on.period = omega arith in
    absurd (is_open (omega arith) (sym going.at_node ∙ ap (λ k. back net v.labels k root) e ∙ going.on.comes_again)))
    (cases_lt going.on.period (length w.walk)))
    (cases_lt (length w.walk) going.on.period)

pub going-room : (net : Network) (v w : Room) (root node : ℕ) → IsBounded net → IsGoing net v w root node → IsOpen w root node
    → v.nodes ≡ net.nodes → length w.walk < w.nodes
going-room net v w root node good going is_open nodes =
    let within = going-within net v w root node going is_open in
    let few = differ-few (length w.walk + 1) net.nodes (λ t. back net v.labels t root)
    (λ a b before l same.
    let again = comes-again net v.labels root going.on.period a b (b - a) going.on.comes_again (omega arith) (omega arith) same in
    ⊎_elim
    (λ (sooner : b - a < length w.walk). going.not_before (b - a) (omega arith) sooner again)
    (λ (last : length w.walk ≤ b - a).
    let e : length w.walk ≡ b - a = omega arith in
    is_open (omega arith) (sym going.at_node ∙ ap (λ k. back net v.labels k root) e ∙ again))
    (cases_lt (b - a) (length w.walk)))
    (λ t l. back-there net going.relaxed.0 0 root None v good going.relaxed.1 going.on.deep.there t) in
    omega (arith, going.kept.nodes)

pub going-labelled : (net : Network) (v w : Room) (root node : ℕ) → IsGoing net v w root node → IsOpen w root node
    → label_at w.labels node ≡ None → ⊥
going-labelled net v w root node going is_open none =
    let within = going-within net v w root node going is_open in
    let label = going.on.deep.labelled (length w.walk) within in
    let here : label_at v.labels (back net v.labels (length w.walk) root) ≡ None =
    ap (label_at v.labels) going.at_node ∙ ap (λ labels. label_at labels node) (sym going.labels) ∙ none in
    none-some label.pace (sym here ∙ label.is)

-- ---- one step more

pub record IsStep (net : Network) (s : Step) : Type 0 where
  pub there : s.arc.0 < length net.arcs

pub going-step : (net : Network) (v w : Room) (root node : ℕ) (s : Step) → IsGoing net v w root node → Some s ≡ label_at w.labels node
    → IsStep net s
going-step net v w root node s going label =
    record {
      there = (going.relaxed.1.labels node s (ap (λ labels. label_at labels node) (sym going.labels) ∙ sym label)).there;
    }

going-longer : (net : Network) (v w : Room) (root node : ℕ) (s : Step) (room : length w.walk < w.nodes) → IsGoing net v w root node
    → IsOpen w root node → Some s ≡ label_at w.labels node → IsGoing net v (with_step w s room) root (begin_of net s)
going-longer net v w root node s room going is_open is =
    let walk = w.walk ++ s ∷ [] in
    let count : length walk ≡ length w.walk + 1 = length-append w.walk (s ∷ []) in
    let at_node : label_at v.labels node ≡ Some s = ap (λ labels. label_at labels node) (sym going.labels) ∙ sym is in
    let here : label_at v.labels (back net v.labels (length w.walk) root) ≡ Some s = ap (label_at v.labels) going.at_node ∙ at_node in
    let label = going.relaxed.1.labels node s at_node in
    let turned : reverse walk ≡ s ∷ reverse w.walk = reverse-append w.walk (s ∷ []) in
    let sum : span_sum net (reverse walk) ≡ whole (span_end net s) +ℤ span_sum net (reverse w.walk) = ap (span_sum net) turned in
    let begin_least = label.least in
    let least = going.least in
    record {
      relaxed = going.relaxed;
      on = going.on;
      labels = going.labels;
      kept = record { nodes = going.kept.nodes; arcs = going.kept.arcs; flows = going.kept.flows };
      led = λ k l.
          ⊎_elim
          (λ (before : k < length w.walk). going.led k before ∙ ap Some (sym (step-kept w.walk s k before)))
          (λ (last : length w.walk ≤ k).
          let e : length w.walk ≡ k = omega arith in
          subst (λ k. label_at v.labels (back net v.labels k root) ≡ Some (step walk k)) e
          (here ∙ ap Some (sym (step-last w.walk s (length w.walk) refl))))
          (cases_lt k (length w.walk));
      at_node =
          ap (λ k. back net v.labels k root) (let e : length walk ≡ suc (length w.walk) = omega arith in e)
          ∙ parent-labelled net v.labels (back net v.labels (length w.walk) root) s here;
      not_before = λ k some l again.
          ⊎_elim
          (λ (before : k < length w.walk). going.not_before k some before again)
          (λ (last : length w.walk ≤ k).
          let e : length w.walk ≡ k = omega arith in
          is_open (omega arith) (sym going.at_node ∙ ap (λ k. back net v.labels k root) e ∙ again))
          (cases_lt k (length w.walk));
      counts = subst (SpanCounts net) (sym turned) (label.finite, going.counts);
      least = omega (arith, ints);
      tight = λ some e.
          let here_tight = label.tight (omega (arith, ints)) in
          ⊎_elim
          (λ (longer : 0 < length w.walk). let before = going.tight longer (omega (arith, ints)) in omega arith)
          (λ (first : length w.walk ≤ 0).
          let none : length w.walk ≡ 0 = omega arith in
          let root_is : root ≡ node = ap (λ k. back net v.labels k root) (sym none) ∙ going.at_node in
          let same = ap going.relaxed.1.stamp root_is in
          omega arith)
          (cases_lt 0 (length w.walk));
    }

pub going-more : (net : Network) (v w new : Room) (root node begin : ℕ) (s : Step) → IsBounded net → IsGoing net v w root node
    → IsOpen w root node → v.nodes ≡ net.nodes → Some s ≡ label_at w.labels node
    → ((room : length w.walk < w.nodes) → new ≡ with_step w s room) → begin ≡ begin_of net s → IsGoing net v new root begin
going-more net v w new root node begin s good going is_open nodes is made begins =
    let room = going-room net v w root node good going is_open nodes in
    subst (IsGoing net v new root) (sym begins)
    (subst (λ new. IsGoing net v new root (begin_of net s)) (sym (made room)) (going-longer net v w root node s room going is_open is))

-- ---- a whole lap

pub going-lap : (net : Network) (v w : Room) (root node : ℕ) → IsGoing net v w root node → 0 < length w.walk → node ≡ root
    → IsLap net v.labels root w.walk
going-lap net v w root node going some is =
    let u_same = ap («at» v.potentials) is in
    let stamp_same = ap going.relaxed.1.stamp is in
    let least = going.least in
    record {
      some = some;
      led = going.led;
      comes_again = going.at_node ∙ is;
      not_before = going.not_before;
      counts = going.counts;
      negative = ⊎_elim
          (λ (below : span_sum net (reverse w.walk) <ℤ pos 0). below)
          (λ (above : pos 0 ≤ℤ span_sum net (reverse w.walk)).
          let less = going.tight some (omega (arith, ints)) in absurd (omega arith))
          (cases_below (span_sum net (reverse w.walk)));
    } where
      cases_below : (z : ℤ) → (z <ℤ pos 0) ⊎ (pos 0 ≤ℤ z)
      cases_below (pos n) = inr (omega (arith, ints))
      cases_below (negsuc n) = inl (omega (arith, ints))
