-- A circuit begun at another of its steps is a circuit. Step k of the turned walk stood at place turn + k, or as many places
-- before that as there are steps; so different places come from different places, and the next place from the next one, where
-- the first place counts as the one after the last.
use Rattle.std.proofs.Common.{◌≡◌, ◌≢◌, ◌⊎◌, ℕ, ◌+◌, ◌-◌, ◌<◌, ◌≤◌, ℤ, pos, ◌≤ℤ◌, ◌<ℤ◌, List, ◌++◌, take, drop, length, refl, sym, ap, ◌∙◌, subst, inl, inr, ⊎_elim, length-append, arith}
use Rattle.std.proofs.lemmas.Bool.{cases_lt, cases_order}
use Rattle.std.proofs.lemmas.List.{length-take, length-drop, get_or-take, get_or-drop, get_or_append_left, get_or-append_right}
use Rattle.theory.specs.declared.network.Step.{Step}
use Rattle.theory.specs.Network.{Network}
use Rattle.theory.specs.Circuit.{step, begin_of, end_of, IsCircuit}
use Rattle.net_incidence.specs.FlowAlong.{flow_along}
use Rattle.flow_pieces.specs.Pieces.{IsLeastAlong, IsPiece}
use Rattle.flow_pieces.specs.Course.{IsRound}

abbrev pub turned : ℕ → List Step → List Step
turned turn walk = drop turn walk ++ take turn walk

length-turned : (turn : ℕ) (walk : List Step) → length (turned turn walk) ≡ length walk
length-turned turn walk =
    let parts = length-append (drop turn walk) (take turn walk) in
    let back = length-drop turn walk in
    let front = length-take turn walk in
    omega arith

-- step k of the turned walk is the step that stood at this place
record Stood (turn : ℕ) (walk : List Step) (k : ℕ) : Type 0 where
  pub place : ℕ
  pub there : place < length walk
  pub is : step (turned turn walk) k ≡ step walk place
  pub lap : (place ≡ turn + k) ⊎ (place + length walk ≡ turn + k)

stood : (turn : ℕ) (walk : List Step) (k : ℕ) → turn < length walk → k < length walk → Stood turn walk k
stood turn walk k in_walk there =
    let back = length-drop turn walk in
    ⊎_elim
    (λ (before : turn + k < length walk). record {
      place = turn + k;
      there = before;
      is = get_or_append_left (drop turn walk) (take turn walk) _ k (omega arith) ∙ get_or-drop turn walk k _;
      lap = inl refl;
    })
    (λ (after : length walk ≤ turn + k). record {
      place = k - (length walk - turn);
      there = omega arith;
      is = get_or-append_right (drop turn walk) (take turn walk) (length walk - turn) k _ back (omega arith)
          ∙ get_or-take turn walk (k - (length walk - turn)) _ (omega arith);
      lap = inr (omega arith);
    })
    (cases_lt (turn + k) (length walk))

-- where the step of a place went
stands : (turn : ℕ) (walk : List Step) (i : ℕ) → turn < length walk → i < length walk
    → (k : ℕ) × (k < length walk) × (step (turned turn walk) k ≡ step walk i)
stands turn walk i in_walk there =
    let back = length-drop turn walk in
    ⊎_elim
    (λ (before : i < turn).
    let k = (length walk - turn) + i in
    let same : k - (length walk - turn) ≡ i = omega arith in (
      k,
      omega arith,
      get_or-append_right (drop turn walk) (take turn walk) (length walk - turn) k _ back (omega arith)
          ∙ ap (step (take turn walk)) same ∙ get_or-take turn walk i _ before,
    ))
    (λ (after : turn ≤ i).
    let same : turn + (i - turn) ≡ i = omega arith in (
      i - turn,
      omega arith,
      get_or_append_left (drop turn walk) (take turn walk) _ (i - turn) (omega arith)
          ∙ get_or-drop turn walk (i - turn) _ ∙ ap (step walk) same,
    ))
    (cases_lt i turn)

-- ---- different places

apart : (turn : ℕ) (walk : List Step) (i k : ℕ) (from : Stood turn walk i) (to : Stood turn walk k) → i < k → k < length walk
    → from.place ≢ to.place
apart turn walk i k from to before there same =
    ⊎_elim
    (λ (here : from.place ≡ turn + i).
    ⊎_elim (λ (also : to.place ≡ turn + k). omega arith) (λ (later : to.place + length walk ≡ turn + k). omega arith) to.lap)
    (λ (here : from.place + length walk ≡ turn + i).
    ⊎_elim (λ (also : to.place ≡ turn + k). omega arith) (λ (later : to.place + length walk ≡ turn + k). omega arith) to.lap)
    from.lap

-- different steps differ, whichever comes first
differ-any : (f : ℕ → ℕ) (n : ℕ) → ((i k : ℕ) → i < k → k < n → f i ≢ f k) → (i k : ℕ) → i < n → k < n → i ≢ k → f i ≢ f k
differ-any f n differ i k i_there k_there ne =
    ⊎_elim (λ (same : i ≡ k). absurd (ne same))
    (⊎_elim (λ (below : i < k). differ i k below k_there)
    (λ (above : k < i). λ e. differ k i above i_there (sym e)))
    (cases_order i k)

turned-differ : (f : Step → ℕ) (turn : ℕ) (walk : List Step) → turn < length walk
    → ((i k : ℕ) → i < k → k < length walk → f (step walk i) ≢ f (step walk k))
    → (i k : ℕ) → i < k → k < length walk → f (step (turned turn walk) i) ≢ f (step (turned turn walk) k)
turned-differ f turn walk in_walk differ i k before there same =
    let from = stood turn walk i in_walk (omega arith) in
    let to = stood turn walk k in_walk there in
    differ-any (λ n. f (step walk n)) (length walk) differ from.place to.place from.there to.there
    (apart turn walk i k from to before there) (ap f (sym from.is) ∙ same ∙ ap f to.is)

-- ---- the next place

-- k is the place after i
abbrev IsAfter : ℕ → ℕ → ℕ → Type 0
IsAfter n i k = (k ≡ i + 1) ⊎ ((i + 1 ≡ n) × (k ≡ 0))

joined-after : (net : Network) (walk : List Step) (i k : ℕ) → IsCircuit net walk → k < length walk → IsAfter (length walk) i k
    → end_of net (step walk i) ≡ begin_of net (step walk k)
joined-after net walk i k circuit there after =
    ⊎_elim
    (λ (next : k ≡ i + 1).
    let P : ℕ → Type 0 = λ n. end_of net (step walk i) ≡ begin_of net (step walk n) in
    subst P (sym next) (circuit.joined i (omega arith)))
    (λ (round : (i + 1 ≡ length walk) × (k ≡ 0)).
    let P : ℕ → Type 0 = λ n. end_of net (step walk i) ≡ begin_of net (step walk n) in
    subst P (sym round.1) (circuit.closed i round.0))
    after

-- the place after goes to the place after
after-turned : (turn : ℕ) (walk : List Step) (i k : ℕ) (from : Stood turn walk i) (to : Stood turn walk k) → turn < length walk
    → i < length walk → k < length walk → IsAfter (length walk) i k → IsAfter (length walk) from.place to.place
after-turned turn walk i k from to in_walk i_there k_there after =
    let a = from.there in
    let b = to.there in
    ⊎_elim
    (λ (next : k ≡ i + 1).
    ⊎_elim
    (λ (here : from.place ≡ turn + i).
    ⊎_elim (λ (also : to.place ≡ turn + k). inl (omega arith)) (λ (later : to.place + length walk ≡ turn + k). inr (omega arith, omega arith)) to.lap)
    (λ (here : from.place + length walk ≡ turn + i).
    ⊎_elim (λ (also : to.place ≡ turn + k). absurd (omega arith)) (λ (later : to.place + length walk ≡ turn + k). inl (omega arith)) to.lap)
    from.lap)
    (λ (round : (i + 1 ≡ length walk) × (k ≡ 0)).
    let last = round.0 in
    let first = round.1 in
    ⊎_elim
    (λ (here : from.place ≡ turn + i).
    ⊎_elim (λ (also : to.place ≡ turn + k). inr (omega arith, omega arith)) (λ (later : to.place + length walk ≡ turn + k). absurd (omega arith)) to.lap)
    (λ (here : from.place + length walk ≡ turn + i).
    ⊎_elim (λ (also : to.place ≡ turn + k). inl (omega arith)) (λ (later : to.place + length walk ≡ turn + k). absurd (omega arith)) to.lap)
    from.lap)
    after

turned-joined : (net : Network) (turn : ℕ) (walk : List Step) (i k : ℕ) → IsCircuit net walk → turn < length walk
    → i < length walk → k < length walk → IsAfter (length walk) i k
    → end_of net (step (turned turn walk) i) ≡ begin_of net (step (turned turn walk) k)
turned-joined net turn walk i k circuit in_walk i_there k_there after =
    let from = stood turn walk i in_walk i_there in
    let to = stood turn walk k in_walk k_there in
    ap (end_of net) from.is
    ∙ joined-after net walk from.place to.place circuit to.there (after-turned turn walk i k from to in_walk i_there k_there after)
    ∙ ap (begin_of net) (sym to.is)

turned-circuit : (net : Network) (turn : ℕ) (walk : List Step) → turn < length walk → IsCircuit net walk → IsCircuit net (turned turn walk)
turned-circuit net turn walk in_walk circuit =
    let same = length-turned turn walk in record {
      not_empty = omega arith;
      joined = λ k l. turned-joined net turn walk k (k + 1) circuit in_walk (omega arith) (omega arith) (inl refl);
      closed = λ k l. turned-joined net turn walk k 0 circuit in_walk (omega arith) (omega arith) (inr (omega arith, refl));
      nodes_differ = λ i k before l. turned-differ (begin_of net) turn walk in_walk circuit.nodes_differ i k before (omega arith);
      arcs_differ = λ i k before l. turned-differ (λ s. s.arc.0) turn walk in_walk circuit.arcs_differ i k before (omega arith);
    }

-- ---- the piece

-- what holds of each step holds of each step of the turned walk
turned-each : (P : Step → Type 0) (turn : ℕ) (walk : List Step) → turn < length walk → ((k : ℕ) → k < length walk → P (step walk k))
    → (k : ℕ) → k < length (turned turn walk) → P (step (turned turn walk) k)
turned-each P turn walk in_walk each k l =
    let from = stood turn walk k in_walk (let same = length-turned turn walk in omega arith) in
    subst P (sym from.is) (each from.place from.there)

pub turned-piece : (net : Network) (rest : ℕ → ℤ) (walk : List Step) (turn : ℕ) (weight : ℤ) → turn < length walk
    → IsRound net rest walk → IsLeastAlong rest walk weight
    → ((k : ℕ) → k < length walk → begin_of net (step walk turn) ≤ begin_of net (step walk k))
    → IsPiece net rest (record { weight = weight; walk = turned turn walk })
turned-piece net rest walk turn weight in_walk round weighs least =
    let same = length-turned turn walk in
    let met = stands turn walk weighs.met.0 in_walk weighs.met.1 in
    let front = stands turn walk turn in_walk in_walk in
    let first : step (turned turn walk) 0 ≡ step walk turn =
    (let from = stood turn walk 0 in_walk (omega arith) in
    from.is ∙ ap (step walk) (⊎_elim (λ (here : from.place ≡ turn + 0). omega arith)
    (λ (later : from.place + length walk ≡ turn + 0). absurd (omega arith)) from.lap)) in record {
      there = turned-each (λ s. s.arc.0 < length net.arcs) turn walk in_walk round.there;
      circuit = turned-circuit net turn walk in_walk round.circuit;
      along = turned-each (λ s. pos 0 <ℤ flow_along rest s) turn walk in_walk round.along;
      weighs = record {
        least = turned-each (λ s. weight ≤ℤ flow_along rest s) turn walk in_walk weighs.least;
        met = (met.0, (let l = met.1 in omega arith), weighs.met.2 ∙ ap (flow_along rest) (sym met.2));
      };
      first = turned-each (λ s. begin_of net (step (turned turn walk) 0) ≤ begin_of net s) turn walk in_walk
          (λ k l. rw first (least k l));
    }
