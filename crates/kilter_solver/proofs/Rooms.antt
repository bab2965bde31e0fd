-- How much a route has room for. At a tension the flows of a curve are a range, so where a flow may move by an amount it may move by
-- every lesser one. The arc of each label is read once on the way back. It has one end of the label's rank and the other of the rank
-- below, so the arcs between nodes of no higher rank than the one that was reached are still to be read: no more readings than arcs.
use Rattle.std.proofs.Common.{◌≡◌, ◌≢◌, inr, inl, ℕ, zero, suc, ◌+◌, ◌-◌, ◌*◌, ◌<◌, ◌≤◌, ℤ, pos, ◌+ℤ◌, ◌-ℤ◌, ◌≤ℤ◌, Bool, true, false, if◌then◌else◌, Some, List, length, refl, sym, ap, ◌∙◌, subst, ⊎_elim, arith}
use Rattle.std.specs.Prelude.{max}
use Rattle.std.proofs.lemmas.Int.{ints}
use Rattle.std.proofs.lemmas.Bool.{cases_eq, cases_lt}
use Rattle.std.proofs.Math.Nat.{mul-le-mul_left}
use Rattle.theory.specs.declared.ext.Ext.{Ext}
use Rattle.theory.specs.declared.ext.Ext.TheVariants.{MinusInf, At, PlusInf}
use Rattle.theory.specs.declared.network.Step.{Step}
use Rattle.theory.specs.Sums.{total_below}
use Rattle.theory.specs.Readings.{IsUnder, IsOver, IsRange}
use Rattle.theory.specs.OnCurve.{IsOnCurve}
use Rattle.theory.specs.Network.{«at», tail, head, list_at}
use Rattle.theory.specs.Conserved.{tension}
use Rattle.theory.specs.Circuit.{begin_of, end_of}
use Rattle.theory.proofs.Counting.{total_below-most, total_below-order}
use Rattle.net_incidence.specs.Graph.{Graph, bare}
use Rattle.painted_search.specs.Room.{Room}
use Rattle.painted_search.specs.Path.{label_at}
use Rattle.kilter_solver.specs.Along.{rise, directed, IsPairAlong, moved_by}
use Rattle.kilter_solver.specs.Routing.{IsOn, IsTight, IsRoute, back, IsRoomOf, HasRoom, HasRoomBack}
use Rattle.kilter_solver.proofs.Pushing.{back-more}

-- ---- one arc

under-more : (e : Ext) (x y : ℤ) → IsUnder e x → x ≤ℤ y → IsUnder e y
under-more MinusInf x y under more = tt
under-more (At a) x y under more = omega (arith, ints)
under-more PlusInf x y under more = under

over-less : (e : Ext) (x y : ℤ) → IsOver e y → x ≤ℤ y → IsOver e x
over-less MinusInf x y over less = over
over-less (At b) x y over less = omega (arith, ints)
over-less PlusInf x y over less = tt

up_on : (items : List Ext) (x v r z : ℤ) (low high : Ext) → IsRange items v low high → IsOnCurve 1 items x v → IsOver high (x +ℤ r)
    → pos 0 ≤ℤ z → z ≤ℤ r → IsOnCurve 1 items (x +ℤ z) v
up_on items x v r z low high range on over some most =
    (range.pairs (x +ℤ z)).1
    (under-more low x (x +ℤ z) ((range.pairs x).0 on).0 (omega (arith, ints)), over-less high (x +ℤ z) (x +ℤ r) over (omega (arith, ints)))

down_on : (items : List Ext) (x v r z : ℤ) (low high : Ext) → IsRange items v low high → IsOnCurve 1 items x v → IsUnder low (x -ℤ r)
    → pos 0 ≤ℤ z → z ≤ℤ r → IsOnCurve 1 items (x -ℤ z) v
down_on items x v r z low high range on under some most =
    (range.pairs (x -ℤ z)).1
    (under-more low (x -ℤ r) (x -ℤ z) under (omega (arith, ints)), over-less high (x -ℤ z) x ((range.pairs x).0 on).1 (omega (arith, ints)))

-- a pair of the arc's curve, along a step over it
along : (items : List Ext) (z x : ℤ) (u : ℕ → ℤ) (from to : ℕ) (f : Bool) → (f ≡ true → IsOnCurve 1 items (x +ℤ z) (u to -ℤ u from))
    → (f ≡ false → IsOnCurve 1 items (x -ℤ z) (u to -ℤ u from))
    → IsPairAlong items f (moved_by z f x) (u (if f then to else from) -ℤ u (if f then from else to))
along items z x u from to true up down = up refl
along items z x u from to false up down =
    let flow : x -ℤ z ≡ moved_by z false x = omega (arith, ints) in
    let same : u to -ℤ u from ≡ directed false (u from -ℤ u to) = omega (arith, ints) in
    subst (λ (y : ℤ). IsOnCurve 1 items y (directed false (u from -ℤ u to))) flow (subst (λ (t : ℤ). IsOnCurve 1 items (x -ℤ z) t) same (down refl))

along-up : (items : List Ext) (z x : ℤ) (u : ℕ → ℤ) (from to : ℕ) (f : Bool) → f ≡ true
    → IsPairAlong items f (moved_by z f x) (u (if f then to else from) -ℤ u (if f then from else to)) → IsOnCurve 1 items (x +ℤ z) (u to -ℤ u from)
along-up items z x u from to true is pair = pair
along-up items z x u from to false is pair = let e : false ≡ true = is in cc

along-down : (items : List Ext) (z x : ℤ) (u : ℕ → ℤ) (from to : ℕ) (f : Bool) → f ≡ false
    → IsPairAlong items f (moved_by z f x) (u (if f then to else from) -ℤ u (if f then from else to)) → IsOnCurve 1 items (x -ℤ z) (u to -ℤ u from)
along-down items z x u from to true is pair = let e : true ≡ false = is in cc
along-down items z x u from to false is pair =
    let flow : moved_by z false x ≡ x -ℤ z = omega (arith, ints) in
    let same : directed false (u from -ℤ u to) ≡ u to -ℤ u from = omega (arith, ints) in
    subst (λ (y : ℤ). IsOnCurve 1 items y (u to -ℤ u from)) flow (subst (λ (t : ℤ). IsOnCurve 1 items (moved_by z false x) t) same pair)

module _ (g : Graph) (lists : List (List Ext)) (w : Room) (s : Step) (v : ℤ) (low high : Ext) (range : IsRange (list_at lists s.arc.0) v low high)
    (same : v ≡ tension (bare g) («at» w.potentials) s.arc.0) where
  abbrev here : ℤ
  here = «at» w.flows s.arc.0

  range_here : IsRange (list_at lists s.arc.0) (tension (bare g) («at» w.potentials) s.arc.0) low high
  range_here = subst (λ (t : ℤ). IsRange (list_at lists s.arc.0) t low high) same range

  pub next-over : s.forward ≡ true
      → IsPairAlong (list_at lists s.arc.0) s.forward (moved_by (pos 1) s.forward here) (rise (bare g) («at» w.potentials) s) → IsOver high (here +ℤ pos 1)
  next-over is next =
      ((range_here.pairs (here +ℤ pos 1)).0
      (along-up (list_at lists s.arc.0) (pos 1) here («at» w.potentials) (tail (bare g) s.arc.0) (head (bare g) s.arc.0) s.forward is next)).1

  pub next-under : s.forward ≡ false
      → IsPairAlong (list_at lists s.arc.0) s.forward (moved_by (pos 1) s.forward here) (rise (bare g) («at» w.potentials) s) → IsUnder low (here -ℤ pos 1)
  next-under is next =
      ((range_here.pairs (here -ℤ pos 1)).0
      (along-down (list_at lists s.arc.0) (pos 1) here («at» w.potentials) (tail (bare g) s.arc.0) (head (bare g) s.arc.0) s.forward is next)).0

  pub room-of : (r : ℤ) → IsOnCurve 1 (list_at lists s.arc.0) here (tension (bare g) («at» w.potentials) s.arc.0)
      → (s.forward ≡ true → IsOver high (here +ℤ r)) → (s.forward ≡ false → IsUnder low (here -ℤ r)) → IsRoomOf g lists w r s
  room-of r on up down = record {
    pairs = λ z some most.
        along (list_at lists s.arc.0) z here («at» w.potentials) (tail (bare g) s.arc.0) (head (bare g) s.arc.0) s.forward
        (λ is. up_on (list_at lists s.arc.0) here (tension (bare g) («at» w.potentials) s.arc.0) r z low high range_here on (up is) some most)
        (λ is. down_on (list_at lists s.arc.0) here (tension (bare g) («at» w.potentials) s.arc.0) r z low high range_here on (down is) some most);
  }

-- ---- arcs still to be read

total-strict : (n i : ℕ) (f h : ℕ → ℕ) → i < n → ((k : ℕ) → k < n → f k ≤ h k) → f i + 1 ≤ h i → total_below n f + 1 ≤ total_below n h
total-strict zero i f h there each strict = absurd (omega arith)
total-strict (suc n) i f h there each strict =
    let last = each n (omega arith) in
    ⊎_elim
    (λ (below : i < n). let front = total-strict n i f h below (λ k l. each k (omega arith)) strict in omega arith)
    (λ (above : n ≤ i).
    let same : n ≡ i = omega arith in
    let here : f n + 1 ≤ h n = subst (λ (k : ℕ). f k + 1 ≤ h k) (sym same) strict in
    let front = total_below-order n f h (λ k l. each k (omega arith)) in
    omega arith)
    (cases_lt i n)

abbrev is_unread : Graph → (ℕ → ℕ) → ℕ → ℕ → ℕ
is_unread g rank n j = 1 - (max (rank (tail (bare g) j)) (rank (head (bare g) j)) - n)

-- how many arcs are between nodes of at most rank n
abbrev pub unread : Graph → (ℕ → ℕ) → ℕ → ℕ
unread g rank n = total_below (length g.arcs) (is_unread g rank n)

pub unread-most : (g : Graph) (rank : ℕ → ℕ) (n : ℕ) → unread g rank n ≤ length g.arcs
unread-most g rank n =
    let all = total_below-most (length g.arcs) 1 (is_unread g rank n) (λ k l. omega arith) in
    omega arith

higher-end : (rank : ℕ → ℕ) (from to : ℕ) (f : Bool) → rank (if f then to else from) ≡ rank (if f then from else to) + 1
    → max (rank from) (rank to) ≡ rank (if f then to else from)
higher-end rank from to true deeper = omega arith
higher-end rank from to false deeper = omega arith

unread-less : (g : Graph) (rank : ℕ → ℕ) (s : Step) → s.arc.0 < length g.arcs → rank (end_of (bare g) s) ≡ rank (begin_of (bare g) s) + 1
    → unread g rank (rank (begin_of (bare g) s)) + 1 ≤ unread g rank (rank (end_of (bare g) s))
unread-less g rank s there deeper =
    let high = higher-end rank (tail (bare g) s.arc.0) (head (bare g) s.arc.0) s.forward deeper in
    total-strict (length g.arcs) s.arc.0 (is_unread g rank (rank (begin_of (bare g) s))) (is_unread g rank (rank (end_of (bare g) s))) there
    (λ k l. omega arith) (omega arith)

-- ---- the way back

-- after k labels: all of them have room, and so many arcs were read
pub record IsMeasured (g : Graph) (lists : List (List Ext)) (source target : ℕ) (w : Room) (most room : ℤ) (node k weight start steps : ℕ) : Type 0 where
  pub route : IsRoute g lists source target w
  pub on : IsOn w target node
  pub place : node ≡ back (bare g) w.labels target k
  pub short : k + route.rank node ≤ g.nodes
  pub some : pos 1 ≤ℤ room
  pub least : room ≤ℤ most
  pub rooms : (t : ℕ) → t < k → HasRoom g lists w room (back (bare g) w.labels target t)
  pub no_fewer : start ≤ steps
  pub count : steps + unread g route.rank (route.rank node) * weight ≤ start + unread g route.rank (route.rank target) * weight

module _ (g : Graph) (lists : List (List Ext)) (source target : ℕ) (w : Room) (most : ℤ) (weight start : ℕ) where
  pub measured-begun : IsRoute g lists source target w → pos 1 ≤ℤ most → IsMeasured g lists source target w most most target 0 weight start start
  measured-begun route some = record {
    route = route;
    on = inr refl;
    place = refl;
    short = (let h = route.short target (inr refl) in omega arith);
    some = some;
    least = omega (arith, ints);
    rooms = λ t l. absurd (omega arith);
    no_fewer = omega arith;
    count = omega arith;
  }

  some-same : (a b : Step) → Some a ≡ Some b → a ≡ b
  some-same a b e = cc

  module _ (room : ℤ) (node k steps : ℕ) (before : IsMeasured g lists source target w most room node k weight start steps) where
    pub measured-tight : (s : Step) → node ≢ source → label_at w.labels node ≡ Some s → IsTight g lists w before.route.rank node s
    measured-tight s other label =
        let to = before.route.ways node before.on other in
        subst (λ (t : Step). IsTight g lists w before.route.rank node t) (some-same to.last s (sym to.is.label ∙ label)) to.is

    pub measured-more : (s : Step) (less : ℤ) (after : ℕ) → node ≢ source → label_at w.labels node ≡ Some s → pos 1 ≤ℤ less → less ≤ℤ room
        → IsRoomOf g lists w less s → steps ≤ after → after ≤ steps + weight
        → IsMeasured g lists source target w most less (begin_of (bare g) s) (k + 1) weight start after
    measured-more s less after other label some shrinks has later counted =
        let tight = measured-tight s other label in
        let rank = before.route.rank in
        let here : label_at w.labels (back (bare g) w.labels target k) ≡ Some s = ap (label_at w.labels) (sym before.place) ∙ label in
        let end_rank : rank (end_of (bare g) s) ≡ rank node = ap rank tight.ends in
        let deeper = tight.deeper in
        let falls = unread-less g rank s tight.there (omega arith) in
        let same : unread g rank (rank (end_of (bare g) s)) ≡ unread g rank (rank node) = ap (unread g rank) end_rank in
        let fewer : unread g rank (rank (begin_of (bare g) s)) + 1 ≤ unread g rank (rank node) = omega arith in
        let scaled = mul-le-mul_left weight fewer in
        let short = before.short in
        let least = before.least in
        let first = before.no_fewer in
        let spent = before.count in
        record {
          route = before.route;
          on = inl tight.done;
          place = back-more (bare g) w.labels target k s here;
          short = omega arith;
          some = some;
          least = omega (arith, ints);
          rooms = λ t l r label_r.
              ⊎_elim
              (λ (below : t < k). record { pairs = λ z positive within. (before.rooms t below r label_r).pairs z positive (omega (arith, ints)) })
              (λ (above : k ≤ t).
              let at_k : t ≡ k = omega arith in
              let again : Some s ≡ Some r = sym here ∙ ap (λ (n : ℕ). label_at w.labels (back (bare g) w.labels target n)) (sym at_k) ∙ label_r in
              subst (λ (q : Step). IsRoomOf g lists w less q) (some-same s r again) has)
              (cases_lt t k);
          no_fewer = omega arith;
          count = omega arith;
        }

    pub measured-back : node ≡ source → HasRoomBack g lists source target w room
    measured-back is = record { count = k; ends = sym before.place ∙ is; room = before.rooms }

    -- the ranks are used up
    pub measured-end : g.nodes ≤ k → node ≡ source
    measured-end all =
        ⊎_elim
        (λ (same : node ≡ source). same)
        (λ (other : node ≡ source → ⊥).
        let to = before.route.ways node before.on other in
        let deeper = to.is.deeper in
        let short = before.short in
        absurd (omega arith))
        (cases_eq node source)

    pub measured-count : steps ≤ start + length g.arcs * weight
    measured-count =
        let spent = before.count in
        let few = unread-most g before.route.rank (before.route.rank target) in
        let scaled = mul-le-mul_left weight few in
        omega arith
