-- Parts of a set of arcs, and simple paths within them. `part` gives each node the number of its part, arc after arc: an arc
-- moves the part of its head over to that of its tail. Two nodes of one part are joined by a path over the arcs, by recursion
-- on the list: if they are of one part without the first arc, by the path there; else the first arc joins their two parts, and
-- the path goes to one of its ends, over it, and on from the other. Its two halves lie in different parts, so no node and no
-- arc comes twice. No walk has to be shortened.
use Rattle.std.proofs.Common.{◌≡◌, ◌≢◌, ℕ, zero, suc, ◌<◌, ◌==◌, cond, Bool, true, false, List, [], ◌∷◌, ◌++◌, length, refl, sym, ap, ◌∙◌, ⊎_elim, eq-eqb, arith}
use Rattle.std.proofs.lemmas.Bool.{cases_eq, ne_eqb}
use Rattle.theory.specs.declared.network.Step.{Step}
use Rattle.theory.specs.Sums.{Each}
use Rattle.theory.specs.Network.{Network, tail, head}
use Rattle.theory.specs.Circuit.{step, begin_of, end_of}
use Rattle.theory.specs.Tucker.{HasArc, Leads}
use Rattle.theory.proofs.Sums.{Each-map}
use Rattle.tucker_tableau.specs.Tableau.{number}
use Rattle.tucker_tableau.specs.Lead.{part}

part-hit : (net : Network) (r : ℕ) (rest : List ℕ) (v : ℕ) → part net rest v ≡ part net rest (head net r) → part net (r ∷ rest) v ≡ part net rest (tail net r)
part-hit net r rest v e = rw (eq-eqb (part net rest v) (part net rest (head net r)) e)

part-miss : (net : Network) (r : ℕ) (rest : List ℕ) (v : ℕ) → part net rest v ≢ part net rest (head net r) → part net (r ∷ rest) v ≡ part net rest v
part-miss net r rest v ne = rw (ne_eqb (part net rest v) (part net rest (head net r)) ne)

pub part-same : (net : Network) (r : ℕ) (rest : List ℕ) (v w : ℕ) → part net rest v ≡ part net rest w → part net (r ∷ rest) v ≡ part net (r ∷ rest) w
part-same net r rest v w e = ap (λ n. cond (n == part net rest (head net r)) (part net rest (tail net r)) n) e

pub part-tail : (net : Network) (r : ℕ) (rest : List ℕ) → part net (r ∷ rest) (tail net r) ≡ part net rest (tail net r)
part-tail net r rest =
    ⊎_elim (λ (e : part net rest (tail net r) ≡ part net rest (head net r)). part-hit net r rest (tail net r) e)
    (λ (ne : part net rest (tail net r) ≡ part net rest (head net r) → ⊥). part-miss net r rest (tail net r) ne)
    (cases_eq (part net rest (tail net r)) (part net rest (head net r)))

pub part-ends : (net : Network) (r : ℕ) (rest : List ℕ) → part net (r ∷ rest) (head net r) ≡ part net (r ∷ rest) (tail net r)
part-ends net r rest = part-hit net r rest (head net r) refl ∙ sym (part-tail net r rest)

-- both ends of an arc of the list are of one part
pub part-level : (net : Network) (arcs : List ℕ) (i : ℕ) → i < length arcs → part net arcs (head net (number arcs i)) ≡ part net arcs (tail net (number arcs i))
part-level net [] i l = absurd (omega arith)
part-level net (r ∷ rest) zero l = part-ends net r rest
part-level net (r ∷ rest) (suc i) l = part-same net r rest (head net (number rest i)) (tail net (number rest i)) (part-level net rest i (omega arith))

pub part-has : (net : Network) (arcs : List ℕ) (k : ℕ) → HasArc arcs k → part net arcs (head net k) ≡ part net arcs (tail net k)
part-has net arcs k h = rw (← h.is) (part-level net arcs h.place h.there)

-- ---- walks

-- f takes different numbers at the steps
abbrev pub AllDiffer : (Step → ℕ) → List Step → Type 0
AllDiffer f [] = Unit {0}
AllDiffer f (s ∷ walk) = Each (λ t. f t ≢ f s) walk × AllDiffer f walk

-- the walk leads from a to b and comes to no node twice
abbrev pub IsWay : Network → ℕ → List Step → ℕ → Type 0
IsWay net a [] b = a ≡ b
IsWay net a (s ∷ walk) b = (begin_of net s ≡ a) × (b ≢ a) × Each (λ t. begin_of net t ≢ a) walk × IsWay net (end_of net s) walk b

pub record IsPath (net : Network) (arcs : List ℕ) (a b : ℕ) (walk : List Step) : Type 0 where
  pub way : IsWay net a walk b
  pub differ : AllDiffer (λ s. s.arc.0) walk
  pub over : Each (λ s. HasArc arcs s.arc.0) walk

abbrev pub Path : Network → List ℕ → ℕ → ℕ → Type 0
Path net arcs a b = (walk : List Step) × IsPath net arcs a b walk

Each-append : (P : Step → Type 0) (xs ys : List Step) → Each P xs → Each P ys → Each P (xs ++ ys)
Each-append P [] ys front back = back
Each-append P (x ∷ xs) ys front back = (front.0, Each-append P xs ys front.1 back)

pub Each-at : (P : Step → Type 0) (xs : List Step) → Each P xs → (k : ℕ) → k < length xs → P (step xs k)
Each-at P [] each k l = absurd (omega arith)
Each-at P (x ∷ xs) each zero l = each.0
Each-at P (x ∷ xs) each (suc k) l = Each-at P xs each.1 k (omega arith)

-- ---- a number that is the same at both ends of each step is the same at all of them

abbrev pub IsLevel : Network → (ℕ → ℕ) → Step → Type 0
IsLevel net f s = f (head net s.arc.0) ≡ f (tail net s.arc.0)

level-end : (net : Network) (f : ℕ → ℕ) (s : Step) → IsLevel net f s → f (end_of net s) ≡ f (begin_of net s)
level-end net f s e = by_direction (head net s.arc.0) (tail net s.arc.0) s.forward e
  where
    by_direction : (h t : ℕ) (forward : Bool) → f h ≡ f t → f (cond forward h t) ≡ f (cond forward t h)
    by_direction h t true e = e
    by_direction h t false e = sym e

level-tail : (net : Network) (f : ℕ → ℕ) (s : Step) → IsLevel net f s → f (tail net s.arc.0) ≡ f (begin_of net s)
level-tail net f s e = by_direction (head net s.arc.0) (tail net s.arc.0) s.forward e
  where
    by_direction : (h t : ℕ) (forward : Bool) → f h ≡ f t → f t ≡ f (cond forward t h)
    by_direction h t true e = refl
    by_direction h t false e = sym e

pub level-way : (net : Network) (f : ℕ → ℕ) (a b : ℕ) (walk : List Step) → IsWay net a walk b → Each (IsLevel net f) walk → f b ≡ f a
level-way net f a b [] way each = ap f (sym way)
level-way net f a b (s ∷ walk) way each =
    level-way net f (end_of net s) b walk way.3 each.1 ∙ level-end net f s each.0 ∙ ap f way.0

level-begins : (net : Network) (f : ℕ → ℕ) (a b : ℕ) (walk : List Step) → IsWay net a walk b → Each (IsLevel net f) walk → Each (λ s. f (begin_of net s) ≡ f a) walk
level-begins net f a b [] way each = tt
level-begins net f a b (s ∷ walk) way each =
    let on : f (end_of net s) ≡ f a = level-end net f s each.0 ∙ ap f way.0 in (
      ap f way.0,
      Each-map (λ t. f (begin_of net t) ≡ f (end_of net s)) (λ t. f (begin_of net t) ≡ f a) walk (λ t e. e ∙ on)
          (level-begins net f (end_of net s) b walk way.3 each.1),
    )

level-tails : (net : Network) (f : ℕ → ℕ) (a b : ℕ) (walk : List Step) → IsWay net a walk b → Each (IsLevel net f) walk → Each (λ s. f (tail net s.arc.0) ≡ f a) walk
level-tails net f a b [] way each = tt
level-tails net f a b (s ∷ walk) way each =
    let on : f (end_of net s) ≡ f a = level-end net f s each.0 ∙ ap f way.0 in (
      level-tail net f s each.0 ∙ ap f way.0,
      Each-map (λ t. f (tail net t.arc.0) ≡ f (end_of net s)) (λ t. f (tail net t.arc.0) ≡ f a) walk (λ t e. e ∙ on)
          (level-tails net f (end_of net s) b walk way.3 each.1),
    )

-- ---- two ways joined by a step

way-joined : (net : Network) (f : ℕ → ℕ) (a b : ℕ) (front : List Step) (s : Step) (back : List Step) (c d : ℕ) → c ≢ d
    → IsWay net a front (begin_of net s) → Each (λ t. f (begin_of net t) ≡ c) front → f (begin_of net s) ≡ c
    → IsWay net (end_of net s) back b → Each (λ t. f (begin_of net t) ≡ d) back → f b ≡ d
    → IsWay net a (front ++ s ∷ back) b
way-joined net f a b [] s back c d ne way fronts at_s rest backs at_b =
    let off : (v : ℕ) → f v ≡ d → v ≢ a = λ v e same. ne (sym at_s ∙ ap f (sym way ∙ sym same) ∙ e) in
    (sym way, off b at_b, Each-map (λ t. f (begin_of net t) ≡ d) (λ t. begin_of net t ≢ a) back (λ t e. off (begin_of net t) e) backs, rest)
way-joined net f a b (t ∷ front) s back c d ne way fronts at_s rest backs at_b =
    let off : (v : ℕ) → f v ≡ d → v ≢ a = λ v e same. ne (sym fronts.0 ∙ ap f (way.0 ∙ sym same) ∙ e) in (
      way.0,
      off b at_b,
      Each-append (λ t. begin_of net t ≢ a) front (s ∷ back) way.2
          (way.1, Each-map (λ t. f (begin_of net t) ≡ d) (λ t. begin_of net t ≢ a) back (λ t e. off (begin_of net t) e) backs),
      way-joined net f (end_of net t) b front s back c d ne way.3 fronts.1 at_s rest backs at_b,
    )

arcs-joined : (g : ℕ → ℕ) (front : List Step) (s : Step) (back : List Step) (c d : ℕ) → c ≢ d
    → AllDiffer (λ t. t.arc.0) front → Each (λ t. g t.arc.0 ≡ c) front → Each (λ t. t.arc.0 ≢ s.arc.0) front
    → AllDiffer (λ t. t.arc.0) back → Each (λ t. g t.arc.0 ≡ d) back → Each (λ t. t.arc.0 ≢ s.arc.0) back
    → AllDiffer (λ t. t.arc.0) (front ++ s ∷ back)
arcs-joined g [] s back c d ne differ fronts off rest backs off_too = (off_too, rest)
arcs-joined g (t ∷ front) s back c d ne differ fronts off rest backs off_too = (
  Each-append (λ v. v.arc.0 ≢ t.arc.0) front (s ∷ back) differ.0
      (λ e. off.0 (sym e), Each-map (λ v. g v.arc.0 ≡ d) (λ v. v.arc.0 ≢ t.arc.0) back (λ v e same. ne (sym fronts.0 ∙ ap g (sym same) ∙ e)) backs),
  arcs-joined g front s back c d ne differ.1 fronts.1 off.1 rest backs off_too,
)

-- ---- the path

abbrev pub Differ : List ℕ → Type 0
Differ arcs = (i k : ℕ) → i < k → k < length arcs → number arcs i ≢ number arcs k

pub has-later : (r : ℕ) (rest : List ℕ) (k : ℕ) → HasArc rest k → HasArc (r ∷ rest) k
has-later r rest k h = record { place = suc h.place; there = omega (arith, h.there); is = h.is }

off-first : (r : ℕ) (rest : List ℕ) → Differ (r ∷ rest) → (k : ℕ) → HasArc rest k → k ≢ r
off-first r rest differ k h e = differ 0 (suc h.place) (omega arith) (omega (arith, h.there)) (sym (h.is ∙ e))

joined : (net : Network) (r : ℕ) (rest : List ℕ) (a b : ℕ) (forward : Bool) → Differ (r ∷ rest)
    → part net rest (tail net r) ≢ part net rest (head net r)
    → Path net rest a (begin_of net (record { arc = record { 0 = r }; forward = forward }))
    → Path net rest (end_of net (record { arc = record { 0 = r }; forward = forward })) b
    → Path net (r ∷ rest) a b
joined net r rest a b forward differ apart front back =
    let s : Step = record { arc = record { 0 = r }; forward = forward } in
    let f = part net rest in
    let levels = λ (walk : List Step) (over : Each (λ s. HasArc rest s.arc.0) walk).
    Each-map (λ s. HasArc rest s.arc.0) (IsLevel net f) walk (λ s h. part-has net rest s.arc.0 h) over in
    let offs = λ (walk : List Step) (over : Each (λ s. HasArc rest s.arc.0) walk).
    Each-map (λ s. HasArc rest s.arc.0) (λ s. s.arc.0 ≢ r) walk (λ s h. off-first r rest differ s.arc.0 h) over in
    let wider = λ (walk : List Step) (over : Each (λ s. HasArc rest s.arc.0) walk).
    Each-map (λ s. HasArc rest s.arc.0) (λ s. HasArc (r ∷ rest) s.arc.0) walk (λ s h. has-later r rest s.arc.0 h) over in
    let first : HasArc (r ∷ rest) r = record { place = 0; there = omega arith; is = refl } in
    let front_levels = levels front.0 front.1.over in
    let back_levels = levels back.0 back.1.over in
    let c = f a in
    let d = f (end_of net s) in
    let at_s : f (begin_of net s) ≡ c = level-way net f a (begin_of net s) front.0 front.1.way front_levels in
    let at_b : f b ≡ d = level-way net f (end_of net s) b back.0 back.1.way back_levels in
    let ne : c ≢ d = λ e. ends_apart net f s apart (at_s ∙ e) in (
      front.0 ++ s ∷ back.0,
      record {
        way = way-joined net f a b front.0 s back.0 c d ne front.1.way (level-begins net f a (begin_of net s) front.0 front.1.way front_levels) at_s
            back.1.way (level-begins net f (end_of net s) b back.0 back.1.way back_levels) at_b;
        differ = arcs-joined (λ k. f (tail net k)) front.0 s back.0 c d ne
            front.1.differ (level-tails net f a (begin_of net s) front.0 front.1.way front_levels) (offs front.0 front.1.over)
            back.1.differ (level-tails net f (end_of net s) b back.0 back.1.way back_levels) (offs back.0 back.1.over);
        over = Each-append (λ s. HasArc (r ∷ rest) s.arc.0) front.0 (s ∷ back.0) (wider front.0 front.1.over) (first, wider back.0 back.1.over);
      },
    )
  where
    ends_apart : (net : Network) (f : ℕ → ℕ) (s : Step) → f (tail net s.arc.0) ≢ f (head net s.arc.0) → f (begin_of net s) ≢ f (end_of net s)
    ends_apart net f s ne = by_direction (tail net s.arc.0) (head net s.arc.0) s.forward ne
      where
        by_direction : (t h : ℕ) (forward : Bool) → f t ≢ f h → f (cond forward t h) ≢ f (cond forward h t)
        by_direction t h true ne = ne
        by_direction t h false ne = λ e. ne (sym e)

pub path : (net : Network) (arcs : List ℕ) (a b : ℕ) → Differ arcs → part net arcs a ≡ part net arcs b → Path net arcs a b
path net [] a b differ same = ([], record { way = same; differ = tt; over = tt })
path net (r ∷ rest) a b differ same =
    let rest_differ : Differ rest = λ i k l m. differ (suc i) (suc k) (omega arith) (omega arith) in
    let f = part net rest in
    let t = tail net r in
    let h = head net r in
    ⊎_elim
    (λ (e : f a ≡ f b).
    let p = path net rest a b rest_differ e in
    (p.0, record { way = p.1.way; differ = p.1.differ; over = Each-map (λ s. HasArc rest s.arc.0) (λ s. HasArc (r ∷ rest) s.arc.0) p.0 (λ s h. has-later r rest s.arc.0 h) p.1.over }))
    (λ (ne : f a ≡ f b → ⊥).
    ⊎_elim
    (λ (a_hit : f a ≡ f h).
    let b_miss : f b ≢ f h = λ e. ne (a_hit ∙ sym e) in
    let e : f t ≡ f b = sym (part-hit net r rest a a_hit) ∙ same ∙ part-miss net r rest b b_miss in
    joined net r rest a b false differ (λ g. b_miss (sym e ∙ g)) (path net rest a h rest_differ a_hit) (path net rest t b rest_differ e))
    (λ (a_miss : f a ≡ f h → ⊥).
    let b_hit : f b ≡ f h =
    ⊎_elim (λ (e : f b ≡ f h). e)
    (λ (b_miss : f b ≡ f h → ⊥). absurd (ne (sym (part-miss net r rest a a_miss) ∙ same ∙ part-miss net r rest b b_miss)))
    (cases_eq (f b) (f h)) in
    let e : f a ≡ f t = sym (part-miss net r rest a a_miss) ∙ same ∙ part-hit net r rest b b_hit in
    joined net r rest a b true differ (λ g. a_miss (e ∙ g)) (path net rest a t rest_differ e) (path net rest h b rest_differ (sym b_hit)))
    (cases_eq (f a) (f h)))
    (cases_eq (f a) (f b))

-- ---- what paths give

pub leads-way : (net : Network) (a b : ℕ) (walk : List Step) → IsWay net a walk b → Leads net a walk b
leads-way net a b [] way = way
leads-way net a b (s ∷ walk) way = (way.0, leads-way net (end_of net s) b walk way.3)

pub level-leads : (net : Network) (f : ℕ → ℕ) (a b : ℕ) (walk : List Step) → Leads net a walk b → ((k : ℕ) → k < length walk → IsLevel net f (step walk k)) → f b ≡ f a
level-leads net f a b [] leads each = ap f (sym leads)
level-leads net f a b (s ∷ walk) leads each =
    level-leads net f (end_of net s) b walk leads.1 (λ k l. each (suc k) (omega arith)) ∙ level-end net f s (each 0 (omega arith)) ∙ ap f leads.0
