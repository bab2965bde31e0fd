-- A step's line by its words, and the arc by its name. The line is `step` with the sign, the kind of the arc and its name, a
-- space between each two and LF at the end: an arc below the count of nodes prints as `node` and that node's name, any other as
-- `arc` and the model arc's name. Kind and name have no space, so what splits off the last word, twice, gives back just these
-- words. Names of nodes differ, and so do names of arcs: the place where a name is found is the number that it was printed for,
-- and the kind says in which of the two lists to look. So the words give the arc back, and the sign the direction.
use Rattle.std.proofs.Common.{◌≡◌, ◌≢◌, ℕ, ◌+◌, ◌-◌, ◌<◌, nat_lt, Bool, true, false, cond, if◌then◌else◌, Option, Some, None, bytes_eq, List, [], ◌∷◌, ◌++◌, length, get_or, refl, sym, ap, subst, ◌∙◌, arith, append-nil, add-one}
use Rattle.std.specs.Prelude.{codes}
use Rattle.std.specs.Option.{option_map}
use Rattle.std.specs.Cmp.Lexicographic.{bytes_decides}
use Rattle.std.proofs.lemmas.Bool.{ltb-true, ltb-false, lt-ltb}
use Rattle.std.proofs.lemmas.List.{length-map, get_or-map}
use Rattle.std.proofs.lemmas.List.Quantifiers.{position-Some}
use Rattle.std.proofs.lemmas.List.Sums.{position_or_len_is}
use Rattle.theory.specs.declared.network.Step.{Step}
use Rattle.theory.specs.Grounded.{Entries, NodeEntry, ArcEntry, arc_name}
use Rattle.model_text.specs.Model.{node_at, arc_at, node_names, arc_names, place_of, AreNames, IsWellFormed}
use Rattle.model_text.specs.Printed.{printed_line}
use Rattle.cert_text.specs.CertificateText.{step_line}
use Rattle.cert_text.specs.Candidate.{named_arc, IsPlain}
use Rattle.cert_text.proofs.Plain.{plain_name}

abbrev pub kind_of : Entries → ℕ → List ℕ
kind_of m j = if nat_lt j (length m.nodes) then codes "node" else codes "arc"

abbrev pub name_of : Entries → ℕ → List ℕ
name_of m j = if nat_lt j (length m.nodes) then (node_at m j).name else (arc_at m (j - length m.nodes)).name

abbrev pub sign_of : Step → List ℕ
sign_of t = if t.forward then codes "step +" else codes "step -"

pub arc_name_is : (m : Entries) (j : ℕ) → arc_name m j ≡ kind_of m j ++ 32 ∷ name_of m j
arc_name_is m j = by (nat_lt j (length m.nodes)) refl
  where
    by : (t : Bool) → nat_lt j (length m.nodes) ≡ t → arc_name m j ≡ kind_of m j ++ 32 ∷ name_of m j
    by true e = rw (e, add-one) refl
    by false e = rw e refl

line_by : (forward : Bool) (arc kind name : List ℕ) → arc ≡ kind ++ 32 ∷ name
    → printed_line (codes "step") ((if forward then codes "+" else codes "-") ∷ arc ∷ [])
    ≡ (if forward then codes "step +" else codes "step -") ++ 32 ∷ kind ++ 32 ∷ name ++ 10 ∷ []
line_by true arc kind name is = rw (append-nil arc, is) refl
line_by false arc kind name is = rw (append-nil arc, is) refl

pub step_line_is : (m : Entries) (t : Step) → step_line m t ≡ sign_of t ++ 32 ∷ kind_of m t.arc.0 ++ 32 ∷ name_of m t.arc.0 ++ 10 ∷ []
step_line_is m t = line_by t.forward (arc_name m t.arc.0) (kind_of m t.arc.0) (name_of m t.arc.0) (arc_name_is m t.arc.0)

pub sign_told : (t : Step) → bytes_eq (sign_of t) (codes "step +") ≡ t.forward
sign_told t = by t.forward
  where
    by : (b : Bool) → bytes_eq (if b then codes "step +" else codes "step -") (codes "step +") ≡ b
    by true = refl
    by false = refl

pub kind_plain : (m : Entries) (j : ℕ) → IsPlain (kind_of m j)
kind_plain m j = by (nat_lt j (length m.nodes))
  where
    by : (b : Bool) → IsPlain (if b then codes "node" else codes "arc")
    by true = refl
    by false = refl

-- ---- names that differ

apart_test : (a b : List ℕ) → a ≢ b → bytes_eq a b ≡ false
apart_test a b apart = by (bytes_eq a b) refl
  where
    by : (t : Bool) → bytes_eq a b ≡ t → t ≡ false
    by true e = absurd (apart ((bytes_decides a b).0 e))
    by false e = refl

module _ (names : List (List ℕ)) (are : AreNames names) where
  pub place_is : (i : ℕ) (d : List ℕ) → i < length names → place_of names (get_or names i d) ≡ Some i
  place_is i d here =
      let first = position_or_len_is (bytes_eq (get_or names i d)) names i d (omega arith)
      (λ k below. apart_test (get_or names i d) (get_or names k d) (λ same. are.differ k i d below here (sym same)))
      (λ there. (bytes_decides (get_or names i d) (get_or names i d)).1 refl) in
      ap (λ n. cond (nat_lt n (length names)) (Some n) None) first ∙ ap (λ b. cond b (Some i) None) (lt-ltb i (length names) here)

  pub name_plain : (i : ℕ) (d : List ℕ) → i < length names → IsPlain (get_or names i d)
  name_plain i d here = plain_name (get_or names i d) (are.each i d here)

module _ (m : Entries) (formed : IsWellFormed m) where
  pub node_at_name : (i : ℕ) → i < length m.nodes → get_or (node_names m) i [] ≡ (node_at m i).name
  node_at_name i here = get_or-map (λ (node : NodeEntry). node.name) m.nodes i _ [] here

  arc_at_name : (k : ℕ) → k < length m.arcs → get_or (arc_names m) k [] ≡ (arc_at m k).name
  arc_at_name k here = get_or-map (λ (arc : ArcEntry). arc.name) m.arcs k _ [] here

  pub node_place : (i : ℕ) → i < length m.nodes → place_of (node_names m) (node_at m i).name ≡ Some i
  node_place i here =
      ap (place_of (node_names m)) (sym (node_at_name i here))
      ∙ place_is (node_names m) formed.nodes_named i [] (omega (arith, length-map m.nodes (λ (node : NodeEntry). node.name)))

  arc_place : (k : ℕ) → k < length m.arcs → place_of (arc_names m) (arc_at m k).name ≡ Some k
  arc_place k here =
      ap (place_of (arc_names m)) (sym (arc_at_name k here))
      ∙ place_is (arc_names m) formed.arcs_named k [] (omega (arith, length-map m.arcs (λ (arc : ArcEntry). arc.name)))

  pub node_name_plain : (i : ℕ) → i < length m.nodes → IsPlain (node_at m i).name
  node_name_plain i here =
      subst IsPlain (node_at_name i here) (name_plain (node_names m) formed.nodes_named i [] (omega (arith, length-map m.nodes (λ (node : NodeEntry). node.name))))

  arc_name_plain : (k : ℕ) → k < length m.arcs → IsPlain (arc_at m k).name
  arc_name_plain k here =
      subst IsPlain (arc_at_name k here) (name_plain (arc_names m) formed.arcs_named k [] (omega (arith, length-map m.arcs (λ (arc : ArcEntry). arc.name))))

  pub name_of_plain : (j : ℕ) → j < length m.nodes + length m.arcs → IsPlain (name_of m j)
  name_of_plain j here = by (nat_lt j (length m.nodes)) refl
    where
      by : (b : Bool) → nat_lt j (length m.nodes) ≡ b → IsPlain (name_of m j)
      by true e = rw e (node_name_plain j (ltb-true j (length m.nodes) e))
      by false e = rw e (arc_name_plain (j - length m.nodes) (omega (arith, ltb-false j (length m.nodes) e)))

  pub named_found : (j : ℕ) → j < length m.nodes + length m.arcs → named_arc m (kind_of m j) (name_of m j) ≡ Some j
  named_found j here = by (nat_lt j (length m.nodes)) refl
    where
      by : (b : Bool) → nat_lt j (length m.nodes) ≡ b → named_arc m (kind_of m j) (name_of m j) ≡ Some j
      by true e = rw e (node_place j (ltb-true j (length m.nodes) e))
      by false e =
          let above = ltb-false j (length m.nodes) e in
          let whole : length m.nodes + (j - length m.nodes) ≡ j = omega arith in
          rw (e, arc_place (j - length m.nodes) (omega arith)) (ap (λ n. Some n) whole)

  pub named_there : (kind name : List ℕ) (j : ℕ) → named_arc m kind name ≡ Some j → j < length m.nodes + length m.arcs
  named_there kind name j is = by (bytes_eq kind (codes "node")) refl is
    where
      node : (o : Option ℕ) → place_of (node_names m) name ≡ o → o ≡ Some j → j < length m.nodes + length m.arcs
      node o e some = omega (arith, (position-Some (bytes_eq name) (node_names m) j [] (e ∙ some)).0, length-map m.nodes (λ (node : NodeEntry). node.name))

      arc : (o : Option ℕ) → place_of (arc_names m) name ≡ o → option_map (λ k. length m.nodes + k) o ≡ Some j → j < length m.nodes + length m.arcs
      arc None e some = cc
      arc (Some k) e some =
          let same : length m.nodes + k ≡ j = cc in
          omega (arith, (position-Some (bytes_eq name) (arc_names m) k [] e).0, length-map m.arcs (λ (arc : ArcEntry). arc.name))

      by : (b : Bool) → bytes_eq kind (codes "node") ≡ b → named_arc m kind name ≡ Some j → j < length m.nodes + length m.arcs
      by true e some = node (place_of (node_names m) name) refl (rw e at some)
      by false e some = arc (place_of (arc_names m) name) refl (rw e at some)

  -- the words of a step's line, by whatever splits words off as it should
  module _ (line body front name sign kind : List ℕ)
      (is_body : (b : List ℕ) → line ≡ b ++ 10 ∷ [] → body ≡ b)
      (is_name : (f w : List ℕ) → IsPlain w → body ≡ f ++ 32 ∷ w → (front ≡ f) × (name ≡ w))
      (is_kind : (f w : List ℕ) → IsPlain w → front ≡ f ++ 32 ∷ w → (sign ≡ f) × (kind ≡ w))
      (t : Step) (there : t.arc.0 < length m.nodes + length m.arcs) (is : line ≡ step_line m t) where
    pub words : (sign ≡ sign_of t) × (kind ≡ kind_of m t.arc.0) × (name ≡ name_of m t.arc.0)
    words =
        let whole = is_body (sign_of t ++ 32 ∷ kind_of m t.arc.0 ++ 32 ∷ name_of m t.arc.0) (is ∙ step_line_is m t) in
        let last = is_name (sign_of t ++ 32 ∷ kind_of m t.arc.0) (name_of m t.arc.0) (name_of_plain t.arc.0 there) whole in
        let first = is_kind (sign_of t) (kind_of m t.arc.0) (kind_plain m t.arc.0) last.0 in
        (first.0, first.1, last.1)

    pub arc_read : (arc : Option ℕ) → arc ≡ named_arc m kind name → arc ≡ Some t.arc.0
    arc_read arc given =
        given ∙ ap (λ k. named_arc m k name) words.1 ∙ ap (named_arc m (kind_of m t.arc.0)) words.2 ∙ named_found t.arc.0 there

    pub sign_read : (forward : Bool) → forward ≡ bytes_eq sign (codes "step +") → forward ≡ t.forward
    sign_read forward given = given ∙ ap (λ l. bytes_eq l (codes "step +")) words.0 ∙ sign_told t

pub same_step : (t : Step) (arc : ℕ) (forward : Bool) → arc ≡ t.arc.0 → forward ≡ t.forward
    → ◌≡◌ {A = Step} (record { arc = record { 0 = arc }; forward = forward }) t
same_step t arc forward p q =
    let make : ℕ → Bool → Step = λ k b. record { arc = record { 0 = k }; forward = b } in
    ap (λ k. make k forward) p ∙ ap (make t.arc.0) q
