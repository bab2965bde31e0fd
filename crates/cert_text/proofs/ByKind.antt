-- What was read is a candidate, kind by kind: it fits, and no other certificate's text agrees with the given one for longer than
-- its own does. The head says the kind: where the given text has another head than some certificate, that one differs in the
-- first line already. Of one kind the lines are compared one after the other. Each line is whole, so the texts agree beyond it
-- only if the line itself is the same. Where the given line is the other certificate's, the numbers that it ends with are the
-- other's, and these are the numbers that were read, so it is the candidate's line too, and the comparison goes on behind it.
use Rattle.std.proofs.Common.{◌≡◌, ◌≢◌, ℕ, zero, suc, ◌+◌, ◌-◌, ◌<◌, ◌≤◌, Bool, List, [], ◌++◌, length, refl, sym, ap, subst, ◌∙◌, arith, append-nil, append_assoc, add-one, add_comm, zero-add, ⊎_elim}
use Rattle.std.specs.Prelude.{ℤ, codes, Result, Ok, Err, IfOk}
use Rattle.std.specs.List.{flat_map}
use Rattle.std.proofs.lemmas.Bool.{cases_lt}
use Rattle.std.proofs.lemmas.Int.{ints}
use Rattle.theory.specs.declared.network.Step.{Step}
use Rattle.theory.specs.Network.{«at»}
use Rattle.theory.specs.Grounded.{Entries, grounded}
use Rattle.theory.specs.Limits.{IsWithin, flow_most, sum_most}
use Rattle.theory.specs.Certificate.{Certificate, Fits, AreNumbers, IsPotentialOf}
use Rattle.theory.specs.Certificate.Certificate.{optimal, cut, circuit}
use Rattle.theory.proofs.GroundedLaw.{length-grounded_arcs}
use Rattle.model_text.specs.Model.{IsWellFormed}
use Rattle.model_text.specs.Scale.{cost_decimals}
use Rattle.model_text.specs.declared.scale.Scale.{Scale}
use Rattle.cert_text.specs.CertificateText.{certificate_text, texts_below, head_line, number_line, potential_line, flow_line, side_line, step_line, supply_lines, arc_lines}
use Rattle.cert_text.specs.Candidate.{first_line, after_line, after, line_at, IsAsLike, IsCandidate, IsLastNumber, AreLastNumbers, AreFlowsRead, ArePairsRead, AreStepsRead, IsOptimalRead, IsCutRead, IsCircuitRead}
use Rattle.cert_text.proofs.LineEnds.{after-after}
use Rattle.cert_text.proofs.PieceLaws.{alike_apart, alike_line, alike_texts, first-whole}
use Rattle.cert_text.proofs.Wholes.{whole_head, whole_number, whole_potential, whole_flow, no_matter, heads_apart}
use Rattle.cert_text.proofs.Nearest.{number_read, flow_read, pair_read, alike_sides, alike_steps}

-- ---- texts by their lines

abbrev pub optimal_lines : Scale → Entries → List ℤ → List ℤ → ℤ → ℤ → List ℕ
optimal_lines s m x u cost value =
    number_line (cost_decimals s) (codes "cost") cost ++ (number_line (cost_decimals s) (codes "value") value ++ (texts_below (length m.nodes) (potential_line s m u x) ++ (arc_lines s m x ++ [])))

abbrev pub cut_lines : Scale → Entries → List Bool → ℤ → List ℕ
cut_lines s m side capacity = number_line s.flow (codes "capacity") capacity ++ (texts_below (length m.nodes + 1) (side_line m side) ++ [])

abbrev pub circuit_lines : Scale → Entries → List ℤ → List Step → ℤ → List ℕ
circuit_lines s m x walk span = number_line s.tension (codes "span") span ++ (supply_lines s m x ++ (arc_lines s m x ++ flat_map (step_line m) walk))

nested_three : (a b c : List ℕ) → a ++ b ++ c ≡ a ++ (b ++ (c ++ []))
nested_three a b c = simp (append_assoc, append-nil)

nested_five : (a b c d e : List ℕ) → a ++ b ++ c ++ d ++ e ≡ a ++ (b ++ (c ++ (d ++ e)))
nested_five a b c d e = simp append_assoc

pub optimal_text : (s : Scale) (m : Entries) (x u : List ℤ) (cost value : ℤ)
    → certificate_text s m (optimal x u cost value) ≡ head_line s (codes "optimal") ++ optimal_lines s m x u cost value
optimal_text s m x u cost value =
    nested_five (head_line s (codes "optimal")) (number_line (cost_decimals s) (codes "cost") cost) (number_line (cost_decimals s) (codes "value") value) (texts_below (length m.nodes) (potential_line s m u x)) (arc_lines s m x)
    ∙ ap (λ l. head_line s (codes "optimal") ++ (number_line (cost_decimals s) (codes "cost") cost ++ (number_line (cost_decimals s) (codes "value") value ++ (texts_below (length m.nodes) (potential_line s m u x) ++ l)))) (sym (append-nil (arc_lines s m x)))

pub cut_text : (s : Scale) (m : Entries) (side : List Bool) (capacity : ℤ) → certificate_text s m (cut side capacity) ≡ head_line s (codes "cut") ++ cut_lines s m side capacity
cut_text s m side capacity = nested_three (head_line s (codes "cut")) (number_line s.flow (codes "capacity") capacity) (texts_below (length m.nodes + 1) (side_line m side))

pub circuit_text : (s : Scale) (m : Entries) (x : List ℤ) (walk : List Step) (span : ℤ)
    → certificate_text s m (circuit x walk span) ≡ head_line s (codes "circuit") ++ circuit_lines s m x walk span
circuit_text s m x walk span = nested_five (head_line s (codes "circuit")) (number_line s.tension (codes "span") span) (supply_lines s m x) (arc_lines s m x) (flat_map (step_line m) walk)

alike_by : (text own other mine theirs : List ℕ) → own ≡ mine → other ≡ theirs → IsAsLike text mine theirs → IsAsLike text own other
alike_by text own other mine theirs p q like =
    subst (λ l. IsAsLike text l other) (sym p) (subst (IsAsLike text mine) (sym q) like)

-- ---- heads

unfoldable pub head_of : Scale → Certificate → List ℕ
head_of s (optimal x u cost value) = head_line s (codes "optimal")
head_of s (cut side capacity) = head_line s (codes "cut")
head_of s (circuit x walk span) = head_line s (codes "circuit")

pub head_is : (s : Scale) (m : Entries) (c : Certificate) → first_line (certificate_text s m c) ≡ head_of s c
unfolding head_of
head_is s m (optimal x u cost value) =
    ap first_line (optimal_text s m x u cost value) ∙ first-whole (head_line s (codes "optimal")) (optimal_lines s m x u cost value) (whole_head s (codes "optimal") refl)
head_is s m (cut side capacity) = ap first_line (cut_text s m side capacity) ∙ first-whole (head_line s (codes "cut")) (cut_lines s m side capacity) (whole_head s (codes "cut") refl)
head_is s m (circuit x walk span) =
    ap first_line (circuit_text s m x walk span) ∙ first-whole (head_line s (codes "circuit")) (circuit_lines s m x walk span) (whole_head s (codes "circuit") refl)

-- a text whose head is another's
other_kind : (s : Scale) (m : Entries) (text own : List ℕ) (d : Certificate) → first_line text ≢ head_of s d → IsAsLike text own (certificate_text s m d)
other_kind s m text own d apart = alike_apart text own (certificate_text s m d) (λ same. apart (same ∙ head_is s m d))

module _ (s : Scale) (m : Entries) (formed : IsWellFormed m) (text : List ℕ) where
  -- ---- cuts

  cut_like : (side other : List Bool) (capacity limit : ℤ) → IsCutRead m (after_line text) (cut side capacity) → IsWithin sum_most limit
      → IsAsLike text (certificate_text s m (cut side capacity)) (certificate_text s m (cut other limit))
  cut_like side other capacity limit read within =
      let whole = whole_head s (codes "cut") refl in
      alike_by text _ _ _ _ (cut_text s m side capacity) (cut_text s m other limit)
      (alike_line text (head_line s (codes "cut")) (head_line s (codes "cut")) (cut_lines s m side capacity) (cut_lines s m other limit) whole whole
      (λ is. (
        refl,
        alike_line (after_line text) (number_line s.flow (codes "capacity") limit) (number_line s.flow (codes "capacity") capacity)
            (texts_below (length m.nodes + 1) (side_line m side) ++ []) (texts_below (length m.nodes + 1) (side_line m other) ++ [])
            (whole_number s.flow (codes "capacity") limit refl within) (whole_number s.flow (codes "capacity") capacity refl read.0.within)
            (λ is. (
              number_read s.flow (codes "capacity") (first_line (after_line text)) capacity limit read.0 within is,
              alike_sides m formed (after 2 text) side other (length m.nodes + 1) (omega arith) read.1.read [] []
                  (λ i here same. cc) (λ k same. same),
            )),
      )))

  pub cut_candidate : (c : Certificate) → first_line text ≡ head_line s (codes "cut") → IsCutRead m (after_line text) c → IsCandidate s m text c
  unfolding head_of
  cut_candidate (optimal x u cost value) head read = elim read [ ]
  cut_candidate (circuit x walk span) head read = elim read [ ]
  cut_candidate (cut side capacity) head read = record { fits = (read.1.one_each, read.0.within); like = like }
    where
      like : (d : Certificate) → Fits (grounded m) d → IsAsLike text (certificate_text s m (cut side capacity)) (certificate_text s m d)
      like (cut other limit) fits = cut_like side other capacity limit read fits.1
      like (optimal x u cost value) fits =
          other_kind s m text (certificate_text s m (cut side capacity)) (optimal x u cost value)
          (λ same. heads_apart (head_line s (codes "cut")) (head_line s (codes "optimal")) (no_matter _) (sym head ∙ same))
      like (circuit x walk span) fits =
          other_kind s m text (certificate_text s m (cut side capacity)) (circuit x walk span)
          (λ same. heads_apart (head_line s (codes "cut")) (head_line s (codes "circuit")) (no_matter _) (sym head ∙ same))

  -- ---- optimal plans and circuits

  pub flows_fit : (x : List ℤ) → length x ≡ length m.nodes + length m.arcs → ((j : ℕ) → j < length m.nodes + length m.arcs → IsWithin flow_most («at» x j))
      → AreNumbers (length (grounded m).arcs) x
  flows_fit x long within = record {
    one_each = long ∙ sym (length-grounded_arcs m);
    within = λ j here. within j (omega (arith, length-grounded_arcs m));
  }

  pub flow_within : (x : List ℤ) → AreNumbers (length (grounded m).arcs) x → (j : ℕ) → j < length m.nodes + length m.arcs → IsWithin flow_most («at» x j)
  flow_within x numbers j here = numbers.within j (omega (arith, length-grounded_arcs m))

  -- the lines of the model's arcs
  alike_arcs : (rest : List ℕ) (x y : List ℤ) → ((j : ℕ) → j < length m.arcs → IsLastNumber flow_most (line_at rest j) («at» x (length m.nodes + j)))
      → ((j : ℕ) → j < length m.nodes + length m.arcs → IsWithin flow_most («at» y j))
      → (own other : List ℕ) → IsAsLike (after (length m.arcs) rest) own other → IsAsLike rest (arc_lines s m x ++ own) (arc_lines s m y ++ other)
  alike_arcs rest x y read within own other on =
      alike_texts (length m.arcs) (λ j. flow_line s m x (length m.nodes + j)) (λ j. flow_line s m y (length m.nodes + j))
      (λ j here. (
        whole_flow m formed s x (length m.nodes + j) (omega arith) (read j here).within,
        whole_flow m formed s y (length m.nodes + j) (omega arith) (within (length m.nodes + j) (omega arith)),
      ))
      rest (λ j here is. flow_read s m (line_at rest j) x y (length m.nodes + j) (read j here) (within (length m.nodes + j) (omega arith)) is)
      own other on

  alike_supplies : (rest : List ℕ) (x y : List ℤ) → ((j : ℕ) → j < length m.nodes → IsLastNumber flow_most (line_at rest j) («at» x j))
      → ((j : ℕ) → j < length m.nodes + length m.arcs → IsWithin flow_most («at» y j))
      → (own other : List ℕ) → IsAsLike (after (length m.nodes) rest) own other → IsAsLike rest (supply_lines s m x ++ own) (supply_lines s m y ++ other)
  alike_supplies rest x y read within own other on =
      alike_texts (length m.nodes) (flow_line s m x) (flow_line s m y)
      (λ j here. (whole_flow m formed s x j (omega arith) (read j here).within, whole_flow m formed s y j (omega arith) (within j (omega arith))))
      rest (λ j here is. flow_read s m (line_at rest j) x y j (read j here) (within j (omega arith)) is)
      own other on

  module _ (x u supplies : List ℤ) (rest : List ℕ) (pairs : ArePairsRead rest (length m.nodes) u supplies)
      (flows : AreFlowsRead (after (length m.nodes) rest) (length m.arcs) supplies x) where
    plan_length : length x ≡ length m.nodes + length m.arcs
    plan_length = omega (arith, flows.one_each, pairs.supplies)

    pair_at : (i : ℕ) → i < length m.nodes → AreLastNumbers (line_at rest i) («at» u (i + 1)) («at» x i)
    pair_at i here = subst (AreLastNumbers (line_at rest i) («at» u (i + 1))) (sym (flows.kept i (omega (arith, pairs.supplies)))) (pairs.read i here)

    flow_at : (j : ℕ) → j < length m.arcs → IsLastNumber flow_most (line_at (after (length m.nodes) rest) j) («at» x (length m.nodes + j))
    flow_at j here = subst (λ n. IsLastNumber flow_most (line_at (after (length m.nodes) rest) j) («at» x (n + j))) pairs.supplies (flows.read j here)

    plan_within : (j : ℕ) → j < length m.nodes + length m.arcs → IsWithin flow_most («at» x j)
    plan_within j here =
        ⊎_elim (λ (below : j < length m.nodes). (pair_at j below).second_within)
        (λ (above : length m.nodes ≤ j).
        let same : length m.nodes + (j - length m.nodes) ≡ j = omega arith in
        subst (λ k. IsWithin flow_most («at» x k)) same (flow_at (j - length m.nodes) (omega arith)).within)
        (cases_lt j (length m.nodes))

    potential_within : (k : ℕ) → k < length m.nodes + 1 → IsWithin flow_most («at» u k)
    potential_within zero here = rw pairs.ground (omega (arith, ints), omega (arith, ints))
    potential_within (suc i) here = let w = (pairs.read i (omega arith)).first_within in subst (λ k. IsWithin flow_most («at» u k)) (add-one i) w

    potential_fits : IsPotentialOf (grounded m) u
    potential_fits = record { numbers = record { one_each = pairs.potentials; within = potential_within }; ground = pairs.ground }

    alike_pairs : (v y : List ℤ) → ((k : ℕ) → k < length m.nodes + 1 → IsWithin flow_most («at» v k))
        → ((j : ℕ) → j < length m.nodes + length m.arcs → IsWithin flow_most («at» y j))
        → (own other : List ℕ) → IsAsLike (after (length m.nodes) rest) own other
        → IsAsLike rest (texts_below (length m.nodes) (potential_line s m u x) ++ own) (texts_below (length m.nodes) (potential_line s m v y) ++ other)
    alike_pairs v y v_within y_within own other on =
        alike_texts (length m.nodes) (potential_line s m u x) (potential_line s m v y)
        (λ i here. (
          whole_potential m formed s u x i here (pair_at i here).first_within (pair_at i here).second_within,
          whole_potential m formed s v y i here (v_within (i + 1) (omega arith)) (y_within i (omega arith)),
        ))
        rest (λ i here is. pair_read s m (line_at rest i) u x v y i (pair_at i here) (v_within (i + 1) (omega arith)) (y_within i (omega arith)) is)
        own other on

  optimal_like : (x u y v : List ℤ) (cost value price worth : ℤ) → IsOptimalRead m (after_line text) (optimal x u cost value)
      → Fits (grounded m) (optimal y v price worth) → IsAsLike text (certificate_text s m (optimal x u cost value)) (certificate_text s m (optimal y v price worth))
  optimal_like x u y v cost value price worth read fits =
      let whole = whole_head s (codes "optimal") refl in
      let rest = after 3 text in
      let y_within = flow_within y fits.0.0 in
      alike_by text _ _ _ _ (optimal_text s m x u cost value) (optimal_text s m y v price worth)
      (alike_line text (head_line s (codes "optimal")) (head_line s (codes "optimal")) (optimal_lines s m x u cost value) (optimal_lines s m y v price worth) whole whole
      (λ is. (
        refl,
        alike_line (after_line text) (number_line (cost_decimals s) (codes "cost") price) (number_line (cost_decimals s) (codes "cost") cost) _ _
            (whole_number (cost_decimals s) (codes "cost") price refl fits.1.0) (whole_number (cost_decimals s) (codes "cost") cost refl read.0.within)
            (λ is. (
              number_read (cost_decimals s) (codes "cost") (first_line (after_line text)) cost price read.0 fits.1.0 is,
              alike_line (after 2 text) (number_line (cost_decimals s) (codes "value") worth) (number_line (cost_decimals s) (codes "value") value)
                  (texts_below (length m.nodes) (potential_line s m u x) ++ (arc_lines s m x ++ [])) (texts_below (length m.nodes) (potential_line s m v y) ++ (arc_lines s m y ++ []))
                  (whole_number (cost_decimals s) (codes "value") worth refl fits.1.1) (whole_number (cost_decimals s) (codes "value") value refl read.1.within)
                  (λ is. (
                    number_read (cost_decimals s) (codes "value") (first_line (after 2 text)) value worth read.1 fits.1.1 is,
                    alike_pairs x u read.2.0 rest read.2.1 read.2.2 v y fits.0.1.numbers.within y_within (arc_lines s m x ++ []) (arc_lines s m y ++ [])
                        (alike_arcs (after (length m.nodes) rest) x y (flow_at x u read.2.0 rest read.2.1 read.2.2) y_within [] [] (λ k same. same)),
                  )),
            )),
      )))

  pub optimal_candidate : (c : Certificate) → first_line text ≢ head_line s (codes "cut") → first_line text ≢ head_line s (codes "circuit")
      → IsOptimalRead m (after_line text) c → IsCandidate s m text c
  unfolding head_of
  optimal_candidate (cut side capacity) no_cut no_circuit read = elim read [ ]
  optimal_candidate (circuit x walk span) no_cut no_circuit read = elim read [ ]
  optimal_candidate (optimal x u cost value) no_cut no_circuit read = record {
    fits = (
      (
        flows_fit x (plan_length x u read.2.0 (after 3 text) read.2.1 read.2.2) (plan_within x u read.2.0 (after 3 text) read.2.1 read.2.2),
        potential_fits x u read.2.0 (after 3 text) read.2.1 read.2.2,
      ),
      (read.0.within, read.1.within),
    );
    like = like;
  }
    where
      like : (d : Certificate) → Fits (grounded m) d → IsAsLike text (certificate_text s m (optimal x u cost value)) (certificate_text s m d)
      like (optimal y v price worth) fits = optimal_like x u y v cost value price worth read fits
      like (cut other limit) fits = other_kind s m text (certificate_text s m (optimal x u cost value)) (cut other limit) no_cut
      like (circuit y walk span) fits = other_kind s m text (certificate_text s m (optimal x u cost value)) (circuit y walk span) no_circuit

  -- ---- circuits

  all_at : (x : List ℤ) (rest : List ℕ) → AreFlowsRead rest (length m.nodes + length m.arcs) [] x
      → (j : ℕ) → j < length m.nodes + length m.arcs → IsLastNumber flow_most (line_at rest j) («at» x j)
  all_at x rest flows j here = subst (λ k. IsLastNumber flow_most (line_at rest j) («at» x k)) (zero-add j) (flows.read j here)

  circuit_like : (x y : List ℤ) (walk other : List Step) (span bound : ℤ) → IsCircuitRead m (after_line text) (circuit x walk span)
      → Fits (grounded m) (circuit y other bound) → IsAsLike text (certificate_text s m (circuit x walk span)) (certificate_text s m (circuit y other bound))
  circuit_like x y walk other span bound read fits =
      let whole = whole_head s (codes "circuit") refl in
      let rest = after 2 text in
      let y_within = flow_within y fits.0.0 in
      let flow_at = all_at x rest read.1 in
      let behind : after (length m.nodes + length m.arcs) rest ≡ after (length m.arcs) (after (length m.nodes) rest) =
      ap (λ n. after n rest) (add_comm (length m.nodes) (length m.arcs)) ∙ sym (after-after (length m.arcs) (length m.nodes) rest) in
      let steps = subst (λ l. AreStepsRead m l walk) behind read.2 in
      alike_by text _ _ _ _ (circuit_text s m x walk span) (circuit_text s m y other bound)
      (alike_line text (head_line s (codes "circuit")) (head_line s (codes "circuit")) (circuit_lines s m x walk span) (circuit_lines s m y other bound) whole whole
      (λ is. (
        refl,
        alike_line (after_line text) (number_line s.tension (codes "span") bound) (number_line s.tension (codes "span") span)
            (supply_lines s m x ++ (arc_lines s m x ++ flat_map (step_line m) walk)) (supply_lines s m y ++ (arc_lines s m y ++ flat_map (step_line m) other))
            (whole_number s.tension (codes "span") bound refl fits.1) (whole_number s.tension (codes "span") span refl read.0.within)
            (λ is. (
              number_read s.tension (codes "span") (first_line (after_line text)) span bound read.0 fits.1 is,
              alike_supplies rest x y (λ j here. flow_at j (omega arith)) y_within
                  (arc_lines s m x ++ flat_map (step_line m) walk) (arc_lines s m y ++ flat_map (step_line m) other)
                  (alike_arcs (after (length m.nodes) rest) x y
                  (λ j here. subst (λ l. IsLastNumber flow_most (first_line l) («at» x (length m.nodes + j)))
                  (ap (λ n. after n rest) (add_comm (length m.nodes) j) ∙ sym (after-after j (length m.nodes) rest)) (flow_at (length m.nodes + j) (omega arith)))
                  y_within (flat_map (step_line m) walk) (flat_map (step_line m) other)
                  (alike_steps m formed walk other (after (length m.arcs) (after (length m.nodes) rest)) steps.read steps.ended
                  (λ k here. omega (arith, fits.0.1.there k here, length-grounded_arcs m)))),
            )),
      )))

  pub circuit_candidate : (c : Certificate) → first_line text ≡ head_line s (codes "circuit") → IsCircuitRead m (after_line text) c → IsCandidate s m text c
  unfolding head_of
  circuit_candidate (optimal x u cost value) head read = elim read [ ]
  circuit_candidate (cut side capacity) head read = elim read [ ]
  circuit_candidate (circuit x walk span) head read = record {
    fits = ((flows_fit x (omega (arith, read.1.one_each)) (λ j here. (all_at x (after 2 text) read.1 j here).within), record { there = λ k here. omega (arith, (read.2.read k here).there, length-grounded_arcs m); short = read.2.short }), read.0.within);
    like = like;
  }
    where
      like : (d : Certificate) → Fits (grounded m) d → IsAsLike text (certificate_text s m (circuit x walk span)) (certificate_text s m d)
      like (circuit y other bound) fits = circuit_like x y walk other span bound read fits
      like (optimal y v price worth) fits =
          other_kind s m text (certificate_text s m (circuit x walk span)) (optimal y v price worth)
          (λ same. heads_apart (head_line s (codes "circuit")) (head_line s (codes "optimal")) (no_matter _) (sym head ∙ same))
      like (cut other limit) fits =
          other_kind s m text (certificate_text s m (circuit x walk span)) (cut other limit)
          (λ same. heads_apart (head_line s (codes "circuit")) (head_line s (codes "cut")) (no_matter _) (sym head ∙ same))

-- what holds of an answer if it is one
pub if_ok : {T E : Type 0} (r : Result T E) (P Q : T → Type 0) → ((t : T) → P t → Q t) → IfOk r P → IfOk r Q
if_ok (Ok t) P Q turn holds = turn t holds
if_ok (Err e) P Q turn holds = tt
