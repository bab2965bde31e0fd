-- A text has at most one certificate. Heads of two kinds differ, so two certificates with one text are of one kind. Then their
-- texts, without the head, are the same line after line, since each line is whole; so the numbers that a line ends with are the
-- same in both, and each mark and each step. Lists of one length are the same where they are at each place: of the potentials
-- the ground's is 0 in both and each other stands in its node's line, of the flows the first stand in the lines of the nodes and
-- the others in those of the arcs.
use Rattle.std.proofs.Common.{◌≡◌, ℕ, zero, suc, ◌+◌, ◌-◌, ◌<◌, ◌≤◌, Bool, false, List, [], ◌++◌, length, refl, sym, ap, subst, ◌∙◌, arith, add-one, ⊎_elim}
use Rattle.std.specs.Prelude.{ℤ, pos, codes}
use Rattle.std.specs.List.{flat_map}
use Rattle.std.proofs.lemmas.Bool.{cases_lt}
use Rattle.std.proofs.lemmas.List.{append_cancel_left, ext_get_or}
use Rattle.theory.specs.declared.network.Step.{Step}
use Rattle.theory.specs.Network.{«at»}
use Rattle.theory.specs.Grounded.{Entries, grounded}
use Rattle.theory.specs.Certificate.{Certificate, Fits, AreNumbers, IsPotentialOf}
use Rattle.theory.specs.Certificate.Certificate.{optimal, cut, circuit}
use Rattle.theory.proofs.GroundedLaw.{length-grounded_arcs}
use Rattle.model_text.specs.Model.{IsWellFormed}
use Rattle.model_text.specs.Scale.{cost_decimals}
use Rattle.model_text.specs.declared.scale.Scale.{Scale}
use Rattle.cert_text.specs.BadLine.{IsTextOf}
use Rattle.cert_text.specs.CertificateText.{certificate_text, texts_below, head_line, number_line, potential_line, flow_line, side_line, step_line, supply_lines, arc_lines}
use Rattle.cert_text.specs.Candidate.{first_line}
use Rattle.cert_text.proofs.ByKind.{optimal_lines, cut_lines, circuit_lines, optimal_text, cut_text, circuit_text, head_of, head_is, flow_within}
use Rattle.cert_text.proofs.OneText.{line_is, texts_are, cost_is, flow_is, pair_is, walk_is, sides_are}
use Rattle.cert_text.proofs.Wholes.{whole_number, whole_potential, whole_flow, no_matter, heads_apart}

module _ (s : Scale) (m : Entries) (formed : IsWellFormed m) where
  -- flows that agree at the nodes' arcs and at the model's arcs
  flows_are : (x y : List ℤ) → AreNumbers (length (grounded m).arcs) x → AreNumbers (length (grounded m).arcs) y
      → ((j : ℕ) → j < length m.nodes → «at» x j ≡ «at» y j) → ((k : ℕ) → k < length m.arcs → «at» x (length m.nodes + k) ≡ «at» y (length m.nodes + k)) → x ≡ y
  flows_are x y x_fits y_fits front back =
      ext_get_or (pos 0) x y (x_fits.one_each ∙ sym y_fits.one_each)
      (λ j here.
      ⊎_elim (λ (below : j < length m.nodes). front j below)
      (λ (above : length m.nodes ≤ j).
      let same : length m.nodes + (j - length m.nodes) ≡ j = omega arith in
      subst (λ k. «at» x k ≡ «at» y k) same (back (j - length m.nodes) (omega (arith, x_fits.one_each, length-grounded_arcs m))))
      (cases_lt j (length m.nodes)))

  potentials_are : (u v : List ℤ) → IsPotentialOf (grounded m) u → IsPotentialOf (grounded m) v
      → ((i : ℕ) → i < length m.nodes → «at» u (i + 1) ≡ «at» v (i + 1)) → u ≡ v
  potentials_are u v u_fits v_fits each = ext_get_or (pos 0) u v (u_fits.numbers.one_each ∙ sym v_fits.numbers.one_each) by
    where
      by : (i : ℕ) → i < length u → «at» u i ≡ «at» v i
      by zero here = u_fits.ground ∙ sym v_fits.ground
      by (suc i) here = subst (λ k. «at» u k ≡ «at» v k) (add-one i) (each i (omega (arith, u_fits.numbers.one_each)))

  optimal_is : (x u y v : List ℤ) (cost value price worth : ℤ) → Fits (grounded m) (optimal x u cost value) → Fits (grounded m) (optimal y v price worth)
      → certificate_text s m (optimal x u cost value) ≡ certificate_text s m (optimal y v price worth) → optimal x u cost value ≡ optimal y v price worth
  optimal_is x u y v cost value price worth fits also same =
      let x_within = flow_within s m formed [] x fits.0.0 in
      let y_within = flow_within s m formed [] y also.0.0 in
      let lines = append_cancel_left (head_line s (codes "optimal")) (optimal_lines s m x u cost value) (optimal_lines s m y v price worth)
      (sym (optimal_text s m x u cost value) ∙ same ∙ optimal_text s m y v price worth) in
      let first = line_is (number_line (cost_decimals s) (codes "cost") cost) (number_line (cost_decimals s) (codes "cost") price)
      (number_line (cost_decimals s) (codes "value") value ++ (texts_below (length m.nodes) (potential_line s m u x) ++ (arc_lines s m x ++ [])))
      (number_line (cost_decimals s) (codes "value") worth ++ (texts_below (length m.nodes) (potential_line s m v y) ++ (arc_lines s m y ++ [])))
      (whole_number (cost_decimals s) (codes "cost") cost refl fits.1.0) (whole_number (cost_decimals s) (codes "cost") price refl also.1.0) lines in
      let second = line_is (number_line (cost_decimals s) (codes "value") value) (number_line (cost_decimals s) (codes "value") worth)
      (texts_below (length m.nodes) (potential_line s m u x) ++ (arc_lines s m x ++ [])) (texts_below (length m.nodes) (potential_line s m v y) ++ (arc_lines s m y ++ []))
      (whole_number (cost_decimals s) (codes "value") value refl fits.1.1) (whole_number (cost_decimals s) (codes "value") worth refl also.1.1) first.1 in
      let pairs = texts_are (length m.nodes) (potential_line s m u x) (potential_line s m v y)
      (λ i here. (
        whole_potential m formed s u x i here (fits.0.1.numbers.within (i + 1) (omega arith)) (x_within i (omega arith)),
        whole_potential m formed s v y i here (also.0.1.numbers.within (i + 1) (omega arith)) (y_within i (omega arith)),
      ))
      (arc_lines s m x ++ []) (arc_lines s m y ++ []) second.1 in
      let arcs = texts_are (length m.arcs) (λ k. flow_line s m x (length m.nodes + k)) (λ k. flow_line s m y (length m.nodes + k))
      (λ k here. (
        whole_flow m formed s x (length m.nodes + k) (omega arith) (x_within (length m.nodes + k) (omega arith)),
        whole_flow m formed s y (length m.nodes + k) (omega arith) (y_within (length m.nodes + k) (omega arith)),
      ))
      [] [] pairs.1 in
      let pair_at = λ (i : ℕ) (here : i < length m.nodes). pair_is s m u x v y i (fits.0.1.numbers.within (i + 1) (omega arith)) (x_within i (omega arith))
      (also.0.1.numbers.within (i + 1) (omega arith)) (y_within i (omega arith)) (pairs.0 i here) in
      let flows : x ≡ y = flows_are x y fits.0.0 also.0.0 (λ i here. (pair_at i here).1)
      (λ k here. flow_is s m x y (length m.nodes + k) (x_within (length m.nodes + k) (omega arith)) (y_within (length m.nodes + k) (omega arith)) (arcs.0 k here)) in
      let potentials : u ≡ v = potentials_are u v fits.0.1 also.0.1 (λ i here. (pair_at i here).0) in
      let costs : cost ≡ price = cost_is (cost_decimals s) (codes "cost") cost price fits.1.0 also.1.0 first.0 in
      let values : value ≡ worth = cost_is (cost_decimals s) (codes "value") value worth fits.1.1 also.1.1 second.0 in
      ap (λ l. optimal l u cost value) flows ∙ ap (λ l. optimal y l cost value) potentials ∙ ap (λ z. optimal y v z value) costs ∙ ap (optimal y v price) values

  cut_is : (side other : List Bool) (capacity limit : ℤ) → Fits (grounded m) (cut side capacity) → Fits (grounded m) (cut other limit)
      → certificate_text s m (cut side capacity) ≡ certificate_text s m (cut other limit) → cut side capacity ≡ cut other limit
  cut_is side other capacity limit fits also same =
      let lines = append_cancel_left (head_line s (codes "cut")) (cut_lines s m side capacity) (cut_lines s m other limit)
      (sym (cut_text s m side capacity) ∙ same ∙ cut_text s m other limit) in
      let first = line_is (number_line s.flow (codes "capacity") capacity) (number_line s.flow (codes "capacity") limit)
      (texts_below (length m.nodes + 1) (side_line m side) ++ []) (texts_below (length m.nodes + 1) (side_line m other) ++ [])
      (whole_number s.flow (codes "capacity") capacity refl fits.1) (whole_number s.flow (codes "capacity") limit refl also.1) lines in
      let marks = sides_are m formed side other (length m.nodes + 1) (omega arith) [] [] (λ i here e. cc) (λ i here e. cc) first.1 in
      let sides : side ≡ other = ext_get_or false side other (fits.0 ∙ sym also.0) (λ i here. marks.0 i (omega (arith, fits.0))) in
      let numbers : capacity ≡ limit = cost_is s.flow (codes "capacity") capacity limit fits.1 also.1 first.0 in
      ap (λ l. cut l capacity) sides ∙ ap (cut other) numbers

  circuit_is : (x y : List ℤ) (walk other : List Step) (span bound : ℤ) → Fits (grounded m) (circuit x walk span) → Fits (grounded m) (circuit y other bound)
      → certificate_text s m (circuit x walk span) ≡ certificate_text s m (circuit y other bound) → circuit x walk span ≡ circuit y other bound
  circuit_is x y walk other span bound fits also same =
      let x_within = flow_within s m formed [] x fits.0.0 in
      let y_within = flow_within s m formed [] y also.0.0 in
      let lines = append_cancel_left (head_line s (codes "circuit")) (circuit_lines s m x walk span) (circuit_lines s m y other bound)
      (sym (circuit_text s m x walk span) ∙ same ∙ circuit_text s m y other bound) in
      let first = line_is (number_line s.tension (codes "span") span) (number_line s.tension (codes "span") bound)
      (supply_lines s m x ++ (arc_lines s m x ++ flat_map (step_line m) walk)) (supply_lines s m y ++ (arc_lines s m y ++ flat_map (step_line m) other))
      (whole_number s.tension (codes "span") span refl fits.1) (whole_number s.tension (codes "span") bound refl also.1) lines in
      let supplies = texts_are (length m.nodes) (flow_line s m x) (flow_line s m y)
      (λ j here. (whole_flow m formed s x j (omega arith) (x_within j (omega arith)), whole_flow m formed s y j (omega arith) (y_within j (omega arith))))
      (arc_lines s m x ++ flat_map (step_line m) walk) (arc_lines s m y ++ flat_map (step_line m) other) first.1 in
      let arcs = texts_are (length m.arcs) (λ k. flow_line s m x (length m.nodes + k)) (λ k. flow_line s m y (length m.nodes + k))
      (λ k here. (
        whole_flow m formed s x (length m.nodes + k) (omega arith) (x_within (length m.nodes + k) (omega arith)),
        whole_flow m formed s y (length m.nodes + k) (omega arith) (y_within (length m.nodes + k) (omega arith)),
      ))
      (flat_map (step_line m) walk) (flat_map (step_line m) other) supplies.1 in
      let flows : x ≡ y = flows_are x y fits.0.0 also.0.0
      (λ j here. flow_is s m x y j (x_within j (omega arith)) (y_within j (omega arith)) (supplies.0 j here))
      (λ k here. flow_is s m x y (length m.nodes + k) (x_within (length m.nodes + k) (omega arith)) (y_within (length m.nodes + k) (omega arith)) (arcs.0 k here)) in
      let steps : walk ≡ other = walk_is m formed walk other (λ k here. omega (arith, fits.0.1.there k here, length-grounded_arcs m))
      (λ k here. omega (arith, also.0.1.there k here, length-grounded_arcs m)) arcs.1 in
      let numbers : span ≡ bound = cost_is s.tension (codes "span") span bound fits.1 also.1 first.0 in
      ap (λ l. circuit l walk span) flows ∙ ap (λ l. circuit y l span) steps ∙ ap (circuit y other) numbers

  by_kind : (c d : Certificate) → Fits (grounded m) c → Fits (grounded m) d → certificate_text s m c ≡ certificate_text s m d → head_of s c ≡ head_of s d → c ≡ d
  unfolding head_of
  by_kind (optimal x u cost value) (optimal y v price worth) fits also same head = optimal_is x u y v cost value price worth fits also same
  by_kind (cut side capacity) (cut other limit) fits also same head = cut_is side other capacity limit fits also same
  by_kind (circuit x walk span) (circuit y other bound) fits also same head = circuit_is x y walk other span bound fits also same
  by_kind (optimal x u cost value) (cut other limit) fits also same head = absurd (heads_apart (head_line s (codes "optimal")) (head_line s (codes "cut")) (no_matter _) head)
  by_kind (optimal x u cost value) (circuit y other bound) fits also same head = absurd (heads_apart (head_line s (codes "optimal")) (head_line s (codes "circuit")) (no_matter _) head)
  by_kind (cut side capacity) (optimal y v price worth) fits also same head = absurd (heads_apart (head_line s (codes "cut")) (head_line s (codes "optimal")) (no_matter _) head)
  by_kind (cut side capacity) (circuit y other bound) fits also same head = absurd (heads_apart (head_line s (codes "cut")) (head_line s (codes "circuit")) (no_matter _) head)
  by_kind (circuit x walk span) (optimal y v price worth) fits also same head = absurd (heads_apart (head_line s (codes "circuit")) (head_line s (codes "optimal")) (no_matter _) head)
  by_kind (circuit x walk span) (cut other limit) fits also same head = absurd (heads_apart (head_line s (codes "circuit")) (head_line s (codes "cut")) (no_matter _) head)

pub one_certificate : (s : Scale) (m : Entries) (text : List ℕ) (c d : Certificate) → IsWellFormed m → IsTextOf s m text c → IsTextOf s m text d → c ≡ d
one_certificate s m text c d formed is also =
    let same = is.spelled ∙ sym also.spelled in
    by_kind s m formed c d is.fits also.fits same (sym (head_is s m c) ∙ ap first_line same ∙ head_is s m d)
