-- What is read from the ends of the lines is the certificate of the text as far as there is one. A line that some
-- certificate has at a place says its number, mark or step, and so the certificate that was read has the same line there.
use Rattle.std.proofs.Common.{◌≡◌, ◌≢◌, ℕ, zero, suc, ◌+◌, ◌<◌, ◌≤◌, Bool, true, false, if◌then◌else◌, List, [], ◌∷◌, ◌++◌, length, refl, sym, ap, subst, ◌∙◌, arith, append_assoc}
use Rattle.std.proofs.lemmas.Bool.{both_ways}
use Rattle.std.specs.Cmp.Lexicographic.{bytes_decides}
use Rattle.std.specs.Prelude.{ℤ, codes}
use Rattle.std.specs.List.{flat_map}
use Rattle.theory.specs.declared.network.Step.{Step}
use Rattle.theory.specs.Network.{«at»}
use Rattle.theory.specs.Circuit.{step}
use Rattle.theory.specs.Cut.{holds}
use Rattle.theory.specs.Grounded.{Entries, arc_name, node_name}
use Rattle.theory.specs.Limits.{IsWithin, flow_most, sum_most}
use Rattle.model_text.specs.Model.{IsWellFormed}
use Rattle.model_text.specs.declared.scale.Scale.{Scale}
use Rattle.model_text.specs.Printed.{printed_fixed, printed_line}
use Rattle.cert_text.specs.CertificateText.{texts_below, number_line, potential_line, flow_line, node_line, side_line, step_line}
use Rattle.cert_text.specs.Candidate.{first_line, after_line, line_at, left_at, takes, IsAsLike, IsLastNumber, AreLastNumbers, IsStepRead, IsNoStep}
use Rattle.cert_text.proofs.LineEnds.{after-shift}
use Rattle.cert_text.proofs.PieceLaws.{alike_apart, alike_line, first-whole}
use Rattle.cert_text.proofs.Wholes.{whole_node, whole_step, mark_apart, number_words, flow_words, potential_words}

-- ---- lines with one number

pub number_read : (decimals : ℕ) (keyword line : List ℕ) (z y : ℤ) → IsLastNumber sum_most line z → IsWithin sum_most y → line ≡ number_line decimals keyword y
    → number_line decimals keyword z ≡ number_line decimals keyword y
number_read decimals keyword line z y read within is = ap (number_line decimals keyword) (read.found decimals keyword y within (is ∙ number_words decimals keyword y))

pub flow_read : (s : Scale) (m : Entries) (line : List ℕ) (x y : List ℤ) (j : ℕ) → IsLastNumber flow_most line («at» x j) → IsWithin flow_most («at» y j)
    → line ≡ flow_line s m y j → flow_line s m x j ≡ flow_line s m y j
flow_read s m line x y j read within is =
    let line_of : ℤ → List ℕ = λ z. printed_line (arc_name m j) (printed_fixed s.flow z ∷ []) in
    ap line_of (read.found s.flow (arc_name m j) («at» y j) within (is ∙ flow_words s m y j))

pub pair_read : (s : Scale) (m : Entries) (line : List ℕ) (u x v y : List ℤ) (i : ℕ) → AreLastNumbers line («at» u (i + 1)) («at» x i)
    → IsWithin flow_most («at» v (i + 1)) → IsWithin flow_most («at» y i) → line ≡ potential_line s m v y i → potential_line s m u x i ≡ potential_line s m v y i
pair_read s m line u x v y i read v_within y_within is =
    let line_of : ℤ → ℤ → List ℕ = λ w z. printed_line (codes "node") (node_name m (i + 1) ∷ printed_fixed s.tension w ∷ printed_fixed s.flow z ∷ []) in
    let same = read.found s.tension s.flow (codes "node" ++ 32 ∷ node_name m (i + 1)) («at» v (i + 1)) («at» y i) v_within y_within (is ∙ potential_words s m v y i) in
    ap (λ w. line_of w («at» x i)) same.0 ∙ ap (line_of («at» v (i + 1))) same.1

module _ (m : Entries) (formed : IsWellFormed m) where
  -- ---- sides

  -- node n takes its line or not, and the other side holds it or not
  side_cases : (text : List ℕ) (n : ℕ) → n < length m.nodes + 1 → (a b : Bool) → takes m text n ≡ a → (own rest : List ℕ)
      → first_line rest ≢ node_line m n → IsAsLike (if a then after_line (left_at m text n) else left_at m text n) own rest
      → IsAsLike (left_at m text n) ((if a then node_line m n else []) ++ own) ((if b then node_line m n else []) ++ rest)
  side_cases text n here true true test own rest apart on =
      let whole = whole_node m formed n here in
      alike_line (left_at m text n) (node_line m n) (node_line m n) own rest whole whole (λ is. (refl, on))
  side_cases text n here true false test own rest apart on =
      alike_apart (left_at m text n) (node_line m n ++ own) rest
      (λ same. apart (sym same ∙ (bytes_decides (first_line (left_at m text n)) (node_line m n)).0 test))
  side_cases text n here false true test own rest apart on =
      alike_apart (left_at m text n) own (node_line m n ++ rest)
      (λ same. both_ways (takes m text n) test
      ((bytes_decides (first_line (left_at m text n)) (node_line m n)).1 (same ∙ first-whole (node_line m n) rest (whole_node m formed n here))))
  side_cases text n here false false test own rest apart on = on

  pub alike_sides : (text : List ℕ) (side other : List Bool) (n : ℕ) → n ≤ length m.nodes + 1 → ((i : ℕ) → i < n → holds side i ≡ takes m text i)
      → (own rest : List ℕ) → ((i : ℕ) → i < n → first_line rest ≢ node_line m i) → IsAsLike (left_at m text n) own rest
      → IsAsLike text (texts_below n (side_line m side) ++ own) (texts_below n (side_line m other) ++ rest)
  alike_sides text side other zero most read own rest apart on = on
  alike_sides text side other (suc n) most read own rest apart on =
      let here = side_cases text n (omega arith) (takes m text n) (holds other n) refl own rest (apart n (omega arith)) on in
      let further = mark_apart m formed n (omega arith) rest apart (holds other n) in
      let mine : (if takes m text n then node_line m n else []) ≡ side_line m side n = ap (λ b. if b then node_line m n else []) (sym (read n (omega arith))) in
      rw (append_assoc (texts_below n (side_line m side)) (side_line m side n) own, append_assoc (texts_below n (side_line m other)) (side_line m other n) rest)
      (alike_sides text side other n (omega arith) (λ i below. read i (omega arith)) (side_line m side n ++ own) (side_line m other n ++ rest) further
      (subst (λ l. IsAsLike (left_at m text n) (l ++ own) (side_line m other n ++ rest)) mine here))

  -- ---- steps

  pub alike_steps : (walk other : List Step) (text : List ℕ) → ((k : ℕ) → k < length walk → IsStepRead m (line_at text k) (step walk k))
      → IsNoStep m (line_at text (length walk)) → ((k : ℕ) → k < length other → (step other k).arc.0 < length m.nodes + length m.arcs)
      → IsAsLike text (flat_map (step_line m) walk) (flat_map (step_line m) other)
  alike_steps [] [] text read ended there = λ k same. same
  alike_steps [] (t ∷ other) text read ended there =
      alike_apart text [] (flat_map (step_line m) (t ∷ other))
      (λ same. ended t (there 0 (omega arith)) (same ∙ first-whole (step_line m t) (flat_map (step_line m) other) (whole_step m formed t (there 0 (omega arith)))))
  alike_steps (s ∷ walk) [] text read ended there =
      alike_apart text (flat_map (step_line m) (s ∷ walk)) [] (λ same. (read 0 (omega arith)).some same)
  alike_steps (s ∷ walk) (t ∷ other) text read ended there =
      alike_line text (step_line m t) (step_line m s) (flat_map (step_line m) walk) (flat_map (step_line m) other)
      (whole_step m formed t (there 0 (omega arith))) (whole_step m formed s (read 0 (omega arith)).there)
      (λ is. (
        ap (step_line m) ((read 0 (omega arith)).found t (there 0 (omega arith)) is),
        alike_steps walk other (after_line text)
            (λ k here. subst (λ l. IsStepRead m (first_line l) (step walk k)) (sym (after-shift k text)) (read (suc k) (omega arith)))
            (subst (λ l. IsNoStep m (first_line l)) (sym (after-shift (length walk) text)) ended)
            (λ k here. there (suc k) (omega arith)),
      ))
