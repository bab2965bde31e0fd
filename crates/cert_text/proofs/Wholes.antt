-- The lines of a certificate. A line is whole if LF stands at its end and nowhere before. Keywords, names and printed numbers
-- have no byte as low as LF, so what is printed of them with spaces between is whole. Lines of two nodes differ, since names of
-- nodes do and none is `*`, as the ground is called. So a text that begins with no line of the nodes up to n still begins with
-- no line of those below n once node n's mark stands in front of it, whether that mark is a line or nothing. The numbers of a
-- line stand at its end, each behind a space: what is in front of them is the keyword, the node or the arc.
use Rattle.std.proofs.Common.{◌≡◌, ◌≢◌, ℕ, zero, suc, ◌+◌, ◌^◌, ◌<◌, nat_lt, Bool, true, false, ◌&&◌, bytes_eq, List, [], ◌∷◌, ◌++◌, length, refl, sym, ap, subst, ◌∙◌, arith, lit<, append-nil, append_assoc, if◌then◌else◌}
use Rattle.std.specs.Prelude.{ℤ, codes}
use Rattle.std.specs.List.{list_all}
use Rattle.std.specs.Cmp.Lexicographic.{bytes_decides}
use Rattle.std.proofs.lemmas.Bool.{and_from, both_ways}
use Rattle.std.proofs.lemmas.Bool.Decides.{nat_tests}
use Rattle.std.proofs.lemmas.List.{append_cancel_left, append_cancel_right, length-map}
use Rattle.std.proofs.lemmas.List.Folds.{list_all-append}
use Rattle.theory.specs.declared.network.Step.{Step}
use Rattle.theory.specs.Network.{«at»}
use Rattle.theory.specs.Grounded.{Entries, NodeEntry, arc_name, node_name}
use Rattle.theory.specs.Limits.{IsWithin, flow_most, sum_most}
use Rattle.model_text.specs.Model.{IsWellFormed, node_at}
use Rattle.model_text.specs.declared.scale.Scale.{Scale}
use Rattle.model_text.specs.ModelText.{digit_word}
use Rattle.model_text.specs.Names.{is_name}
use Rattle.model_text.specs.Printed.{printed_line, printed_fixed, spaced}
use Rattle.cert_text.specs.CertificateText.{head_line, number_line, potential_line, flow_line, node_line, step_line}
use Rattle.cert_text.specs.Candidate.{first_line}
use Rattle.cert_text.proofs.PieceLaws.{IsWhole, whole, first-whole}
use Rattle.cert_text.proofs.Plain.{no_feed, plain_number}
use Rattle.cert_text.proofs.StepLines.{arc_name_is, kind_of, name_of, kind_plain, name_of_plain, node_at_name, node_name_plain}

-- ---- lines that are whole

abbrev HasNoFeed : List ℕ → Type 0
HasNoFeed bytes = list_all (nat_lt 10) bytes ≡ true

abbrev HaveNoFeed : List (List ℕ) → Type 0
HaveNoFeed [] = Unit {0}
HaveNoFeed (word ∷ words) = HasNoFeed word × HaveNoFeed words

joined : (a b : List ℕ) → HasNoFeed a → HasNoFeed b → HasNoFeed (a ++ b)
joined a b p q = list_all-append (nat_lt 10) a b ∙ and_from _ _ p q

all_spaced : (words : List (List ℕ)) → HaveNoFeed words → HasNoFeed (spaced words)
all_spaced [] none = refl
all_spaced (word ∷ words) each = joined (32 ∷ word) (spaced words) each.0 (all_spaced words each.1)

whole_line : (keyword : List ℕ) (words : List (List ℕ)) → HasNoFeed keyword → HaveNoFeed words → IsWhole (printed_line keyword words)
whole_line keyword words key each = whole (keyword ++ spaced words) (joined keyword (spaced words) key (all_spaced words each))

digit_feed : (digit : ℕ) → HasNoFeed (digit_word digit)
digit_feed digit = let above : nat_lt 10 (48 + digit) ≡ true = grind (arith, nat_tests) in rw above refl

pub whole_head : (s : Scale) (kind : List ℕ) → list_all (nat_lt 10) kind ≡ true → IsWhole (head_line s kind)
whole_head s kind plain = whole_line (codes "certificate") (digit_word s.version ∷ kind ∷ []) refl (digit_feed s.version, (plain, tt))

number_feed : (decimals most : ℕ) (z : ℤ) → most < 10 ^ 64 → IsWithin most z → HasNoFeed (printed_fixed decimals z)
number_feed decimals most z small within = no_feed (printed_fixed decimals z) (plain_number decimals z most within small)

pub whole_number : (decimals : ℕ) (keyword : List ℕ) (z : ℤ) → list_all (nat_lt 10) keyword ≡ true → IsWithin sum_most z → IsWhole (number_line decimals keyword z)
whole_number decimals keyword z plain within = whole_line keyword (printed_fixed decimals z ∷ []) plain (number_feed decimals sum_most z (lit< tt) within, tt)

module _ (m : Entries) (formed : IsWellFormed m) where
  node_feed : (i : ℕ) → i < length m.nodes + 1 → HasNoFeed (node_name m i)
  node_feed zero here = refl
  node_feed (suc i) here = no_feed (node_at m i).name (node_name_plain m formed i (omega arith))

  arc_feed : (j : ℕ) → j < length m.nodes + length m.arcs → HasNoFeed (arc_name m j)
  arc_feed j here =
      subst HasNoFeed (sym (arc_name_is m j))
      (joined (kind_of m j) (32 ∷ name_of m j) (no_feed (kind_of m j) (kind_plain m j)) (no_feed (name_of m j) (name_of_plain m formed j here)))

  pub whole_potential : (s : Scale) (u x : List ℤ) (i : ℕ) → i < length m.nodes → IsWithin flow_most («at» u (i + 1)) → IsWithin flow_most («at» x i)
      → IsWhole (potential_line s m u x i)
  whole_potential s u x i here u_within x_within =
      whole_line (codes "node") (node_name m (i + 1) ∷ printed_fixed s.tension («at» u (i + 1)) ∷ printed_fixed s.flow («at» x i) ∷ []) refl
      (node_feed (i + 1) (omega arith), (number_feed s.tension flow_most («at» u (i + 1)) (lit< tt) u_within, (number_feed s.flow flow_most («at» x i) (lit< tt) x_within, tt)))

  pub whole_flow : (s : Scale) (x : List ℤ) (j : ℕ) → j < length m.nodes + length m.arcs → IsWithin flow_most («at» x j) → IsWhole (flow_line s m x j)
  whole_flow s x j here within =
      whole_line (arc_name m j) (printed_fixed s.flow («at» x j) ∷ []) (arc_feed j here) (number_feed s.flow flow_most («at» x j) (lit< tt) within, tt)

  pub whole_node : (i : ℕ) → i < length m.nodes + 1 → IsWhole (node_line m i)
  whole_node i here = whole_line (codes "side") (node_name m i ∷ []) refl (node_feed i here, tt)

  pub whole_step : (t : Step) → t.arc.0 < length m.nodes + length m.arcs → IsWhole (step_line m t)
  whole_step t there = whole_line (codes "step") ((if t.forward then codes "+" else codes "-") ∷ arc_name m t.arc.0 ∷ []) refl (sign t.forward, (arc_feed t.arc.0 there, tt))
    where
      sign : (b : Bool) → HasNoFeed (if b then codes "+" else codes "-")
      sign true = refl
      sign false = refl

  -- ---- lines of two nodes differ

  ground_apart : (i : ℕ) → i < length m.nodes → (node_at m i).name ≢ codes "*"
  ground_apart i here same =
      let named = formed.nodes_named.each i [] (omega (arith, length-map m.nodes (λ (node : NodeEntry). node.name))) in
      both_ways (is_name (codes "*")) refl (ap is_name (sym (node_at_name m formed i here ∙ same)) ∙ named)

  names_apart : (i k : ℕ) → i < k → k < length m.nodes + 1 → node_name m i ≢ node_name m k
  names_apart zero (suc k) less here same = ground_apart k (omega arith) (sym same)
  names_apart (suc i) (suc k) less here same =
      formed.nodes_named.differ i k [] (omega arith) (omega (arith, length-map m.nodes (λ (node : NodeEntry). node.name)))
      (node_at_name m formed i (omega arith) ∙ same ∙ sym (node_at_name m formed k (omega arith)))
  names_apart i zero less here same = absurd (omega arith)

  pub nodes_apart : (i k : ℕ) → i < k → k < length m.nodes + 1 → node_line m i ≢ node_line m k
  nodes_apart i k less here same =
      let ended = append_cancel_left (codes "side ") (node_name m i ++ [] ++ 10 ∷ []) (node_name m k ++ [] ++ 10 ∷ []) same in
      names_apart i k less here (sym (append-nil (node_name m i)) ∙ append_cancel_right (node_name m i ++ []) (node_name m k ++ []) (10 ∷ []) ended ∙ append-nil (node_name m k))

  -- where the text of node n's mark and what stands behind it begins with no earlier node's line
  pub mark_apart : (n : ℕ) → n < length m.nodes + 1 → (rest : List ℕ) → ((i : ℕ) → i < suc n → first_line rest ≢ node_line m i)
      → (b : Bool) (i : ℕ) → i < n → first_line ((if b then node_line m n else []) ++ rest) ≢ node_line m i
  mark_apart n here rest apart true i below same =
      nodes_apart i n below here (sym (sym (first-whole (node_line m n) rest (whole_node n here)) ∙ same))
  mark_apart n here rest apart false i below same = apart i (omega arith) same

-- ---- words at the end of a line

pub number_words : (decimals : ℕ) (keyword : List ℕ) (z : ℤ) → number_line decimals keyword z ≡ keyword ++ 32 ∷ printed_fixed decimals z ++ 10 ∷ []
number_words decimals keyword z = rw (append-nil (printed_fixed decimals z)) refl

pub flow_words : (s : Scale) (m : Entries) (x : List ℤ) (j : ℕ) → flow_line s m x j ≡ arc_name m j ++ 32 ∷ printed_fixed s.flow («at» x j) ++ 10 ∷ []
flow_words s m x j = rw (append-nil (printed_fixed s.flow («at» x j))) refl

words_of_three : (name u y : List ℕ) → (name ++ (32 ∷ (u ++ (32 ∷ (y ++ []))))) ++ 10 ∷ [] ≡ name ++ 32 ∷ u ++ 32 ∷ y ++ 10 ∷ []
words_of_three name u y = ap (λ l. name ++ (32 ∷ (u ++ (32 ∷ l))) ++ 10 ∷ []) (append-nil y) ∙ ap (λ l. l ++ 10 ∷ []) (sym (append_assoc name (32 ∷ u) (32 ∷ y)))

pub potential_words : (s : Scale) (m : Entries) (u x : List ℤ) (i : ℕ)
    → potential_line s m u x i ≡ (codes "node" ++ 32 ∷ node_name m (i + 1)) ++ 32 ∷ printed_fixed s.tension («at» u (i + 1)) ++ 32 ∷ printed_fixed s.flow («at» x i) ++ 10 ∷ []
potential_words s m u x i =
    ap (λ l. codes "node " ++ l) (words_of_three (node_name m (i + 1)) (printed_fixed s.tension («at» u (i + 1))) (printed_fixed s.flow («at» x i)))

-- ---- heads differ

pub no_matter : (b : Bool) → (b && false) ≡ false
no_matter true = refl
no_matter false = refl

pub heads_apart : (a b : List ℕ) → bytes_eq a b ≡ false → a ≢ b
heads_apart a b test same = both_ways (bytes_eq a b) test ((bytes_decides a b).1 same)
