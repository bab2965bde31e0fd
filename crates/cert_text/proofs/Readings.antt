-- One line more read. What was read so far is a list with an element for each line: a flow, a pair, a mark or a step. One more
-- element at the end leaves all earlier places as they were and stands at the place that the count of lines names. So what was
-- said of the lines before is still so, and of the new one it is so by the test of that line. The second half says the same of
-- what a loop has in hand: the rest of the text, its first line, and numbers in 64 bits, which are those of the line since a
-- number within the limits fits.
use Rattle.std.proofs.Common.{◌≡◌, ℕ, ◌+◌, ◌<◌, Bool, if◌then◌else◌, bytes_eq, List, [], ◌∷◌, ◌++◌, length, get_or, refl, sym, ap, subst, ◌∙◌, arith, below_more, add-one, to_z, of_z}
use Rattle.std.specs.Int.{w64}
use Rattle.std.proofs.lemmas.Int.{ints}
use Rattle.std.specs.Prelude.{ℤ, pos, false}
use Rattle.std.proofs.lemmas.List.{get_or_append_left, length_push}
use Rattle.std.proofs.Math.Seq.{get_or-append_seam}
use Rattle.theory.specs.declared.network.Step.{Step}
use Rattle.theory.specs.Network.{«at»}
use Rattle.theory.specs.Circuit.{step}
use Rattle.theory.specs.Grounded.{Entries}
use Rattle.theory.specs.Limits.{flow_most, IsWithin}
use Rattle.cert_text.specs.CertificateText.{node_line}
use Rattle.cert_text.specs.Candidate.{first_line, after_line, after, line_at, left_at, takes, AreFlowsRead, ArePairsRead, IsSideRead, IsLastNumber, AreLastNumbers, IsStepRead}

-- element n of a list of n elements and one more
at_end : {X : Type 0} (xs : List X) (x d : X) (n : ℕ) → length xs ≡ n → get_or (xs ++ x ∷ []) n d ≡ x
at_end xs x d n is = ap (λ k. get_or (xs ++ x ∷ []) k d) (sym is) ∙ get_or-append_seam xs x [] d

pub flows_none : (text : List ℕ) (before : List ℤ) → AreFlowsRead text 0 before before
flows_none text before = record { one_each = omega arith; kept = λ k here. refl; read = λ j none. absurd (omega arith) }

pub flows_more : (text : List ℕ) (n : ℕ) (before flows : List ℤ) (z : ℤ) → AreFlowsRead text n before flows
    → IsLastNumber flow_most (line_at text n) z → AreFlowsRead text (n + 1) before (flows ++ z ∷ [])
flows_more text n before flows z read last =
    let longer = length_push flows z in
    record {
      one_each = omega (arith, read.one_each);
      kept = λ k here. get_or_append_left flows (z ∷ []) (pos 0) k (omega (arith, read.one_each)) ∙ read.kept k here;
      read = below_more _ _
          (λ j below. subst (IsLastNumber flow_most (line_at text j)) (sym (get_or_append_left flows (z ∷ []) (pos 0) (length before + j) (omega (arith, read.one_each)))) (read.read j below))
          (subst (IsLastNumber flow_most (line_at text n)) (sym (at_end flows z (pos 0) (length before + n) read.one_each)) last);
    }

pub pairs_none : (text : List ℕ) → ArePairsRead text 0 (pos 0 ∷ []) []
pairs_none text = record { potentials = refl; supplies = refl; ground = refl; read = λ i none. absurd (omega arith) }

pub pairs_more : (text : List ℕ) (n : ℕ) (u x : List ℤ) (v z : ℤ) → ArePairsRead text n u x
    → AreLastNumbers (line_at text n) v z → ArePairsRead text (n + 1) (u ++ v ∷ []) (x ++ z ∷ [])
pairs_more text n u x v z read last =
    let longer_u = length_push u v in
    let longer_x = length_push x z in
    record {
      potentials = omega (arith, read.potentials);
      supplies = omega (arith, read.supplies);
      ground = get_or_append_left u (v ∷ []) (pos 0) 0 (omega (arith, read.potentials)) ∙ read.ground;
      read = below_more _ _
          (λ i below.
          let u_at = get_or_append_left u (v ∷ []) (pos 0) (i + 1) (omega (arith, read.potentials)) in
          let x_at = get_or_append_left x (z ∷ []) (pos 0) i (omega (arith, read.supplies)) in
          subst (λ w. AreLastNumbers (line_at text i) w («at» (x ++ z ∷ []) i)) (sym u_at)
          (subst (AreLastNumbers (line_at text i) («at» u (i + 1))) (sym x_at) (read.read i below)))
          (subst (λ w. AreLastNumbers (line_at text n) w («at» (x ++ z ∷ []) n)) (sym (at_end u v (pos 0) (n + 1) read.potentials))
          (subst (AreLastNumbers (line_at text n) v) (sym (at_end x z (pos 0) n read.supplies)) last));
    }

pub side_more : (m : Entries) (text : List ℕ) (n : ℕ) (side : List Bool) (held : Bool) → IsSideRead m text n side
    → held ≡ takes m text n → IsSideRead m text (n + 1) (side ++ held ∷ [])
side_more m text n side held read is =
    let longer = length_push side held in
    record {
      one_each = omega (arith, read.one_each);
      read = below_more _ _
          (λ i below. get_or_append_left side (held ∷ []) false i (omega (arith, read.one_each)) ∙ read.read i below)
          (at_end side held false n read.one_each ∙ is);
    }

pub steps_more : (m : Entries) (text : List ℕ) (walk : List Step) (s : Step)
    → ((k : ℕ) → k < length walk → IsStepRead m (line_at text k) (step walk k)) → IsStepRead m (line_at text (length walk)) s
    → (k : ℕ) → k < length (walk ++ s ∷ []) → IsStepRead m (line_at text k) (step (walk ++ s ∷ []) k)
steps_more m text walk s read last =
    rw length_push
    (below_more _ _
    (λ k below. subst (IsStepRead m (line_at text k)) (sym (get_or_append_left walk (s ∷ []) _ k below)) (read k below))
    (subst (IsStepRead m (line_at text (length walk))) (sym (at_end walk s _ (length walk) refl)) last))

-- ---- the same, said of what a loop has in hand

-- a flow is the same in 64 bits
stored : (z : ℤ) → IsWithin flow_most z → to_z w64 (of_z w64 z) ≡ z
stored z within = omega (arith, ints, within.0, within.1)

module _ (text rest line behind : List ℕ) (n : ℕ) (left : rest ≡ after n text) (is_line : line ≡ first_line rest) (is_behind : behind ≡ after_line rest) where
  pub left_more : behind ≡ after (n + 1) text
  left_more = is_behind ∙ ap after_line left ∙ rw add-one refl

  line_is : line ≡ line_at text n
  line_is = is_line ∙ ap first_line left

  pub flows_step : (before flows items : List ℤ) (z : ℤ) → AreFlowsRead text n before flows → IsLastNumber flow_most line z
      → items ≡ flows ++ to_z w64 (of_z w64 z) ∷ [] → AreFlowsRead text (n + 1) before items
  flows_step before flows items z read last is =
      subst (AreFlowsRead text (n + 1) before) (sym (is ∙ ap (λ y. flows ++ y ∷ []) (stored z last.within)))
      (flows_more text n before flows z read (subst (λ l. IsLastNumber flow_most l z) line_is last))

  pub pairs_step : (u x u_items x_items : List ℤ) (v z : ℤ) → ArePairsRead text n u x → AreLastNumbers line v z
      → u_items ≡ u ++ to_z w64 (of_z w64 v) ∷ [] → x_items ≡ x ++ to_z w64 (of_z w64 z) ∷ [] → ArePairsRead text (n + 1) u_items x_items
  pairs_step u x u_items x_items v z read last u_is x_is =
      subst (λ l. ArePairsRead text (n + 1) l x_items) (sym (u_is ∙ ap (λ y. u ++ y ∷ []) (stored v last.first_within)))
      (subst (ArePairsRead text (n + 1) (u ++ v ∷ [])) (sym (x_is ∙ ap (λ y. x ++ y ∷ []) (stored z last.second_within)))
      (pairs_more text n u x v z read (subst (λ l. AreLastNumbers l v z) line_is last)))

module _ (m : Entries) (text rest line behind own next : List ℕ) (i : ℕ) (held : Bool) (left : rest ≡ left_at m text i)
    (is_line : line ≡ first_line rest) (is_behind : behind ≡ after_line rest) (is_own : own ≡ node_line m i)
    (is_held : held ≡ bytes_eq line own) (is_next : next ≡ (if held then behind else rest)) where
  takes_is : held ≡ takes m text i
  takes_is = is_held ∙ ap (λ l. bytes_eq l own) (is_line ∙ ap first_line left) ∙ ap (bytes_eq (first_line (left_at m text i))) is_own

  pub left_next : next ≡ left_at m text (i + 1)
  left_next =
      is_next ∙ ap (λ b. if b then behind else rest) takes_is
      ∙ ap (λ l. if takes m text i then l else rest) (is_behind ∙ ap after_line left)
      ∙ ap (λ l. if takes m text i then after_line (left_at m text i) else l) left ∙ rw add-one refl

  pub side_step : (side items : List Bool) → IsSideRead m text i side → items ≡ side ++ held ∷ [] → IsSideRead m text (i + 1) items
  side_step side items read is = subst (IsSideRead m text (i + 1)) (sym is) (side_more m text i side held read takes_is)
