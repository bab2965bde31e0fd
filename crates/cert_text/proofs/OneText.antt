-- A text has at most one first bad line, and what two certificates of one text share. Were one bad line below another, the lines
-- before the later one would be right with some certificate, and so the lines up to the earlier one. Two texts that are the same
-- and begin with whole lines begin with the same line. A line has one last word, and a printed number is that of one number. The
-- marks of two sides are compared from the last node back: what stands behind begins with no line of the nodes up to this one, so
-- this node's line stands there in both texts or in neither.
use Rattle.std.proofs.Common.{◌≡◌, ◌≢◌, ℕ, zero, suc, ◌+◌, ◌-◌, ◌^◌, ◌<◌, ◌≤◌, Bool, true, false, if◌then◌else◌, bytes_eq, List, [], ◌∷◌, ◌++◌, length, take, refl, sym, ap, subst, ◌∙◌, arith, lit<, append_assoc, ⊎_elim}
use Rattle.std.specs.Prelude.{ℤ, codes}
use Rattle.std.specs.List.{flat_map}
use Rattle.std.proofs.lemmas.Bool.{cases_order, cases_lt}
use Rattle.std.proofs.lemmas.List.{append_cancel_left, append_cancel_right}
use Rattle.theory.specs.declared.network.Step.{Step}
use Rattle.theory.specs.Network.{«at»}
use Rattle.theory.specs.Circuit.{step}
use Rattle.theory.specs.Cut.{holds}
use Rattle.theory.specs.Grounded.{Entries, arc_name, node_name}
use Rattle.theory.specs.Limits.{IsWithin, flow_most, sum_most}
use Rattle.theory.specs.Certificate.{Certificate}
use Rattle.model_text.specs.Model.{IsWellFormed}
use Rattle.model_text.specs.Printed.{printed_fixed}
use Rattle.model_text.specs.NumberWords.{fixed_of}
use Rattle.model_text.specs.declared.scale.Scale.{Scale}
use Rattle.model_text.proofs.FixedNumbers.{fixed-read, small-by}
use Rattle.cert_text.specs.BadLine.{pieces, IsRightFor, IsTextOf, IsBadLine}
use Rattle.cert_text.specs.CertificateText.{texts_below, number_line, potential_line, flow_line, node_line, side_line, step_line}
use Rattle.cert_text.specs.Candidate.{first_line, named_arc}
use Rattle.cert_text.proofs.Plain.{plain_number}
use Rattle.cert_text.proofs.PieceLaws.{IsWhole, first-whole}
use Rattle.cert_text.proofs.StepLines.{sign_of, kind_of, name_of, step_line_is, kind_plain, name_of_plain, named_found, sign_told, same_step}
use Rattle.cert_text.proofs.Wholes.{whole_node, whole_step, mark_apart, number_words, flow_words, potential_words}
use Rattle.cert_text.proofs.WordEnds.{one_split}

-- ---- one bad line

right_below : (s : Scale) (m : Entries) (text : List ℕ) (k n : ℕ) → k ≤ n → IsRightFor s m text n → IsRightFor s m text k
right_below s m text k n less right = record {
  certificate = right.certificate;
  fits = right.fits;
  same = sym (take_take k n _ less) ∙ ap (take k) right.same ∙ take_take k n _ less;
}
  where
    take_take : (k n : ℕ) (xs : List (List ℕ)) → k ≤ n → take k (take n xs) ≡ take k xs
    take_take zero n xs less = refl
    take_take (suc k) zero xs less = absurd (omega arith)
    take_take (suc k) (suc n) [] less = refl
    take_take (suc k) (suc n) (x ∷ xs) less = ap (λ l. x ∷ l) (take_take k n xs (omega arith))

pub one_bad_line : (s : Scale) (m : Entries) (text : List ℕ) (line other : ℕ) → IsBadLine s m text line → IsBadLine s m text other → line ≡ other
one_bad_line s m text line other bad also =
    ⊎_elim (λ (same : line ≡ other). same)
    (⊎_elim (λ (below : line < other). absurd (bad.wrong_with (right_below s m text line (other - 1) (omega arith) also.right_before)))
    (λ (above : other < line). absurd (also.wrong_with (right_below s m text other (line - 1) (omega arith) bad.right_before))))
    (cases_order line other)

pub bad_line_has_none : (s : Scale) (m : Entries) (text : List ℕ) (line : ℕ) (c : Certificate) → IsBadLine s m text line → IsTextOf s m text c → ⊥
bad_line_has_none s m text line c bad is =
    bad.wrong_with (record { certificate = c; fits = is.fits; same = ap (λ t. take line (pieces t)) is.spelled })

-- ---- one number

rest_is : (b : ℕ) (xs ys : List ℕ) → b ∷ xs ≡ b ∷ ys → xs ≡ ys
rest_is b xs ys same = cc

number_is : (decimals most : ℕ) (y z : ℤ) → most < 10 ^ 64 → IsWithin most y → IsWithin most z → printed_fixed decimals y ≡ printed_fixed decimals z → y ≡ z
number_is decimals most y z small y_within z_within same =
    let read = sym (fixed-read decimals y (omega (arith, small-by most y y_within))) ∙ ap (fixed_of decimals) same ∙ fixed-read decimals z (omega (arith, small-by most z z_within)) in
    cc

last_number_is : (decimals most : ℕ) (front : List ℕ) (y z : ℤ) → most < 10 ^ 64 → IsWithin most y → IsWithin most z
    → front ++ 32 ∷ printed_fixed decimals y ++ 10 ∷ [] ≡ front ++ 32 ∷ printed_fixed decimals z ++ 10 ∷ [] → y ≡ z
last_number_is decimals most front y z small y_within z_within same =
    number_is decimals most y z small y_within z_within
    (rest_is 32 (printed_fixed decimals y) (printed_fixed decimals z)
    (append_cancel_left front (32 ∷ printed_fixed decimals y) (32 ∷ printed_fixed decimals z)
    (append_cancel_right (front ++ 32 ∷ printed_fixed decimals y) (front ++ 32 ∷ printed_fixed decimals z) (10 ∷ []) same)))

-- ---- one line after the other

-- two texts that are the same begin with the same line, and go on the same
pub line_is : (line other rest behind : List ℕ) → IsWhole line → IsWhole other → line ++ rest ≡ other ++ behind → (line ≡ other) × (rest ≡ behind)
line_is line other rest behind whole whole_other same =
    let e = sym (first-whole line rest whole) ∙ ap first_line same ∙ first-whole other behind whole_other in
    (e, append_cancel_left other rest behind (ap (λ l. l ++ rest) (sym e) ∙ same))

pub texts_are : (n : ℕ) (mine theirs : ℕ → List ℕ) → ((j : ℕ) → j < n → IsWhole (mine j) × IsWhole (theirs j)) → (rest behind : List ℕ)
    → texts_below n mine ++ rest ≡ texts_below n theirs ++ behind → ((j : ℕ) → j < n → mine j ≡ theirs j) × (rest ≡ behind)
texts_are zero mine theirs wholes rest behind same = (λ j none. absurd (omega arith), same)
texts_are (suc n) mine theirs wholes rest behind same =
    let front = texts_are n mine theirs (λ j below. wholes j (omega arith)) (mine n ++ rest) (theirs n ++ behind)
    (sym (append_assoc (texts_below n mine) (mine n) rest) ∙ same ∙ append_assoc (texts_below n theirs) (theirs n) behind) in
    let last = line_is (mine n) (theirs n) rest behind (wholes n (omega arith)).0 (wholes n (omega arith)).1 front.1 in (
      λ j below.
          ⊎_elim (λ (less : j < n). front.0 j less)
          (λ (up : n ≤ j). let e : j ≡ n = omega arith in subst (λ k. mine k ≡ theirs k) (sym e) last.0)
          (cases_lt j n),
      last.1,
    )

pub cost_is : (decimals : ℕ) (keyword : List ℕ) (y z : ℤ) → IsWithin sum_most y → IsWithin sum_most z → number_line decimals keyword y ≡ number_line decimals keyword z → y ≡ z
cost_is decimals keyword y z y_within z_within same =
    last_number_is decimals sum_most keyword y z (lit< tt) y_within z_within (sym (number_words decimals keyword y) ∙ same ∙ number_words decimals keyword z)

pub flow_is : (s : Scale) (m : Entries) (x y : List ℤ) (j : ℕ) → IsWithin flow_most («at» x j) → IsWithin flow_most («at» y j) → flow_line s m x j ≡ flow_line s m y j → «at» x j ≡ «at» y j
flow_is s m x y j x_within y_within same =
    last_number_is s.flow flow_most (arc_name m j) («at» x j) («at» y j) (lit< tt) x_within y_within (sym (flow_words s m x j) ∙ same ∙ flow_words s m y j)

pub pair_is : (s : Scale) (m : Entries) (u x v y : List ℤ) (i : ℕ) → IsWithin flow_most («at» u (i + 1)) → IsWithin flow_most («at» x i)
    → IsWithin flow_most («at» v (i + 1)) → IsWithin flow_most («at» y i) → potential_line s m u x i ≡ potential_line s m v y i
    → («at» u (i + 1) ≡ «at» v (i + 1)) × («at» x i ≡ «at» y i)
pair_is s m u x v y i u_within x_within v_within y_within same =
    let node = codes "node" ++ 32 ∷ node_name m (i + 1) in
    let p = printed_fixed s.tension («at» u (i + 1)) in
    let q = printed_fixed s.tension («at» v (i + 1)) in
    let r = printed_fixed s.flow («at» x i) in
    let w = printed_fixed s.flow («at» y i) in
    let words = append_cancel_right (node ++ 32 ∷ p ++ 32 ∷ r) (node ++ 32 ∷ q ++ 32 ∷ w) (10 ∷ []) (sym (potential_words s m u x i) ∙ same ∙ potential_words s m v y i) in
    let parts = one_split (node ++ 32 ∷ p) (node ++ 32 ∷ q) r w (plain_number s.flow («at» x i) flow_most x_within (lit< tt)) (plain_number s.flow («at» y i) flow_most y_within (lit< tt)) words in (
      number_is s.tension flow_most («at» u (i + 1)) («at» v (i + 1)) (lit< tt) u_within v_within (rest_is 32 p q (append_cancel_left node (32 ∷ p) (32 ∷ q) parts.0)),
      number_is s.flow flow_most («at» x i) («at» y i) (lit< tt) x_within y_within parts.1,
    )

module _ (m : Entries) (formed : IsWellFormed m) where
  pub step_is : (s t : Step) → s.arc.0 < length m.nodes + length m.arcs → t.arc.0 < length m.nodes + length m.arcs → step_line m s ≡ step_line m t → s ≡ t
  step_is s t s_there t_there same =
      let words = append_cancel_right (sign_of s ++ 32 ∷ kind_of m s.arc.0 ++ 32 ∷ name_of m s.arc.0) (sign_of t ++ 32 ∷ kind_of m t.arc.0 ++ 32 ∷ name_of m t.arc.0) (10 ∷ [])
      (sym (step_line_is m s) ∙ same ∙ step_line_is m t) in
      let last = one_split (sign_of s ++ 32 ∷ kind_of m s.arc.0) (sign_of t ++ 32 ∷ kind_of m t.arc.0) (name_of m s.arc.0) (name_of m t.arc.0)
      (name_of_plain m formed s.arc.0 s_there) (name_of_plain m formed t.arc.0 t_there) words in
      let first = one_split (sign_of s) (sign_of t) (kind_of m s.arc.0) (kind_of m t.arc.0) (kind_plain m s.arc.0) (kind_plain m t.arc.0) last.0 in
      let arcs = sym (named_found m formed s.arc.0 s_there) ∙ ap (λ k. named_arc m k (name_of m s.arc.0)) first.1 ∙ ap (named_arc m (kind_of m t.arc.0)) last.1 ∙ named_found m formed t.arc.0 t_there in
      let arc : s.arc.0 ≡ t.arc.0 = cc in
      same_step t s.arc.0 s.forward arc (sym (sign_told s) ∙ ap (λ l. bytes_eq l (codes "step +")) first.0 ∙ sign_told t)

  pub walk_is : (walk other : List Step) → ((k : ℕ) → k < length walk → (step walk k).arc.0 < length m.nodes + length m.arcs)
      → ((k : ℕ) → k < length other → (step other k).arc.0 < length m.nodes + length m.arcs)
      → flat_map (step_line m) walk ≡ flat_map (step_line m) other → walk ≡ other
  walk_is [] [] there also same = refl
  walk_is [] (t ∷ other) there also same = cc
  walk_is (s ∷ walk) [] there also same = cc
  walk_is (s ∷ walk) (t ∷ other) there also same =
      let parts = line_is (step_line m s) (step_line m t) (flat_map (step_line m) walk) (flat_map (step_line m) other)
      (whole_step m formed s (there 0 (omega arith))) (whole_step m formed t (also 0 (omega arith))) same in
      let first = step_is s t (there 0 (omega arith)) (also 0 (omega arith)) parts.0 in
      let rest = walk_is walk other (λ k here. there (suc k) (omega arith)) (λ k here. also (suc k) (omega arith)) parts.1 in
      cc

  -- the marks of two sides, from the last one: its line stands at the end of one text or of the other, or of neither
  pub sides_are : (side other : List Bool) (n : ℕ) → n ≤ length m.nodes + 1 → (rest behind : List ℕ)
      → ((i : ℕ) → i < n → first_line rest ≢ node_line m i) → ((i : ℕ) → i < n → first_line behind ≢ node_line m i)
      → texts_below n (side_line m side) ++ rest ≡ texts_below n (side_line m other) ++ behind
      → ((i : ℕ) → i < n → holds side i ≡ holds other i) × (rest ≡ behind)
  sides_are side other zero most rest behind apart also same = (λ i none. absurd (omega arith), same)
  sides_are side other (suc n) most rest behind apart also same =
      let front = sides_are side other n (omega arith) (side_line m side n ++ rest) (side_line m other n ++ behind)
      (mark_apart m formed n (omega arith) rest apart (holds side n)) (mark_apart m formed n (omega arith) behind also (holds other n))
      (sym (append_assoc (texts_below n (side_line m side)) (side_line m side n) rest) ∙ same ∙ append_assoc (texts_below n (side_line m other)) (side_line m other n) behind) in
      let last = mark_is (holds side n) (holds other n) front.1 in (
        λ i below.
            ⊎_elim (λ (less : i < n). front.0 i less)
            (λ (up : n ≤ i). let e : i ≡ n = omega arith in subst (λ k. holds side k ≡ holds other k) (sym e) last.0)
            (cases_lt i n),
        last.1,
      )
    where
      mark_is : (a b : Bool) → (if a then node_line m n else []) ++ rest ≡ (if b then node_line m n else []) ++ behind → (a ≡ b) × (rest ≡ behind)
      mark_is true true same = (refl, append_cancel_left (node_line m n) rest behind same)
      mark_is false false same = (refl, same)
      mark_is true false same =
          absurd (also n (omega arith) (ap first_line (sym same) ∙ first-whole (node_line m n) rest (whole_node m formed n (omega arith))))
      mark_is false true same =
          absurd (apart n (omega arith) (ap first_line same ∙ first-whole (node_line m n) behind (whole_node m formed n (omega arith))))
