-- Pieces of texts that are made of whole lines, and when one text is as like a third as another is. Two texts are
-- compared from the left. Where the second begins with a line that the third does not begin with, it is like it no
-- farther than the first. Where it does begin with the third's line, the first has to as well, and so on behind it.
use Rattle.std.proofs.Common.{◌≡◌, ◌≢◌, ℕ, zero, suc, ◌<◌, ◌==◌, nat_lt, Bool, true, false, List, [], ◌∷◌, ◌++◌, take, refl, sym, ap, ◌∙◌, arith, append_assoc}
use Rattle.std.specs.List.{list_all}
use Rattle.std.proofs.lemmas.Bool.{ne_eqb, ltb-true, and_parts}
use Rattle.cert_text.specs.BadLine.{pieces}
use Rattle.cert_text.specs.CertificateText.{texts_below}
use Rattle.cert_text.specs.Candidate.{first_line, after_line, after, line_at, IsAsLike}
use Rattle.cert_text.proofs.LineEnds.{line_and_rest}

-- a line: its LF is its last byte
pub record IsWhole (line : List ℕ) : Type 0 where
  pub first : (rest : List ℕ) → pieces (line ++ rest) ≡ line ∷ pieces rest

whole_first : (body rest : List ℕ) → list_all (nat_lt 10) body ≡ true → pieces ((body ++ 10 ∷ []) ++ rest) ≡ (body ++ 10 ∷ []) ∷ pieces rest
whole_first [] rest above = refl
whole_first (b ∷ body) rest above =
    let parts = and_parts (nat_lt 10 b) (list_all (nat_lt 10) body) above in
    let more : 10 < b = ltb-true 10 b parts.0 in
    rw (ne_eqb b 10 (omega arith), whole_first body rest parts.1) refl

pub whole : (body : List ℕ) → list_all (nat_lt 10) body ≡ true → IsWhole (body ++ 10 ∷ [])
whole body above = record { first = λ rest. whole_first body rest above }

pub pieces-first : (text : List ℕ) → (rest : List (List ℕ)) × (pieces text ≡ first_line text ∷ rest)
pieces-first [] = ([], refl)
pieces-first (b ∷ bs) = by (b == 10) refl (pieces-first bs)
  where
    by : (t : Bool) → (b == 10) ≡ t → (rest : List (List ℕ)) × (pieces bs ≡ first_line bs ∷ rest)
        → (rest : List (List ℕ)) × (pieces (b ∷ bs) ≡ first_line (b ∷ bs) ∷ rest)
    by true e r = (pieces bs, rw e refl)
    by false e r = (r.0, rw (e, r.1) refl)

pub pieces-whole : (text line : List ℕ) → IsWhole line → first_line text ≡ line → pieces text ≡ line ∷ pieces (after_line text)
pieces-whole text line is_whole same =
    ap pieces (line_and_rest text ∙ ap (λ l. l ++ after_line text) same) ∙ is_whole.first (after_line text)

pub first-whole : (line rest : List ℕ) → IsWhole line → first_line (line ++ rest) ≡ line
first-whole line rest is_whole = let r = pieces-first (line ++ rest) in let w = is_whole.first rest in cc

-- ---- as like

pub alike_apart : (text own other : List ℕ) → first_line text ≢ first_line other → IsAsLike text own other
alike_apart text own other apart zero same = refl
alike_apart text own other apart (suc k) same =
    let t = pieces-first text in
    let o = pieces-first other in
    absurd (apart (heads _ _ (sym (ap (take (suc k)) o.1) ∙ same ∙ ap (take (suc k)) t.1)))
  where
    heads : (a b : List ℕ) {xs ys : List (List ℕ)} → a ∷ xs ≡ b ∷ ys → b ≡ a
    heads a b e = cc

pub alike_line : (text line mine own other : List ℕ) → IsWhole line → IsWhole mine
    → (first_line text ≡ line → (mine ≡ line) × IsAsLike (after_line text) own other)
    → IsAsLike text (mine ++ own) (line ++ other)
alike_line text line mine own other whole_line whole_mine goes zero same = refl
alike_line text line mine own other whole_line whole_mine goes (suc k) same =
    let t = pieces-first text in
    let parts = both _ _ _ _ (sym (ap (take (suc k)) (whole_line.first other)) ∙ same ∙ ap (take (suc k)) t.1) in
    let on = goes (sym parts.0) in
    let text_is = pieces-whole text line whole_line (sym parts.0) in
    let left : take k (pieces other) ≡ take k (pieces (after_line text)) =
    parts.1 ∙ ap (take k) (both _ _ _ _ (sym t.1 ∙ text_is)).1 in
    ap (take (suc k)) (whole_mine.first own) ∙ ap (λ l. l ∷ take k (pieces own)) on.0 ∙ ap (λ l. line ∷ l) (on.1 k left)
    ∙ sym (ap (take (suc k)) text_is)
  where
    both : (a b : List ℕ) (xs ys : List (List ℕ)) → a ∷ xs ≡ b ∷ ys → (a ≡ b) × (xs ≡ ys)
    both a b xs ys e = (cc, cc)

pub alike_texts : (n : ℕ) (mine texts : ℕ → List ℕ) → ((j : ℕ) → j < n → IsWhole (mine j) × IsWhole (texts j)) → (text : List ℕ)
    → ((j : ℕ) → j < n → line_at text j ≡ texts j → mine j ≡ texts j) → (own other : List ℕ) → IsAsLike (after n text) own other
    → IsAsLike text (texts_below n mine ++ own) (texts_below n texts ++ other)
alike_texts zero mine texts wholes text same own other rest = rest
alike_texts (suc n) mine texts wholes text same own other rest =
    let here = alike_line (after n text) (texts n) (mine n) own other (wholes n (omega arith)).1 (wholes n (omega arith)).0 (λ is. (same n (omega arith) is, rest)) in
    rw (append_assoc (texts_below n mine) (mine n) own, append_assoc (texts_below n texts) (texts n) other)
    (alike_texts n mine texts (λ j below. wholes j (omega arith)) text (λ j below. same j (omega arith)) (mine n ++ own) (texts n ++ other) here)
