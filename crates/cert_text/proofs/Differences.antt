-- The first line in which two texts differ, byte by byte from the end.
use Rattle.std.proofs.Common.{◌≡◌, ◌≢◌, ℕ, zero, suc, ◌-◌, ◌⊎◌, ◌==◌, inl, inr, Bool, true, false, List, [], ◌∷◌, length, take, get_or, refl, sym, ap, ◌∙◌, arith}
use Rattle.std.proofs.lemmas.Bool.{ne_eqb, eqb-true}
use Rattle.cert_text.specs.BadLine.{pieces}
use Rattle.cert_text.specs.Candidate.{first_line, IsFirstDifference}
use Rattle.cert_text.proofs.PieceLaws.{pieces-first}

both : (a b : List ℕ) (xs ys : List (List ℕ)) → a ∷ xs ≡ b ∷ ys → (a ≡ b) × (xs ≡ ys)
both a b xs ys e = (cc, cc)

pub differ_at_once : (text other : List ℕ) → first_line other ≢ first_line text → IsFirstDifference text other 1
differ_at_once text other apart =
    let t = pieces-first text in
    let o = pieces-first other in
    record {
      from_one = omega arith;
      same = refl;
      apart = λ same. apart (both _ _ _ _ (sym (ap (take 1) o.1) ∙ same ∙ ap (take 1) t.1)).0;
    }

first_byte : (b : ℕ) (bs : List ℕ) → get_or (first_line (b ∷ bs)) 0 0 ≡ b
first_byte b bs = by (b == 10) refl
  where
    by : (t : Bool) → (b == 10) ≡ t → get_or (first_line (b ∷ bs)) 0 0 ≡ b
    by true e = rw e (sym (eqb-true b 10 e))
    by false e = rw e refl

pub bytes_differ : (b d : ℕ) (bs ds : List ℕ) → b ≢ d → IsFirstDifference (b ∷ bs) (d ∷ ds) 1
bytes_differ b d bs ds apart =
    differ_at_once (b ∷ bs) (d ∷ ds) (λ same. apart (sym (first_byte b bs) ∙ ap (λ l. get_or l 0 0) (sym same) ∙ first_byte d ds))

some_line : (b : ℕ) (bs : List ℕ) → first_line (b ∷ bs) ≢ []
some_line b bs = by (b == 10) refl
  where
    by : (t : Bool) → (b == 10) ≡ t → first_line (b ∷ bs) ≢ []
    by true e = rw e (λ same. cc)
    by false e = rw e (λ same. cc)

-- one of them has ended
pub ends_differ : (text other : List ℕ) → (length text ≡ 0) ⊎ (length other ≡ 0) → length text ≢ length other → IsFirstDifference text other 1
ends_differ [] [] one apart = absurd (apart refl)
ends_differ [] (d ∷ ds) one apart = differ_at_once [] (d ∷ ds) (some_line d ds)
ends_differ (b ∷ bs) [] one apart = differ_at_once (b ∷ bs) [] (λ same. some_line b bs (sym same))
ends_differ (b ∷ bs) (d ∷ ds) (inl e) apart = absurd (omega arith)
ends_differ (b ∷ bs) (d ∷ ds) (inr e) apart = absurd (omega arith)

-- a difference in line suc k
module _ (text other : List ℕ) (k : ℕ) where
  pub differ_in : take k (pieces other) ≡ take k (pieces text) → take (suc k) (pieces other) ≢ take (suc k) (pieces text) → IsFirstDifference text other (suc k)
  differ_in same apart = record {
    from_one = omega arith;
    same = let e : suc k - 1 ≡ k = omega arith in rw e same;
    apart = apart;
  }

  pub same_before : IsFirstDifference text other (suc k) → take k (pieces other) ≡ take k (pieces text)
  same_before d = let e : suc k - 1 ≡ k = omega arith in rw e at d.same

pub both_end : (text other : List ℕ) → (length text ≡ 0) ⊎ (length other ≡ 0) → length text ≡ length other → other ≡ text
both_end [] [] one even = refl
both_end [] (d ∷ ds) one even = absurd (omega arith)
both_end (b ∷ bs) [] one even = absurd (omega arith)
both_end (b ∷ bs) (d ∷ ds) (inl e) even = absurd (omega arith)
both_end (b ∷ bs) (d ∷ ds) (inr e) even = absurd (omega arith)

pub differ_after_feed : (text other : List ℕ) (line : ℕ) → IsFirstDifference text other line → IsFirstDifference (10 ∷ text) (10 ∷ other) (suc line)
differ_after_feed text other zero d = absurd (omega (arith, d.from_one))
differ_after_feed text other (suc k) d =
    differ_in (10 ∷ text) (10 ∷ other) (suc k) (ap (λ l. (10 ∷ []) ∷ l) (same_before text other k d)) (λ same. d.apart (both _ _ _ _ same).1)

onto_front : (b k : ℕ) (ps qs : List (List ℕ)) (p q : List ℕ) → take k (p ∷ ps) ≡ take k (q ∷ qs) → take k ((b ∷ p) ∷ ps) ≡ take k ((b ∷ q) ∷ qs)
onto_front b zero ps qs p q same = refl
onto_front b (suc k) ps qs p q same = let parts = both p q (take k ps) (take k qs) same in cc

off_front : (b k : ℕ) (ps qs : List (List ℕ)) (p q : List ℕ) → take (suc k) ((b ∷ p) ∷ ps) ≡ take (suc k) ((b ∷ q) ∷ qs) → take (suc k) (p ∷ ps) ≡ take (suc k) (q ∷ qs)
off_front b k ps qs p q same = let parts = both (b ∷ p) (b ∷ q) (take k ps) (take k qs) same in cc

pub differ_after_byte : (b : ℕ) (text other : List ℕ) (line : ℕ) → b ≢ 10 → IsFirstDifference text other line → IsFirstDifference (b ∷ text) (b ∷ other) line
differ_after_byte b text other zero plain d = absurd (omega (arith, d.from_one))
differ_after_byte b text other (suc k) plain d =
    let t = pieces-first text in
    let o = pieces-first other in
    let test = ne_eqb b 10 plain in
    let text_is : pieces (b ∷ text) ≡ (b ∷ first_line text) ∷ t.0 = rw (test, t.1) refl in
    let other_is : pieces (b ∷ other) ≡ (b ∷ first_line other) ∷ o.0 = rw (test, o.1) refl in
    differ_in (b ∷ text) (b ∷ other) k
    (ap (take k) other_is ∙ onto_front b k o.0 t.0 (first_line other) (first_line text) (sym (ap (take k) o.1) ∙ same_before text other k d ∙ ap (take k) t.1) ∙ sym (ap (take k) text_is))
    (λ same. d.apart (ap (take (suc k)) o.1 ∙ off_front b k o.0 t.0 (first_line other) (first_line text) (sym (ap (take (suc k)) other_is) ∙ same ∙ ap (take (suc k)) text_is) ∙ sym (ap (take (suc k)) t.1)))
