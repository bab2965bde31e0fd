-- The network with a return has one: its last arc is the new one, with the line as its curve.
use Rattle.std.proofs.Common.{◌≡◌, ◌≢◌, ℕ, ◌+◌, ◌<◌, ◌≤◌, List, [], ◌∷◌, ◌++◌, length, take, get_or, refl, sym, ap, ◌∙◌, subst, add-one, length-append, ⊎_elim, arith}
use Rattle.std.proofs.lemmas.Bool.{cases_lt}
use Rattle.std.proofs.lemmas.List.{get_or_append_left, get_or_push}
use Rattle.std.proofs.Math.Seq.{take-suc}
use Rattle.theory.specs.CurveList.{IsCurveList, Listing, first, last}
use Rattle.theory.specs.Network.{Network, IsNetwork, arc_at, tail, head, curve}
use Rattle.theory.specs.Grounded.{joining}
use Rattle.theory.proofs.Shape.{long, ends, place_of_shape}
use Rattle.path_cut.specs.Returned.{line, returned}
use Rattle.path_cut.specs.GreatestFlow.{return_arc, HasReturn}

pub line-list : IsCurveList line.items
line-list = place_of_shape (long refl ends)

pub returned-arcs : (net : Network) (from to : ℕ) → length (returned net from to).arcs ≡ length net.arcs + 1
returned-arcs net from to = length-append net.arcs (joining to from ∷ [])

pub returned-curves : (net : Network) (from to : ℕ) → length net.curves ≡ length net.arcs
    → length (returned net from to).curves ≡ length (returned net from to).arcs
returned-curves net from to one_each =
    let a = returned-arcs net from to in let c = length-append net.curves (line ∷ []) in omega arith

last-curve : (net : Network) (from to : ℕ) → length net.curves ≡ length net.arcs
    → curve (returned net from to) (return_arc (returned net from to)) ≡ line
last-curve net from to one_each =
    let a = returned-arcs net from to in
    get_or_push net.curves line _ (return_arc (returned net from to)) (omega arith)

pub returned-has : (net : Network) (from to : ℕ) → length net.curves ≡ length net.arcs → HasReturn (returned net from to)
returned-has net from to one_each =
    let a = returned-arcs net from to in
    let is = last-curve net from to one_each in
    record {
      some = omega arith;
      no_lower = ap (λ (c : Listing). first c.items) is;
      no_upper = ap (λ (c : Listing). last c.items) is;
    }

-- what holds of the arcs and of the new one holds of all
by-arc : (n : ℕ) (P : ℕ → Type 0) → ((j : ℕ) → j < n → P j) → P n → (j : ℕ) → j < n + 1 → P j
by-arc n P old new j there =
    ⊎_elim (λ (below : j < n). old j below) (λ (above : n ≤ j). let same : n ≡ j = omega arith in subst P same new) (cases_lt j n)

module _ (net : Network) (from to : ℕ) where
  arc-kept : (j : ℕ) → j < length net.arcs → arc_at (returned net from to).arcs j ≡ arc_at net.arcs j
  arc-kept j there = get_or_append_left net.arcs (joining to from ∷ []) _ j there

  arc-new : arc_at (returned net from to).arcs (length net.arcs) ≡ joining to from
  arc-new = get_or_push net.arcs (joining to from) _ (length net.arcs) refl

  curve-kept : (j : ℕ) → j < length net.curves → curve (returned net from to) j ≡ curve net j
  curve-kept j there = get_or_append_left net.curves (line ∷ []) _ j there

  curve-new : length net.curves ≡ length net.arcs → curve (returned net from to) (length net.arcs) ≡ line
  curve-new each = get_or_push net.curves line _ (length net.arcs) each

  pub returned-network : IsNetwork net → from < net.nodes → to < net.nodes → from ≢ to → IsNetwork (returned net from to)
  returned-network good from_there to_there apart =
      let n = length net.arcs in
      let all = returned-arcs net from to in
      record {
        tails = λ j l. by-arc n (λ j. tail (returned net from to) j < net.nodes)
            (λ j l. rw (tail, arc-kept j l) (good.tails j l)) (rw (tail, arc-new) to_there) j (omega arith);
        heads = λ j l. by-arc n (λ j. head (returned net from to) j < net.nodes)
            (λ j l. rw (head, arc-kept j l) (good.heads j l)) (rw (head, arc-new) from_there) j (omega arith);
        no_loops = λ j l. by-arc n (λ j. tail (returned net from to) j ≢ head (returned net from to) j)
            (λ j l. rw (tail, head, arc-kept j l) (good.no_loops j l)) (rw (tail, head, arc-new) (λ same. apart (sym same))) j (omega arith);
        one_curve_each = returned-curves net from to good.one_curve_each;
        curve_lists = λ j l. by-arc n (λ j. IsCurveList (curve (returned net from to) j).items)
            (λ j l. subst (λ (c : Listing). IsCurveList c.items) (sym (curve-kept j (let each = good.one_curve_each in omega arith))) (good.curve_lists j l))
            (subst (λ (c : Listing). IsCurveList c.items) (sym (curve-new good.one_curve_each)) line-list) j (omega arith);
      }

-- the first k of a list and the next one
pub taken-more : {A : Type 0} (xs ys zs : List A) (k : ℕ) (x d : A) → k < length xs → ys ≡ take k xs → get_or xs k d ≡ x → zs ≡ ys ++ x ∷ []
    → zs ≡ take (k + 1) xs
taken-more xs ys zs k x d there before is more =
    more ∙ ap (λ some. some ++ x ∷ []) before ∙ ap (λ last. take k xs ++ last ∷ []) (sym is) ∙ sym (rw add-one (take-suc xs k d there))
