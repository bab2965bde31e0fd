-- The places in ascending order when one more number was looked for: its place is put behind them, or it stands nowhere.
use Rattle.std.proofs.Common.{◌≡◌, ℕ, ◌+◌, ◌<◌, ◌≤◌, List, [], ◌∷◌, ◌++◌, length, sym, ap, ◌∙◌, ⊎_elim, length-append, arith}
use Rattle.std.proofs.lemmas.List.{get_or_append_left, get_or_push}
use Rattle.std.proofs.lemmas.Bool.{cases_lt}
use Rattle.tucker_tableau.specs.Tableau.{number, IsSplit}
use Rattle.tucker_tableau.specs.Table.{Table}
use Rattle.tucker_tableau.specs.Places.{IsNowhere, IsAt}
use Rattle.theory.specs.Network.{Network}
use Rattle.mono_top.specs.Ascending.{AreAscending, AreAscendingTo, AreOnce}

pub ascending_none : (arcs : List ℕ) → AreAscendingTo arcs [] 0
ascending_none arcs = record {
  there = λ k h. omega arith;
  below = λ k h. omega arith;
  ascend = λ i k less h. omega arith;
  every = λ i there h. (let no : ⊥ = omega arith in absurd no);
}

pub ascending_skip : (arcs places : List ℕ) (n : ℕ) → AreAscendingTo arcs places n → IsNowhere arcs n → AreAscendingTo arcs places (n + 1)
ascending_skip arcs places n so_far nowhere = record {
  there = so_far.there;
  below = λ k h. (let l = so_far.below k h in omega arith);
  ascend = so_far.ascend;
  every = λ i there h. so_far.every i there (let ne = nowhere i there in omega arith);
}

-- two places of the same number are the same
same_place : (arcs : List ℕ) (bound i k : ℕ) → AreOnce arcs bound → i < length arcs → k < length arcs → number arcs i ≡ number arcs k → i ≡ k
same_place arcs bound i k once there other e =
    ⊎_elim (λ (less : i < k). absurd (once.differ i k less other e))
    (λ (l : k ≤ i). ⊎_elim (λ (less : k < i). absurd (once.differ k i less there (sym e))) (λ (m : i ≤ k). omega arith) (cases_lt k i))
    (cases_lt i k)

pub ascending_push : (arcs places : List ℕ) (n i bound : ℕ) → AreAscendingTo arcs places n → IsAt arcs n i → AreOnce arcs bound
    → AreAscendingTo arcs (places ++ i ∷ []) (n + 1)
ascending_push arcs places n i bound so_far found once =
    let more = places ++ i ∷ [] in
    let size : length more ≡ length places + 1 = length-append places (i ∷ []) in
    let old : (k : ℕ) → k < length places → number more k ≡ number places k = λ k h. get_or_append_left places (i ∷ []) 0 k h in
    let last : (k : ℕ) → k < length more → length places ≤ k → number more k ≡ i = λ k h l. get_or_push places i 0 k (omega arith) in
    record {
      there = λ k h. ⊎_elim
          (λ (l : k < length places). (let e = old k l in let t = so_far.there k l in omega arith))
          (λ (l : length places ≤ k). (let e = last k h l in let t = found.there in omega arith))
          (cases_lt k (length places));
      below = λ k h. ⊎_elim
          (λ (l : k < length places). (let e = ap (number arcs) (old k l) in let t = so_far.below k l in omega arith))
          (λ (l : length places ≤ k). (let e = ap (number arcs) (last k h l) in let t = found.is in omega arith))
          (cases_lt k (length places));
      ascend = λ j k less h. ⊎_elim
          (λ (l : k < length places).
          (let d = ap (number arcs) (old j (omega arith)) in let e = ap (number arcs) (old k l) in let t = so_far.ascend j k less l in omega arith))
          (λ (l : length places ≤ k).
          (let before : j < length places = omega arith in
          let d = ap (number arcs) (old j before) in let e = ap (number arcs) (last k h l) in
          let t = so_far.below j before in let f = found.is in omega arith))
          (cases_lt k (length places));
      every = λ k there h. ⊎_elim
          (λ (l : number arcs k < n).
          (let p = so_far.every k there l in (p.0, (let m = p.1 in omega arith), old p.0 p.1 ∙ p.2)))
          (λ (l : n ≤ number arcs k).
          (let e : i ≡ k = same_place arcs bound i k once found.there there (let f = found.is in omega arith) in
          (length places, omega arith, last (length places) (omega arith) (omega arith) ∙ e)))
          (cases_lt (number arcs k) n);
    }

pub ascending_all : (arcs places : List ℕ) (bound : ℕ) → AreAscendingTo arcs places bound → AreOnce arcs bound → AreAscending arcs places
ascending_all arcs places bound all once = record {
  there = all.there;
  ascend = all.ascend;
  every = λ i there. all.every i there (once.below i there);
}

-- ---- the arcs of a tableau

pub rows_once : (net : Network) (table : Table) → IsSplit net table.rows table.columns → AreOnce table.rows (length table.rows + length table.columns)
rows_once net table split = record {
  below = λ k h. (let e = split.size in let l = split.rows_there k h in omega arith);
  differ = split.rows_differ;
}

pub columns_once : (net : Network) (table : Table) → IsSplit net table.rows table.columns → AreOnce table.columns (length table.rows + length table.columns)
columns_once net table split = record {
  below = λ k h. (let e = split.size in let l = split.columns_there k h in omega arith);
  differ = split.columns_differ;
}
