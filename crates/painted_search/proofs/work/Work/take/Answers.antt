use Rattle.std.proofs.Common.{◌+◌, ◌*◌, pos, false, None, [], ◌∷◌, ◌++◌, refl, ap, ◌∙◌, take, drop, map, replicate, arith}
use Rattle.std.proofs.lemmas.List.{take-replicate, drop-replicate, replicate_more}
use Rattle.painted_search.specs.StepWords.{label_of, index_of, mark_of}
use Rattle.painted_search.proofs.StepsAsWords.{map-zeros}
use Rattle.painted_search.proofs.work.Work.take.Goals as goal

pub returns : goal.returns
returns c =
    let l = c.carve-layout.result in
    let n = l.nodes in
    let nodes = c.carve-layout.ensures.nodes in
    let arcs = c.carve-layout.ensures.arcs in
    let zero = c.carve-layout.ensures.zero in
    record {
      nodes = nodes;
      arcs = arcs;
      flows = zero.flows ∙ ap (λ m. replicate m (pos 0)) arcs;
      potentials = ap (take n) zero.words ∙ take-replicate n (3 * n) (pos 0) (omega arith) ∙ ap (λ m. replicate m (pos 0)) nodes;
      reached = ap (map mark_of) zero.marks ∙ map-zeros mark_of n ∙ ap (λ m. replicate m false) nodes;
      labels = ap (map label_of) zero.labels ∙ map-zeros label_of n ∙ ap (λ m. replicate m None) nodes;
      walk = refl;
      scratch = ap (drop n) zero.words
          ∙ drop-replicate n (3 * n) (pos 0)
          ∙ ap (λ m. replicate m (pos 0)) (omega arith);
      queue = ap (λ words. map index_of words ++ 0 ∷ []) zero.queue ∙ ap (λ words. words ++ 0 ∷ []) (map-zeros index_of (2 * n)) ∙ replicate_more (2 * n) 0 ∙ ap (λ m. replicate (2 * m + 1) 0) nodes;
    }
