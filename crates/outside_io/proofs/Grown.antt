-- Writes that follow one another: what was written grows by both parts, and the room falls by both numbers.
use Rattle.std.proofs.Common.{◌≡◌, ℕ, ◌+◌, ◌-◌, List, ◌++◌, length, take, drop, Option, Some, None, option_map, arith, ap, sym, ◌∙◌}
use Rattle.std.proofs.lemmas.List.{append_assoc, take_rest}
use Rattle.std.proofs.Math.Seq.{take-add}
use Rattle.std.specs.Io.KnownBytes.{append_known}
use Rattle.outside_io.specs.Sink.{Grew, Fell}

pub grew_further : (a b c : Option (List ℕ)) (xs ys : List ℕ) → Grew a b xs → Grew b c ys → Grew a c (xs ++ ys)
grew_further None b c xs ys first then = then ∙ ap (λ o. append_known o ys) first
grew_further (Some x) b c xs ys first then = then ∙ ap (λ o. append_known o ys) first ∙ ap Some (append_assoc x xs ys)

pub fell_further : (a b c : Option ℕ) (m n : ℕ) → Fell a b m → Fell b c n → Fell a c (m + n)
fell_further a b None m n first then = first ∙ ap (option_map (λ left. left + m)) then
fell_further a b (Some x) m n first then =
    let sum : x + n + m ≡ x + (m + n) = omega arith in
    first ∙ ap (option_map (λ left. left + m)) then ∙ ap Some sum

-- the front of a text, and then a front of the rest
pub front_further : (text : List ℕ) (at n : ℕ) → take at text ++ take n (take (length text - at) (drop at text)) ≡ take (at + n) text
front_further text at n = ap (λ rest. take at text ++ take n rest) (take_rest text at) ∙ sym (take-add at n text)
