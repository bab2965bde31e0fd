-- The parts of a line as the code cuts them off.
use Rattle.std.proofs.Common.{◌≡◌, ℕ, ◌-◌, ◌||◌, min, not, nat_lt, List, length, take, drop, map, refl, sym, ap, ◌∙◌}
use Rattle.std.specs.Borrow.{Bor}
use Rattle.std.specs.List.{list_all}
use Rattle.std.proofs.lemmas.List.{take_min, drop_min, take_rest, take-map, drop-map, length-map}
use Rattle.std.proofs.lemmas.List.Folds.{list_all-map}
use Rattle.model_text.specs.LineParts.{texts}
use Rattle.model_text.specs.Names.{is_name}
use Rattle.transport_front.specs.TableText.{names_of, behind, lacks_names}

abbrev Words : Type 0
Words = List (Bor (List ℕ))

-- all words behind the first
abbrev others : Words → Words
others words = take (length words - 1) (drop 1 words)

pub names-are : (words : Words) (count : ℕ) → texts (take (min count (length (others words))) (others words)) ≡ names_of count (texts words)
names-are words count =
    ap texts (take_min count (others words) ∙ ap (take count) (take_rest words 1))
    ∙ sym (take-map (λ word. word.now) count (drop 1 words)) ∙ ap (take count) (sym (drop-map (λ word. word.now) 1 words))

pub behind-is : (words : Words) (count : ℕ)
    → texts (take (length (others words) - min count (length (others words))) (drop (min count (length (others words))) (others words))) ≡ behind count (texts words)
behind-is words count =
    ap texts (take_rest (others words) (min count (length (others words))) ∙ drop_min count (others words) ∙ ap (drop count) (take_rest words 1))
    ∙ sym (drop-map (λ word. word.now) count (drop 1 words)) ∙ ap (drop count) (sym (drop-map (λ word. word.now) 1 words))

pub lacks-is : (words names : Words) (count : ℕ) → texts names ≡ names_of count (texts words)
    → lacks_names count (texts words) ≡ (nat_lt (length names) count || not (list_all (λ word. is_name word.now) names))
lacks-is words names count is = rw (← is, list_all-map is_name (λ word. word.now) names, length-map) refl
