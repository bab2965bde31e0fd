-- The counts of a trial model, and its first node.
use Rattle.std.proofs.Common.{◌≡◌, ℕ, ◌+◌, negsuc, ◌<◌, List, [], ◌∷◌, length, refl, ap, ◌∙◌, arith, length-append, codes}
use Rattle.std.proofs.lemmas.List.{get_or_append_left}
use Rattle.model_text.specs.Model.{node_at}
use Rattle.trial_model.specs.Generator.{advance, state_after, drawn}
use Rattle.trial_model.specs.Trial.{values_below, numbered, drawn_node, drawn_supply, node, balance, ring_arc, ring, chord, chords, state_at_ring, state_at_chords, trial_entries}
use Rattle.trial_model.specs.TrialLaws.{CountsLaw}
use Rattle.std.proofs.lemmas.Fmt.{decimal_digit}
use Rattle.trial_model.proofs.ListLemmas.{length-values, first-value}

pub counts : CountsLaw
counts number = (node_count, arc_count)
  where
    node_count : length (trial_entries number).nodes ≡ 200
    node_count = length-append (values_below 199 (drawn_node number)) (node 199 (balance (values_below 199 (drawn_supply number))) ∷ []) ∙ ap (λ n. n + 1) (length-values 199 (drawn_node number))

    arc_count : length (trial_entries number).arcs ≡ 1000
    arc_count =
        let first : length (ring (state_at_ring number)) ≡ 200 = length-values 200 (ring_arc (state_at_ring number)) in
        let second : length (chords (state_at_chords number)) ≡ 800 = length-values 800 (chord (state_at_chords number)) in
        let parts : length (trial_entries number).arcs ≡ length (ring (state_at_ring number)) + length (chords (state_at_chords number)) =
        length-append (ring (state_at_ring number)) (chords (state_at_chords number)) in
        omega (arith, first, second, parts)

pub first_node : (number : ℕ) → node_at (trial_entries number) 0 ≡ drawn_node number 0
first_node number =
    let some : 0 < length (values_below 199 (drawn_node number)) = omega (arith, length-values 199 (drawn_node number)) in
    get_or_append_left (values_below 199 (drawn_node number)) (node 199 (balance (values_below 199 (drawn_supply number))) ∷ []) _ 0 some
    ∙ first-value 198 (drawn_node number) _

pub first_state : advance 1 ≡ 7806831264735756412
unfolding advance
first_state = refl

pub first_supply : drawn_supply 1 0 ≡ negsuc 1
unfolding drawn state_after advance
first_supply = refl

pub first_name : numbered 110 0 ≡ codes "n1"
first_name = ap (λ (ds : List ℕ). 110 ∷ ds) (decimal_digit 1 (omega arith))
