-- The loops over the ring and over the chords: the arcs so far, and the state that their draws left.
use Rattle.std.proofs.Common.{◌≡◌, ◌≢◌, ℕ, ◌+◌, ◌*◌, ◌%◌, ◌<◌, false, List, [], ◌∷◌, ◌++◌, length, get_or, None, refl, sym, ap, ◌∙◌, subst, arith, length-append, append_assoc}
use Rattle.std.proofs.lemmas.List.{append-nil}
use Rattle.std.specs.Prelude.{is_some, nat_le, ◌==◌}
use Rattle.std.proofs.lemmas.Bool.Decides.{nat_tests}
use Rattle.theory.specs.Grounded.{Entries, ArcEntry}
use Rattle.theory.specs.Limits.{arcs_most}
use Rattle.theory.specs.Sums.{Each}
use Rattle.model_text.specs.Model.{with_arc, arc_fault, arc_names, place_of}
use Rattle.trial_model.specs.Generator.{state_after, drawn}
use Rattle.trial_model.specs.Trial.{values_below, numbered, listed, ring_items, ring_arc, ring, chord_items, chord_from, chord_to, chord_of, chord}
use Rattle.trial_model.proofs.StateLemmas.{drawn-below, none_drawn, later_state, later_draw, state-add}
use Rattle.trial_model.proofs.ListLemmas.{values-none, values-more, length-values, each-append, each-map, each-values, no_place}
use Rattle.trial_model.proofs.NameLemmas.{numbered-differ}

pub arc_free : (m : Entries) (name : List ℕ) (tail head : ℕ) → Each (λ arc. arc.name ≢ name) m.arcs → tail ≢ head → length m.arcs < arcs_most
    → arc_fault m name tail head ≡ None
arc_free m name tail head apart differ few =
    let none : is_some (place_of (arc_names m) name) ≡ false = ap is_some (no_place name (arc_names m) (each-map (λ other. other ≢ name) (λ (arc : ArcEntry). arc.name) m.arcs apart)) in
    let other : (tail == head) ≡ false = grind (arith, nat_tests) in
    let room : nat_le arcs_most (length m.arcs) ≡ false = grind (arith, nat_tests) in
    rw (none, other, room) refl

-- ---- the ring

pub record IsRingSoFar (start : Entries) (state count : ℕ) (entries : Entries) (now : ℕ) : Type 0 where
  pub entries_are : entries ≡ record start { arcs = values_below count (ring_arc state) }
  pub state_is : now ≡ state_after state count

pub no_ring : (start : Entries) (state : ℕ) → start.arcs ≡ [] → IsRingSoFar start state 0 start state
no_ring start state none = record {
  entries_are = ap (λ (arcs : List ArcEntry). record start { arcs = arcs }) (none ∙ sym (values-none (ring_arc state)));
  state_is = sym (none_drawn state);
}

pub ring_more : (start : Entries) (state count : ℕ) (entries next : Entries) (now later draw : ℕ) → IsRingSoFar start state count entries now → draw ≡ drawn now 1 1000
    → next ≡ with_arc entries (numbered 114 count) count ((count + 1) % 200) (listed (ring_items (1 + draw))) → later ≡ state_after now 1
    → IsRingSoFar start state (count + 1) next later
ring_more start state count entries next now later draw so_far this added after =
    let is : draw ≡ drawn state (count + 1) 1000 = later_draw state count now 1000 draw so_far.state_is this in
    record {
      entries_are =
          added ∙ ap (λ (m : Entries). with_arc m (numbered 114 count) count ((count + 1) % 200) (listed (ring_items (1 + draw)))) so_far.entries_are
          ∙ ap (λ d. with_arc (record start { arcs = values_below count (ring_arc state) }) (numbered 114 count) count ((count + 1) % 200) (listed (ring_items (1 + d)))) is
          ∙ ap (λ (arcs : List ArcEntry). record start { arcs = arcs }) (sym (values-more count (ring_arc state)));
      state_is = later_state state count now later so_far.state_is after;
    }

pub ring_free : (start : Entries) (state count : ℕ) (entries : Entries) (now : ℕ) → IsRingSoFar start state count entries now → count < 200
    → arc_fault entries (numbered 114 count) count ((count + 1) % 200) ≡ None
ring_free start state count entries now so_far small =
    let m : Entries = record start { arcs = values_below count (ring_arc state) } in
    subst (λ (e : Entries). arc_fault e (numbered 114 count) count ((count + 1) % 200) ≡ None) (sym so_far.entries_are)
    (arc_free m (numbered 114 count) count ((count + 1) % 200)
    (each-values (λ arc. arc.name ≢ numbered 114 count) count (ring_arc state) (λ k below. numbered-differ 114 k count (omega arith) (omega arith) (omega arith)))
    (λ same. omega arith) (omega (arith, length-values count (ring_arc state))))

-- ---- the chords

pub record AreChordsSoFar (start : Entries) (state count : ℕ) (entries : Entries) (now : ℕ) : Type 0 where
  pub entries_are : entries ≡ record start { arcs = start.arcs ++ values_below count (chord state) }
  pub state_is : now ≡ state_after state (6 * count)

pub no_chords : (start : Entries) (state : ℕ) → AreChordsSoFar start state 0 start state
no_chords start state = record {
  entries_are =
      ap (λ (arcs : List ArcEntry). record start { arcs = arcs })
      (sym (append-nil start.arcs) ∙ ap (λ (more : List ArcEntry). start.arcs ++ more) (sym (values-none (chord state))));
  state_is = sym (none_drawn state);
}

pub chords_more : (start : Entries) (state count : ℕ) (entries next : Entries) (now later : ℕ) → AreChordsSoFar start state count entries now
    → next ≡ with_arc entries (numbered 99 count) (chord_from now) (chord_to now) (listed (chord_items now)) → later ≡ state_after now 6
    → AreChordsSoFar start state (count + 1) next later
chords_more start state count entries next now later so_far added after =
    let six : 6 * count + 6 ≡ 6 * (count + 1) = omega arith in
    let arcs : List ArcEntry = values_below count (chord state) in
    record {
      entries_are =
          added ∙ ap (λ (m : Entries). record m { arcs = m.arcs ++ chord_of now count ∷ [] }) so_far.entries_are
          ∙ ap (λ s. record start { arcs = (start.arcs ++ arcs) ++ chord_of s count ∷ [] }) so_far.state_is
          ∙ ap (λ (all : List ArcEntry). record start { arcs = all }) (append_assoc start.arcs arcs (chord state count ∷ []))
          ∙ ap (λ (more : List ArcEntry). record start { arcs = start.arcs ++ more }) (sym (values-more count (chord state)));
      state_is = after ∙ ap (λ s. state_after s 6) so_far.state_is ∙ state-add state (6 * count) 6 ∙ ap (state_after state) six;
    }

-- where a chord begins and ends
pub record AreApart (state : ℕ) : Type 0 where
  pub from_there : chord_from state < 200
  pub to_there : chord_to state < 200
  pub differ : chord_from state ≢ chord_to state

pub apart : (state : ℕ) → AreApart state
apart state =
    let p : drawn state 1 200 < 200 = drawn-below state 1 200 (omega arith) in
    let d : drawn state 2 199 < 199 = drawn-below state 2 199 (omega arith) in
    record { from_there = p; to_there = omega arith; differ = λ same. omega arith }

letters_differ : (i k : ℕ) → numbered 114 i ≢ numbered 99 k
letters_differ i k same = let heads : ◌≡◌ {A = ℕ} 114 99 = ap (λ (xs : List ℕ). get_or xs 0 0) same in absurd (omega arith)

pub chord_free : (start : Entries) (state count : ℕ) (entries : Entries) (now before : ℕ) → AreChordsSoFar start state count entries now → start.arcs ≡ ring before → count < 800
    → (w : ℕ) → arc_fault entries (numbered 99 count) (chord_from w) (chord_to w) ≡ None
chord_free start state count entries now before so_far are_ring small w =
    let m : Entries = record start { arcs = start.arcs ++ values_below count (chord state) } in
    let name = numbered 99 count in
    let in_ring : Each (λ arc. arc.name ≢ name) (ring before) = each-values (λ arc. arc.name ≢ name) 200 (ring_arc before) (λ k below. letters_differ k count) in
    let in_start : Each (λ arc. arc.name ≢ name) start.arcs = subst (Each (λ (arc : ArcEntry). arc.name ≢ name)) (sym are_ring) in_ring in
    let others : Each (λ arc. arc.name ≢ name) (values_below count (chord state)) =
    each-values (λ arc. arc.name ≢ name) count (chord state) (λ k below. numbered-differ 99 k count (omega arith) (omega arith) (omega arith)) in
    let first : length start.arcs ≡ 200 = ap length are_ring ∙ length-values 200 (ring_arc before) in
    let parts : length (start.arcs ++ values_below count (chord state)) ≡ length start.arcs + length (values_below count (chord state)) = length-append start.arcs (values_below count (chord state)) in
    let second : length (values_below count (chord state)) ≡ count = length-values count (chord state) in
    subst (λ (e : Entries). arc_fault e name (chord_from w) (chord_to w) ≡ None) (sym so_far.entries_are)
    (arc_free m name (chord_from w) (chord_to w) (each-append (λ arc. arc.name ≢ name) start.arcs (values_below count (chord state)) in_start others) (apart w).differ (omega arith))
