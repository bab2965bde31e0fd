-- The printed form of a well-formed model spells it. Its lines are the front, a line per node and a line per arc; by
-- induction on the place of a line, the lines before it have made the model's entries before that place, and none has a
-- fault: a name differs from those before it, an arc's ends stand at their places, and every list is a curve list.
use Rattle.std.specs.Prelude.{◌≡◌, ◌≢◌, ℕ, zero, suc, ◌+◌, ◌-◌, ◌<◌, ◌≤◌, nat_lt, Bool, true, false, pos, None, Some, List, [], ◌∷◌, ◌++◌, length, map, take, drop, codes, refl}
use Rattle.std.specs.List.{list_all, flat_map, position_or_len}
use Rattle.std.specs.Str.{bytes_eq}
use Rattle.std.proofs.Common.{arith, ◌∙◌, sym, ap, get_or, length-append, append_assoc, add-one}
use Rattle.std.proofs.lemmas.Bool.Decides.{nat_tests}
use Rattle.std.proofs.lemmas.Grind.{take_at_read}
use Rattle.std.proofs.lemmas.List.{append-nil, length-map, length-take, get_or-map, get_or-take, get_or-append-add, take_all, drop_more}
use Rattle.std.proofs.Math.ListN.{get_or-append}
use Rattle.std.proofs.Math.Seq.{take-append_seam, drop-append-add}
use Rattle.std.proofs.lemmas.List.Sums.{position_or_len_is}
use Rattle.std.proofs.lemmas.Slice.Eq.{bytes_eq-Decides}
use Rattle.theory.specs.CurveList.{Listing}
use Rattle.theory.specs.Grounded.{Entries, NodeEntry, ArcEntry}
use Rattle.model_text.specs.Lines.{text_lines, line_words}
use Rattle.model_text.specs.Model.{IsWellFormed, IsWithinLimits, node_names, place_of, node_at, arc_at, no_entries}
use Rattle.model_text.specs.Names.{is_name}
use Rattle.model_text.specs.ModelText.{made, progress_of, fault_at, first_fault, NoFaultBefore, with_line, with_words, entry_tests}
use Rattle.model_text.specs.Scale.{IsScale, cost_decimals}
use Rattle.model_text.specs.declared.scale.Scale.{Scale}
use Rattle.model_text.specs.Printed.{printed_front, printed_model, printed_node, printed_arc, printed_curve, spaced}
use Rattle.model_text.specs.ModelTextLaws.{PrintedLaw, ReadBackLaw}
use Rattle.model_text.proofs.TextLaws.{one_model}
use Rattle.model_text.proofs.ListTests.{false-unless}
use Rattle.model_text.proofs.LinesLemmas.{no-lines, progress-after, fault-here}
use Rattle.model_text.proofs.PrintedCurve.{list-plain, base-plain}
use Rattle.model_text.proofs.PrintedEntries.{node_words, arc_words, node-adds, node-passes, arc-adds, arc-passes}
use Rattle.model_text.proofs.PrintedLines.{ArePlain, one_more, plain-append, is_clean, line-clean, clean-text, lines-more, printed-words}
use Rattle.model_text.proofs.PrintedWords.{name-plain}
use Rattle.model_text.proofs.ReadLemmas.{goes_on, some-words}
use Rattle.model_text.proofs.PrintedFront.{front_lines, front-lines, front-made, front-faults, with-more}

-- ---- names and their places

-- a name that none of the names is has no place
fresh : (names : List (List ℕ)) (name : List ℕ) → ((k : ℕ) → k < length names → get_or names k [] ≢ name) → place_of names name ≡ None
fresh names name differ =
    let past : position_or_len (bytes_eq name) names ≡ length names =
    position_or_len_is (bytes_eq name) names (length names) [] (omega arith)
    (λ k below. false-unless (bytes_eq name (get_or names k [])) (λ same. differ k below (sym ((bytes_eq-Decides name (get_or names k [])).0 same))))
    (λ less. absurd (omega arith)) in
    let outside : nat_lt (position_or_len (bytes_eq name) names) (length names) ≡ false = grind (arith, nat_tests) in
    rw outside refl

-- where the names differ, each stands at its own place
stands-at : (names : List (List ℕ)) (i : ℕ) → i < length names → ((k : ℕ) → k < i → get_or names k [] ≢ get_or names i []) → place_of names (get_or names i []) ≡ Some i
stands-at names i below differ =
    let at : position_or_len (bytes_eq (get_or names i [])) names ≡ i =
    position_or_len_is (bytes_eq (get_or names i [])) names i [] (omega arith)
    (λ k before. false-unless (bytes_eq (get_or names i []) (get_or names k [])) (λ same. differ k before (sym ((bytes_eq-Decides (get_or names i []) (get_or names k [])).0 same))))
    (λ less. (bytes_eq-Decides (get_or names i []) (get_or names i [])).1 refl) in
    let inside : nat_lt (position_or_len (bytes_eq (get_or names i [])) names) (length names) ≡ true = grind (arith, nat_tests) in
    rw (inside, at) refl

-- ---- the lines

node-line : Scale → NodeEntry → List ℕ
node-line s node = codes "node" ++ spaced (node.name ∷ printed_curve s node.supply)

abbrev pub no_node : NodeEntry
no_node = record { name = []; supply = record { items = []; base = pos 0 } }

abbrev pub no_arc : ArcEntry
no_arc = record { name = []; from = 0; to = 0; curve = record { items = []; base = pos 0 } }

curve-plain : (s : Scale) (curve : Listing) → IsWithinLimits curve → ArePlain (printed_curve s curve)
curve-plain s curve limits =
    plain-append (list-plain s.flow s.tension curve.items limits.items) (base-plain (cost_decimals s) curve.base limits.base)

module _ (s : Scale) (scaled : IsScale s) (m : Entries) (formed : IsWellFormed m) where
  arc-line : ArcEntry → List ℕ
  arc-line arc = codes "arc" ++ spaced (arc.name ∷ (node_at m arc.from).name ∷ (node_at m arc.to).name ∷ printed_curve s arc.curve)

  others : List (List ℕ)
  others = map (node-line s) m.nodes ++ map arc-line m.arcs

  lines : List (List ℕ)
  lines = front_lines s ++ others

  pub node-named : (k : ℕ) (d : NodeEntry) → k < length m.nodes → is_name (get_or m.nodes k d).name ≡ true
  node-named k d below =
      rw (get_or-map (λ (node : NodeEntry). node.name) m.nodes k d d.name below) at (formed.nodes_named.each k d.name (omega (arith, length-map m.nodes (λ (node : NodeEntry). node.name))))

  pub arc-named : (k : ℕ) (d : ArcEntry) → k < length m.arcs → is_name (get_or m.arcs k d).name ≡ true
  arc-named k d below =
      rw (get_or-map (λ (arc : ArcEntry). arc.name) m.arcs k d d.name below) at (formed.arcs_named.each k d.name (omega (arith, length-map m.arcs (λ (arc : ArcEntry). arc.name))))

  node-plain : (k : ℕ) (d : NodeEntry) → k < length m.nodes → ArePlain ((get_or m.nodes k d).name ∷ printed_curve s (get_or m.nodes k d).supply)
  node-plain k d below = one_more (name-plain _ (node-named k d below)) (curve-plain s _ (formed.supplies k d below))

  arc-plain : (k : ℕ) (d : ArcEntry) → k < length m.arcs
      → ArePlain ((get_or m.arcs k d).name ∷ (node_at m (get_or m.arcs k d).from).name ∷ (node_at m (get_or m.arcs k d).to).name ∷ printed_curve s (get_or m.arcs k d).curve)
  arc-plain k d below =
      one_more (name-plain _ (arc-named k d below))
      (one_more (name-plain _ (node-named (get_or m.arcs k d).from no_node (formed.model.tails k d below)))
      (one_more (name-plain _ (node-named (get_or m.arcs k d).to no_node (formed.model.heads k d below)))
      (curve-plain s _ (formed.curves k d below))))

  node-clean : (k : ℕ) → k < length m.nodes → list_all is_clean (node-line s (node_at m k)) ≡ true
  unfolding node-line
  node-clean k below = line-clean (codes "node") refl (node-plain k no_node below)

  arc-clean : (k : ℕ) → k < length m.arcs → list_all is_clean (arc-line (arc_at m k)) ≡ true
  unfolding arc-line
  arc-clean k below = line-clean (codes "arc") refl (arc-plain k no_arc below)

  lines-are : text_lines (printed_model s m) ≡ lines
  unfolding node-line arc-line lines others
  lines-are =
      ap text_lines (append_assoc (printed_front s) (flat_map (printed_node s) m.nodes) (flat_map (printed_arc s m) m.arcs))
      ∙ front-lines s scaled (flat_map (printed_node s) m.nodes ++ flat_map (printed_arc s m) m.arcs)
      ∙ ap (λ l. front_lines s ++ l)
      (lines-more (node-line s) m.nodes (flat_map (printed_arc s m) m.arcs) (λ k d below. line-clean (codes "node") refl (node-plain k d below))
      ∙ ap (λ l. map (node-line s) m.nodes ++ l)
      (ap text_lines (sym (append-nil (flat_map (printed_arc s m) m.arcs)))
      ∙ lines-more arc-line m.arcs [] (λ k d below. line-clean (codes "arc") refl (arc-plain k d below))
      ∙ ap (λ l. map arc-line m.arcs ++ l) no-lines ∙ append-nil (map arc-line m.arcs)))

  -- ---- each name at its place

  names-differ : (i k : ℕ) → i < k → k < length m.nodes → (node_at m i).name ≢ (node_at m k).name
  names-differ i k less below same =
      formed.nodes_named.differ i k [] less (omega (arith, length-map m.nodes (λ (node : NodeEntry). node.name)))
      (get_or-map (λ (node : NodeEntry). node.name) m.nodes i no_node [] (omega arith) ∙ same ∙ sym (get_or-map (λ (node : NodeEntry). node.name) m.nodes k no_node [] below))

  node-stands : (i : ℕ) → i < length m.nodes → place_of (node_names m) (node_at m i).name ≡ Some i
  node-stands i below =
      let at = get_or-map (λ (node : NodeEntry). node.name) m.nodes i no_node [] below in
      ap (place_of (node_names m)) (sym at)
      ∙ stands-at (node_names m) i (omega (arith, length-map m.nodes (λ (node : NodeEntry). node.name)))
      (λ k before. formed.nodes_named.differ k i [] before (omega (arith, length-map m.nodes (λ (node : NodeEntry). node.name))))

  -- the names of the first nodes, of the first arcs, lack the next one
  pub node-fresh : (i : ℕ) → i < length m.nodes → place_of (map (λ (node : NodeEntry). node.name) (take i m.nodes)) (node_at m i).name ≡ None
  node-fresh i below =
      fresh (map (λ (node : NodeEntry). node.name) (take i m.nodes)) (node_at m i).name (λ k inside.
      let before : k < i = omega (arith, length-map (take i m.nodes) (λ (node : NodeEntry). node.name), length-take i m.nodes) in
      let at : get_or (map (λ (node : NodeEntry). node.name) (take i m.nodes)) k [] ≡ (node_at m k).name =
      get_or-map (λ (node : NodeEntry). node.name) (take i m.nodes) k no_node [] (omega (arith, length-take i m.nodes))
      ∙ ap (λ node. node.name) (get_or-take i m.nodes k no_node before) in
      λ same. names-differ k i before below (sym at ∙ same))

  pub arc-fresh : (j : ℕ) → j < length m.arcs → place_of (map (λ (arc : ArcEntry). arc.name) (take j m.arcs)) (arc_at m j).name ≡ None
  arc-fresh j below =
      fresh (map (λ (arc : ArcEntry). arc.name) (take j m.arcs)) (arc_at m j).name (λ k inside.
      let before : k < j = omega (arith, length-map (take j m.arcs) (λ (arc : ArcEntry). arc.name), length-take j m.arcs) in
      let at : get_or (map (λ (arc : ArcEntry). arc.name) (take j m.arcs)) k [] ≡ (arc_at m k).name =
      get_or-map (λ (arc : ArcEntry). arc.name) (take j m.arcs) k no_arc [] (omega (arith, length-take j m.arcs))
      ∙ ap (λ arc. arc.name) (get_or-take j m.arcs k no_arc before) in
      λ same. formed.arcs_named.differ k j [] before (omega (arith, length-map m.arcs (λ (arc : ArcEntry). arc.name)))
      (get_or-map (λ (arc : ArcEntry). arc.name) m.arcs k no_arc [] (omega arith) ∙ sym at ∙ same
      ∙ sym (get_or-map (λ (arc : ArcEntry). arc.name) m.arcs j no_arc [] below)))

  -- ---- the line at each place

  others-count : length others ≡ length m.nodes + length m.arcs
  unfolding others
  others-count = length-append (map (node-line s) m.nodes) (map arc-line m.arcs) ∙ rw (length-map m.nodes (node-line s), length-map m.arcs arc-line) refl

  abbrev start : ℕ
  start = length (front_lines s)

  behind : (i : ℕ) → drop (start + i) lines ≡ drop i others
  unfolding lines
  behind i = drop-append-add (front_lines s) others i

  node-there : (i : ℕ) → i < length m.nodes → drop (start + i) lines ≡ node-line s (node_at m i) ∷ drop (i + 1) others
  unfolding others
  node-there i below =
      behind i
      ∙ drop_more others i [] (omega (arith, others-count))
      ∙ ap (λ line. line ∷ drop (i + 1) others)
      (get_or-append (map (node-line s) m.nodes) (map arc-line m.arcs) [] i (omega (arith, length-map m.nodes (node-line s)))
      ∙ get_or-map (node-line s) m.nodes i no_node [] below)

  arc-there : (j : ℕ) → j < length m.arcs → drop (start + (length m.nodes + j)) lines ≡ arc-line (arc_at m j) ∷ drop (length m.nodes + j + 1) others
  unfolding others
  arc-there j below =
      behind (length m.nodes + j)
      ∙ drop_more others (length m.nodes + j) [] (omega (arith, others-count))
      ∙ ap (λ line. line ∷ drop (length m.nodes + j + 1) others)
      (ap (λ n. get_or others (n + j) []) (sym (length-map m.nodes (node-line s)))
      ∙ get_or-append-add (map (node-line s) m.nodes) (map arc-line m.arcs) j []
      ∙ get_or-map arc-line m.arcs j no_arc [] below)

  node-line-words : (i : ℕ) → i < length m.nodes → line_words (node-line s (node_at m i)) ≡ node_words s (node_at m i)
  unfolding node-line
  node-line-words i below = printed-words (codes "node") _ (record { plain = refl; some = omega arith }) (node-plain i no_node below)

  arc-line-words : (j : ℕ) → j < length m.arcs
      → line_words (arc-line (arc_at m j)) ≡ arc_words s (arc_at m j).name (node_at m (arc_at m j).from).name (node_at m (arc_at m j).to).name (arc_at m j).curve
  unfolding arc-line
  arc-line-words j below = printed-words (codes "arc") _ (record { plain = refl; some = omega arith }) (arc-plain j no_arc below)

  -- ---- what the lines before a place have made

  first-made : progress_of (take start lines) ≡ made s no_entries
  unfolding lines
  first-made = ap progress_of (take-append_seam (front_lines s) others) ∙ front-made s scaled

  nodes-made : (i : ℕ) → i ≤ length m.nodes → progress_of (take (start + i) lines) ≡ made s (record { nodes = take i m.nodes; arcs = [] })
  nodes-made zero within = let none : start + 0 ≡ start = omega arith in rw none first-made
  nodes-made (suc i) within =
      let below : i < length m.nodes = omega arith in
      let count : start + suc i ≡ start + i + 1 = omega arith in
      let more : take (suc i) m.nodes ≡ take i m.nodes ++ node_at m i ∷ [] =
      ap (λ n. take n m.nodes) (sym (add-one i)) ∙ (take_at_read m.nodes i no_node below).1 in
      ap (λ n. progress_of (take n lines)) count
      ∙ progress-after lines (start + i) (node-line s (node_at m i)) (drop (i + 1) others) (node-there i below)
      ∙ ap (λ progress. with_words progress (line_words (node-line s (node_at m i)))) (nodes-made i (omega arith))
      ∙ with-more s (record { nodes = take i m.nodes; arcs = [] }) (line_words (node-line s (node_at m i)))
      ∙ ap (made s)
      (ap (with_line s (record { nodes = take i m.nodes; arcs = [] })) (node-line-words i below)
      ∙ node-adds s (record { nodes = take i m.nodes; arcs = [] }) (node_at m i) (formed.supplies i no_node below) (formed.model.supplies i no_node below)
      ∙ ap (λ nodes. record { nodes = nodes; arcs = [] }) (sym more))

  arcs-made : (j : ℕ) → j ≤ length m.arcs → progress_of (take (start + (length m.nodes + j)) lines) ≡ made s (record { nodes = m.nodes; arcs = take j m.arcs })
  arcs-made zero within =
      let all : length m.nodes + 0 ≡ length m.nodes = omega arith in
      ap (λ n. progress_of (take (start + n) lines)) all ∙ nodes-made (length m.nodes) (omega arith)
      ∙ ap (λ nodes. made s (record { nodes = nodes; arcs = [] })) (take_all (length m.nodes) m.nodes (omega arith))
  arcs-made (suc j) within =
      let below : j < length m.arcs = omega arith in
      let count : start + (length m.nodes + suc j) ≡ start + (length m.nodes + j) + 1 = omega arith in
      let more : take (suc j) m.arcs ≡ take j m.arcs ++ arc_at m j ∷ [] =
      ap (λ n. take n m.arcs) (sym (add-one j)) ∙ (take_at_read m.arcs j no_arc below).1 in
      ap (λ n. progress_of (take n lines)) count
      ∙ progress-after lines (start + (length m.nodes + j)) (arc-line (arc_at m j)) (drop (length m.nodes + j + 1) others) (arc-there j below)
      ∙ ap (λ progress. with_words progress (line_words (arc-line (arc_at m j)))) (arcs-made j (omega arith))
      ∙ with-more s (record { nodes = m.nodes; arcs = take j m.arcs }) (line_words (arc-line (arc_at m j)))
      ∙ ap (made s)
      (ap (with_line s (record { nodes = m.nodes; arcs = take j m.arcs })) (arc-line-words j below)
      ∙ arc-adds s (record { nodes = m.nodes; arcs = take j m.arcs }) (arc_at m j).name (node_at m (arc_at m j).from).name (node_at m (arc_at m j).to).name
      (arc_at m j).from (arc_at m j).to (arc_at m j).curve (formed.curves j no_arc below) (formed.model.curves j no_arc below)
      (node-stands (arc_at m j).from (formed.model.tails j no_arc below)) (node-stands (arc_at m j).to (formed.model.heads j no_arc below))
      ∙ ap (λ arcs. record { nodes = m.nodes; arcs = arcs }) (sym more))

  -- ---- no line has a fault

  first-faults : (k : ℕ) → k < start → fault_at lines k ≡ None
  unfolding lines
  first-faults k below = front-faults s scaled others k below

  node-fault : (i : ℕ) → i < length m.nodes → fault_at lines (start + i) ≡ None
  node-fault i below =
      let words = node-line-words i below in
      let before = nodes-made i (omega arith) in
      fault-here lines (start + i) (node-line s (node_at m i)) (drop (i + 1) others) (node-there i below)
      ∙ rw before
      (goes_on (made s (record { nodes = take i m.nodes; arcs = [] })) (node-line s (node_at m i)) (clean-text (node-line s (node_at m i)) (node-clean i below))
      (some-words (node-line s (node_at m i)) (rw words (omega arith)))
      ∙ ap (λ l. first_fault (entry_tests s (record { nodes = take i m.nodes; arcs = [] }) l)) words
      ∙ node-passes s (record { nodes = take i m.nodes; arcs = [] }) (node_at m i) (formed.supplies i no_node below) (formed.model.supplies i no_node below)
      (node-named i no_node below) (node-fresh i below) (omega (arith, length-take i m.nodes, formed.few_nodes)))

  ends-apart : (j : ℕ) → j < length m.arcs → bytes_eq (node_at m (arc_at m j).from).name (node_at m (arc_at m j).to).name ≡ false
  ends-apart j below =
      false-unless (bytes_eq (node_at m (arc_at m j).from).name (node_at m (arc_at m j).to).name) (λ same.
      let equal = (bytes_eq-Decides (node_at m (arc_at m j).from).name (node_at m (arc_at m j).to).name).0 same in
      by equal (formed.model.no_loops j no_arc below))
    where
      by : (node_at m (arc_at m j).from).name ≡ (node_at m (arc_at m j).to).name → ((arc_at m j).from ≡ (arc_at m j).to → ⊥) → ⊥
      by equal apart =
          let not_less : (arc_at m j).from < (arc_at m j).to → ⊥ = λ less. names-differ (arc_at m j).from (arc_at m j).to less (formed.model.heads j no_arc below) equal in
          let not_more : (arc_at m j).to < (arc_at m j).from → ⊥ = λ less. names-differ (arc_at m j).to (arc_at m j).from less (formed.model.tails j no_arc below) (sym equal) in
          apart (omega arith)

  arc-fault : (j : ℕ) → j < length m.arcs → fault_at lines (start + (length m.nodes + j)) ≡ None
  arc-fault j below =
      let words = arc-line-words j below in
      let before = arcs-made j (omega arith) in
      let tail = node-stands (arc_at m j).from (formed.model.tails j no_arc below) in
      let head = node-stands (arc_at m j).to (formed.model.heads j no_arc below) in
      fault-here lines (start + (length m.nodes + j)) (arc-line (arc_at m j)) (drop (length m.nodes + j + 1) others) (arc-there j below)
      ∙ rw before
      (goes_on (made s (record { nodes = m.nodes; arcs = take j m.arcs })) (arc-line (arc_at m j)) (clean-text (arc-line (arc_at m j)) (arc-clean j below))
      (some-words (arc-line (arc_at m j)) (rw words (omega arith)))
      ∙ ap (λ l. first_fault (entry_tests s (record { nodes = m.nodes; arcs = take j m.arcs }) l)) words
      ∙ arc-passes s (record { nodes = m.nodes; arcs = take j m.arcs }) (arc_at m j).name (node_at m (arc_at m j).from).name (node_at m (arc_at m j).to).name
      (arc_at m j).from (arc_at m j).to (arc_at m j).curve (formed.curves j no_arc below) (formed.model.curves j no_arc below) tail head
      (arc-named j no_arc below) (node-named (arc_at m j).from no_node (formed.model.tails j no_arc below))
      (node-named (arc_at m j).to no_node (formed.model.heads j no_arc below)) (arc-fresh j below) (omega (arith, length-take j m.arcs, formed.few_arcs))
      (ends-apart j below))

  lines-count : length lines ≡ start + (length m.nodes + length m.arcs)
  unfolding lines
  lines-count = length-append (front_lines s) others ∙ ap (λ n. start + n) others-count

  no-fault : NoFaultBefore lines (length lines)
  no-fault k below = by (nat_lt k start) (nat_lt k (start + length m.nodes)) refl refl
    where
      by : (a b : Bool) → nat_lt k start ≡ a → nat_lt k (start + length m.nodes) ≡ b → fault_at lines k ≡ None
      by true b first node = first-faults k (grind (arith, nat_tests))
      by false true first node =
          let past : start ≤ k = grind (arith, nat_tests) in
          let inside : k < start + length m.nodes = grind (arith, nat_tests) in
          let there : start + (k - start) ≡ k = omega arith in
          rw there at (node-fault (k - start) (omega arith))
      by false false first node =
          let past : start + length m.nodes ≤ k = grind (arith, nat_tests) in
          let there : start + (length m.nodes + (k - start - length m.nodes)) ≡ k = omega arith in
          rw there at (arc-fault (k - start - length m.nodes) (omega (arith, lines-count)))

  all-made : progress_of lines ≡ made s m
  all-made =
      ap progress_of (sym (take_all (start + (length m.nodes + length m.arcs)) lines (omega (arith, lines-count))))
      ∙ arcs-made (length m.arcs) (omega arith)
      ∙ ap (λ arcs. made s (record { nodes = m.nodes; arcs = arcs })) (take_all (length m.arcs) m.arcs (omega arith))

pub printed : PrintedLaw
printed s m scaled formed = record {
  no_fault = rw (lines-are s scaled m formed) (no-fault s scaled m formed);
  is = ap progress_of (lines-are s scaled m formed) ∙ all-made s scaled m formed;
}

pub read_back : ReadBackLaw
read_back s t m n scaled formed spells = one_model (printed_model s m) t s n m spells (printed s m scaled formed)
