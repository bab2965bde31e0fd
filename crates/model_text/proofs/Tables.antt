-- What the tables answer, said of the model's entries.
use Rattle.std.proofs.Common.{◌≡◌, ◌≢◌, ℕ, suc, ◌<◌, Bool, false, if◌then◌else◌, List, [], ◌∷◌, ◌++◌, length, get_or, map, position, bytes_eq, None, Result, Ok, Err, OnOk, OnErr, refl, sym, ap, subst, ◌∙◌, arith}
use Rattle.std.specs.Prelude.{nat_eq}
use Rattle.std.specs.Cmp.Lexicographic.{pointwise}
use Rattle.std.specs.declared.vec.Vec.{Vec}
use Rattle.std.proofs.lemmas.List.{map_push, length-map}
use Rattle.indexmap.specs.IndexMap.{insert_entry}
use Rattle.mono_curve.specs.declared.curve.Curve.{Curve}
use Rattle.theory.specs.Grounded.{NodeEntry, ArcEntry}
use Rattle.model_text.specs.declared.model.Joining.{Joining}
use Rattle.model_text.specs.Model.{place_of, node_names, arc_names, with_node, with_arc, IsWithinLimits, IsWellFormed}
use Rattle.model_text.specs.ModelTables.{node_entry, arc_entry, table_entries}
use Rattle.model_text.specs.Names.{IsName}
use Rattle.theory.specs.Limits.{nodes_most, arcs_most}
use Rattle.model_text.proofs.Forming.{formed_with_node, formed_with_arc}
use Rattle.model_text.proofs.Places.{positions_agree, fails_where_none}

module _ {A : Type 0} where
  -- a look-up in a table finds the name's place
  pub node_place : (name : List ℕ) (nodes : List (Vec ℕ A × Curve))
      → position (λ (key : Vec ℕ A). pointwise nat_eq name key.items) (map (λ row. row.0) nodes) ≡ place_of (map (λ (node : NodeEntry). node.name) (map node_entry nodes)) name
  node_place name nodes = positions_agree (λ (key : Vec ℕ A). pointwise nat_eq name key.items) (bytes_eq name) (λ (row : Vec ℕ A × Curve). row.0) node_entry (λ (node : NodeEntry). node.name) (λ _. refl) nodes

  pub arc_place : (name : List ℕ) (arcs : List (Vec ℕ A × Joining))
      → position (λ (key : Vec ℕ A). pointwise nat_eq name key.items) (map (λ row. row.0) arcs) ≡ place_of (map (λ (arc : ArcEntry). arc.name) (map arc_entry arcs)) name
  arc_place name arcs = positions_agree (λ (key : Vec ℕ A). pointwise nat_eq name key.items) (bytes_eq name) (λ (row : Vec ℕ A × Joining). row.0) arc_entry (λ (arc : ArcEntry). arc.name) (λ _. refl) arcs

  abbrev pub same_key : Vec ℕ A → Vec ℕ A → Bool
  same_key k l = pointwise nat_eq k.items l.items

  -- a key that none of the keys is goes last
  pub goes_last : {X : Type 0} (key : Vec ℕ A) (x : X) (rows : List (Vec ℕ A × X))
      → ((k : ℕ) (d : Vec ℕ A) → k < length (map (λ row. row.0) rows) → same_key key (get_or (map (λ row. row.0) rows) k d) ≡ false)
      → insert_entry same_key rows key x ≡ rows ++ (key, x) ∷ []
  goes_last key x [] fails = refl
  goes_last key x (e ∷ es) fails =
      ap (λ b. if b then (e.0, x) ∷ es else e ∷ insert_entry same_key es key x) (fails 0 e.0 (omega arith))
      ∙ ap (λ l. e ∷ l) (goes_last key x es (λ k d here. fails (suc k) d (omega arith)))

  pub node_inserted : (nodes : List (Vec ℕ A × Curve)) (arcs : List (Vec ℕ A × Joining)) (key : Vec ℕ A) (supply : Curve)
      → place_of (node_names (table_entries nodes arcs)) key.items ≡ None
      → table_entries (insert_entry same_key nodes key supply) arcs ≡ with_node (table_entries nodes arcs) key.items supply.listing
  node_inserted nodes arcs key supply none =
      ap (λ rows. table_entries rows arcs) (goes_last key supply nodes (fails_where_none (same_key key) (map (λ row. row.0) nodes) (node_place key.items nodes ∙ none)))
      ∙ ap (λ entries. record { nodes = entries; arcs = map arc_entry arcs }) (map_push node_entry nodes (key, supply))

  pub arc_inserted : (nodes : List (Vec ℕ A × Curve)) (arcs : List (Vec ℕ A × Joining)) (key : Vec ℕ A) (joining : Joining)
      → place_of (arc_names (table_entries nodes arcs)) key.items ≡ None
      → table_entries nodes (insert_entry same_key arcs key joining) ≡ with_arc (table_entries nodes arcs) key.items joining.from joining.to joining.curve.listing
  arc_inserted nodes arcs key joining none =
      ap (λ rows. table_entries nodes rows) (goes_last key joining arcs (fails_where_none (same_key key) (map (λ row. row.0) arcs) (arc_place key.items arcs ∙ none)))
      ∙ ap (λ entries. record { nodes = map node_entry nodes; arcs = entries }) (map_push arc_entry arcs (key, joining))

  -- the model stays well-formed with the row that a name without a place adds
  pub node_keeps : (nodes : List (Vec ℕ A × Curve)) (arcs : List (Vec ℕ A × Joining)) (key : Vec ℕ A) (supply : Curve)
      → IsWellFormed (table_entries nodes arcs) → IsName key.items → place_of (node_names (table_entries nodes arcs)) key.items ≡ None
      → length nodes < nodes_most → IsWithinLimits supply.listing
      → IsWellFormed (table_entries (insert_entry same_key nodes key supply) arcs)
  node_keeps nodes arcs key supply formed named none room small =
      subst IsWellFormed (sym (node_inserted nodes arcs key supply none))
      (formed_with_node (table_entries nodes arcs) key.items supply.listing formed named none (omega (arith, length-map nodes node_entry)) supply.valid.is_list small)

  pub arc_keeps : (nodes : List (Vec ℕ A × Curve)) (arcs : List (Vec ℕ A × Joining)) (key : Vec ℕ A) (joining : Joining)
      → IsWellFormed (table_entries nodes arcs) → IsName key.items → place_of (arc_names (table_entries nodes arcs)) key.items ≡ None
      → length arcs < arcs_most → joining.from < length (map node_entry nodes) → joining.to < length (map node_entry nodes) → joining.from ≢ joining.to
      → IsWithinLimits joining.curve.listing
      → IsWellFormed (table_entries nodes (insert_entry same_key arcs key joining))
  arc_keeps nodes arcs key joining formed named none room tail_there head_there apart small =
      subst IsWellFormed (sym (arc_inserted nodes arcs key joining none))
      (formed_with_arc (table_entries nodes arcs) key.items joining.from joining.to joining.curve.listing formed named none (omega (arith, length-map arcs arc_entry)) tail_there head_there apart joining.curve.valid.is_list small)

-- what holds of the rows as they were and with a further row holds after an insertion, whether or not there was memory
pub either_way : {T E X : Type 0} (P : X → Type 0) (r : Result T E) (old new further : X) → OnOk r (new ≡ further) → OnErr r (new ≡ old) → P old → P further → P new
either_way P (Ok x) old new further ok err was will = subst P (sym ok) will
either_way P (Err e) old new further ok err was will = subst P (sym err) was

-- a name without a place, said of the key and of the names as the tables have them
pub free : (names told : List (List ℕ)) (key name : List ℕ) → place_of told name ≡ None → key ≡ name → names ≡ told → place_of names key ≡ None
free names told key name none key_is same = ap (λ l. place_of l key) same ∙ ap (place_of told) key_is ∙ none
