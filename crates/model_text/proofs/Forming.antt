-- The empty model is well-formed, and a well-formed model stays so with a further node and with a further arc.
use Rattle.std.proofs.Common.{◌≡◌, ◌≢◌, ℕ, ◌<◌, List, [], ◌∷◌, ◌++◌, length, None, sym, subst, arith}
use Rattle.std.proofs.lemmas.List.{map_push, length_push}
use Rattle.std.proofs.lemmas.List.Elements.{All-push}
use Rattle.std.proofs.lemmas.List.Quantifiers.{all_pairs_push}
use Rattle.theory.specs.CurveList.{Listing, IsCurveList}
use Rattle.theory.specs.Grounded.{Entries, NodeEntry, ArcEntry}
use Rattle.model_text.specs.Names.{IsName}
use Rattle.model_text.specs.Model.{no_entries, node_names, arc_names, place_of, with_node, with_arc, AreNames, IsWithinLimits, IsWellFormed}
use Rattle.theory.specs.Limits.{nodes_most, arcs_most}
use Rattle.model_text.proofs.Places.{absent}

pub names_push : (names : List (List ℕ)) (name : List ℕ) → AreNames names → IsName name → place_of names name ≡ None → AreNames (names ++ name ∷ [])
names_push names name are named none = record {
  each = All-push IsName names name are.each named;
  differ = all_pairs_push (λ a b. a ≢ b) names name are.differ (λ k d here. absent names name none k d here);
}

pub formed_empty : IsWellFormed no_entries
formed_empty = record {
  model = record {
    supplies = λ i d here. absurd (omega arith);
    curves = λ j d here. absurd (omega arith);
    tails = λ j d here. absurd (omega arith);
    heads = λ j d here. absurd (omega arith);
    no_loops = λ j d here. absurd (omega arith);
  };
  few_nodes = omega arith;
  few_arcs = omega arith;
  nodes_named = record { each = λ k d here. absurd (omega arith); differ = λ i j d less here. absurd (omega arith) };
  arcs_named = record { each = λ k d here. absurd (omega arith); differ = λ i j d less here. absurd (omega arith) };
  supplies = λ k d here. absurd (omega arith);
  curves = λ k d here. absurd (omega arith);
}

pub formed_with_node : (m : Entries) (name : List ℕ) (supply : Listing) → IsWellFormed m → IsName name
    → place_of (node_names m) name ≡ None → length m.nodes < nodes_most → IsCurveList supply.items → IsWithinLimits supply
    → IsWellFormed (with_node m name supply)
formed_with_node m name supply formed named none room list small =
    let longer = length_push m.nodes (record { name = name; supply = supply }) in
    record {
      model = record {
        supplies = All-push (λ (node : NodeEntry). IsCurveList node.supply.items) m.nodes _ formed.model.supplies list;
        curves = formed.model.curves;
        tails = λ j d here. omega (arith, formed.model.tails j d here, longer);
        heads = λ j d here. omega (arith, formed.model.heads j d here, longer);
        no_loops = formed.model.no_loops;
      };
      few_nodes = omega (arith, longer);
      few_arcs = formed.few_arcs;
      nodes_named = subst AreNames (sym (map_push (λ (node : NodeEntry). node.name) m.nodes _)) (names_push (node_names m) name formed.nodes_named named none);
      arcs_named = formed.arcs_named;
      supplies = All-push (λ (node : NodeEntry). IsWithinLimits node.supply) m.nodes _ formed.supplies small;
      curves = formed.curves;
    }

pub formed_with_arc : (m : Entries) (name : List ℕ) (tail head : ℕ) (curve : Listing) → IsWellFormed m → IsName name
    → place_of (arc_names m) name ≡ None → length m.arcs < arcs_most → tail < length m.nodes → head < length m.nodes → tail ≢ head
    → IsCurveList curve.items → IsWithinLimits curve
    → IsWellFormed (with_arc m name tail head curve)
formed_with_arc m name tail head curve formed named none room tail_there head_there apart list small =
    let longer = length_push m.arcs (record { name = name; from = tail; to = head; curve = curve }) in
    record {
      model = record {
        supplies = formed.model.supplies;
        curves = All-push (λ (arc : ArcEntry). IsCurveList arc.curve.items) m.arcs _ formed.model.curves list;
        tails = All-push (λ (arc : ArcEntry). arc.from < length m.nodes) m.arcs _ formed.model.tails tail_there;
        heads = All-push (λ (arc : ArcEntry). arc.to < length m.nodes) m.arcs _ formed.model.heads head_there;
        no_loops = All-push (λ (arc : ArcEntry). arc.from ≢ arc.to) m.arcs _ formed.model.no_loops apart;
      };
      few_nodes = formed.few_nodes;
      few_arcs = omega (arith, longer);
      nodes_named = formed.nodes_named;
      arcs_named = subst AreNames (sym (map_push (λ (arc : ArcEntry). arc.name) m.arcs _)) (names_push (arc_names m) name formed.arcs_named named none);
      supplies = formed.supplies;
      curves = All-push (λ (arc : ArcEntry). IsWithinLimits arc.curve) m.arcs _ formed.curves small;
    }
