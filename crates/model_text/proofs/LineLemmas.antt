-- The parts of a line: its keyword, its names, and what stands behind them; and the words of a list, read in turn.
use Rattle.std.specs.Prelude.{◌≡◌, ℕ, ◌+◌, ◌-◌, ◌++◌, ◌<◌, min, Bool, true, false, not, ◌||◌, nat_lt, is_none, unwrap_or, pos, if◌then◌else◌, Option, None, Some, List, [], ◌∷◌, length, take, drop, map, codes, refl}
use Rattle.std.specs.Borrow.{Bor}
use Rattle.std.specs.List.{position_or_len, list_all}
use Rattle.std.specs.Str.{bytes_eq}
use Rattle.std.specs.Option.{option_map}
use Rattle.std.proofs.Common.{arith, sym, ◌∙◌, ap, get_or, append_assoc}
use Rattle.std.proofs.lemmas.List.{take_min, drop_min, drop_more, take_rest, take-map, drop-map, length-map}
use Rattle.std.proofs.lemmas.List.Folds.{list_all-map}
use Rattle.std.proofs.lemmas.Slice.Eq.{bytes_eq-Decides}
use Rattle.model_text.specs.declared.fault.FaultWord.TheVariants.{Number}
use Rattle.model_text.specs.declared.line.Kind.{Kind}
use Rattle.model_text.specs.declared.line.Kind.TheVariants.{Node, Arc}
use Rattle.model_text.specs.ModelText.{is_node_line, is_arc_line, is_base_word, word_at, line_names, names_wanted, part_list, from_base, items_of, lack_items, part_items, part_base, lacks_names, first_fault}
use Rattle.model_text.specs.Scale.{cost_decimals}
use Rattle.model_text.specs.declared.scale.Scale.{Scale}
use Rattle.model_text.specs.Names.{is_name}
use Rattle.model_text.specs.NumberWords.{item_of, fixed_of}
use Rattle.model_text.specs.NearNumbers.{near_item, near_number}
use Rattle.theory.specs.declared.ext.Ext.{Ext}
use Rattle.theory.specs.declared.ext.Ext.TheVariants.{MinusInf}
use Rattle.model_text.specs.LineParts.{texts, is_node, keyword_kind, AreParts, item_tests}

node-no-arc : (word : List ℕ) → bytes_eq word (codes "node") ≡ true → bytes_eq word (codes "arc") ≡ false
node-no-arc word is = let e = (bytes_eq-Decides word (codes "node")).0 is in rw e refl

kind-by : (n a : Bool) (kind : Kind) → (n ≡ true → a ≡ false) → (if n then Some Node else (if a then Some Arc else None)) ≡ Some kind
    → (n ≡ is_node kind) × (a ≡ not (is_node kind))
kind-by true a Node one is = (refl, one refl)
kind-by true a Arc one is = cc
kind-by false true Node one is = cc
kind-by false true Arc one is = (refl, refl)
kind-by false false kind one is = cc

kind-is : (word : List ℕ) (kind : Kind) → keyword_kind word ≡ Some kind
    → (bytes_eq word (codes "node") ≡ is_node kind) × (bytes_eq word (codes "arc") ≡ not (is_node kind))
kind-is word kind is = kind-by (bytes_eq word (codes "node")) (bytes_eq word (codes "arc")) kind (node-no-arc word) is

none-by : (n a : Bool) → ◌≡◌ {A = Option Kind} (if n then Some Node else (if a then Some Arc else None)) None → (n || a) ≡ false
none-by true a is = cc
none-by false true is = cc
none-by false false is = refl

-- no keyword in front, or no word at all
pub no_keyword : (words : List (Bor (List ℕ))) (d : Bor (List ℕ)) → 0 < length words → keyword_kind (get_or words 0 d).now ≡ None
    → (is_node_line (texts words) || is_arc_line (texts words)) ≡ false
unfolding is_node_line is_arc_line
no_keyword [] d some is = absurd (omega arith)
no_keyword (word ∷ words) d some is = none-by (bytes_eq word.now (codes "node")) (bytes_eq word.now (codes "arc")) is

pub no_words : (words : List (Bor (List ℕ))) → length words < 1 → (is_node_line (texts words) || is_arc_line (texts words)) ≡ false
unfolding is_node_line is_arc_line
no_words [] none = refl
no_words (word ∷ words) none = absurd (omega arith)

keyword-is : (words : List (Bor (List ℕ))) (d : Bor (List ℕ)) (kind : Kind) → 0 < length words → keyword_kind (get_or words 0 d).now ≡ Some kind
    → (is_node_line (texts words) ≡ is_node kind) × (is_arc_line (texts words) ≡ not (is_node kind))
unfolding is_node_line is_arc_line
keyword-is [] d kind some is = absurd (omega arith)
keyword-is (word ∷ words) d kind some is = kind-is word.now kind is

take-texts : (n : ℕ) (words : List (Bor (List ℕ))) → texts (take n words) ≡ take n (texts words)
take-texts n words = sym (take-map (λ word. word.now) n words)

drop-texts : (n : ℕ) (words : List (Bor (List ℕ))) → texts (drop n words) ≡ drop n (texts words)
drop-texts n words = sym (drop-map (λ word. word.now) n words)

-- what the code cuts off, in turn
pub parts : (words : List (Bor (List ℕ))) (d : Bor (List ℕ)) (kind : Kind) (wanted : ℕ) (rest names part : List (Bor (List ℕ)))
    → 0 < length words → keyword_kind (get_or words 0 d).now ≡ Some kind
    → rest ≡ take (length words - 1) (drop 1 words) → wanted ≡ (if is_node kind then 1 else 3)
    → names ≡ take (min wanted (length rest)) rest → part ≡ drop (min wanted (length rest)) rest
    → AreParts (texts words) kind (texts names) (texts part)
unfolding line_names
parts words d kind wanted rest names part some is rest-is wanted-is names-is part-is =
    let kinds = keyword-is words d kind some is in
    let rests : rest ≡ drop 1 words = rest-is ∙ take_rest words 1 in
    let wants : wanted ≡ names_wanted (texts words) = wanted-is ∙ ap (λ b. if b then 1 else 3) (sym kinds.0) in
    record {
      node = kinds.0;
      arc = kinds.1;
      names =
          ap texts (names-is ∙ take_min wanted rest ∙ ap (take wanted) rests) ∙ take-texts wanted (drop 1 words)
          ∙ ap (take wanted) (drop-texts 1 words) ∙ ap (λ n. take n (drop 1 (texts words))) wants;
      part =
          ap texts (part-is ∙ drop_min wanted rest ∙ ap (drop wanted) rests) ∙ drop-texts wanted (drop 1 words)
          ∙ ap (drop wanted) (drop-texts 1 words) ∙ ap (λ n. drop n (drop 1 (texts words))) wants;
    }

-- the split of a part at the word `base`
pub list-is : (part list : List (Bor (List ℕ))) (count : ℕ) → count ≡ position_or_len is_base_word (texts part) → list ≡ take count part
    → texts list ≡ part_list (texts part)
list-is part list count count-is is = ap texts is ∙ take-texts count part ∙ ap (λ n. take n (texts part)) count-is

pub based-is : (part based : List (Bor (List ℕ))) (count : ℕ) → count ≡ position_or_len is_base_word (texts part) → based ≡ drop count part
    → texts based ≡ from_base (texts part)
based-is part based count count-is is = ap texts is ∙ drop-texts count part ∙ ap (λ n. drop n (texts part)) count-is

-- ---- the tests of a line, on its parts

pub lacks_names-is : {words part : List (List ℕ)} {kind : Kind} (names : List (Bor (List ℕ))) → AreParts words kind (texts names) part
    → lacks_names words ≡ (nat_lt (length names) (if is_node kind then 1 else 3) || not (list_all (λ word. is_name word.now) names))
unfolding lacks_names
lacks_names-is names parts =
    rw (← parts.names, parts.node, list_all-map is_name (λ word. word.now) names, length-map) refl

-- what was read of the list of a part
pub items-near : (s : Scale) (part list : List (Bor (List ℕ))) → texts list ≡ part_list (texts part)
    → map near_item (items_of s.flow s.tension (texts list)) ≡ map near_item (part_items s (texts part))
unfolding part_items
items-near s part list is = ap (λ listed. map near_item (items_of s.flow s.tension listed)) is

pub base-near : (s : Scale) (part based : List (Bor (List ℕ))) → texts based ≡ from_base (texts part)
    → near_number (unwrap_or (fixed_of (cost_decimals s) (word_at (texts based) 1)) (pos 0)) ≡ near_number (part_base s (texts part))
unfolding part_base
base-near s part based is = ap (λ words. near_number (unwrap_or (fixed_of (cost_decimals s) (word_at words 1)) (pos 0))) is

pub list-length : (part list : List (Bor (List ℕ))) → texts list ≡ part_list (texts part) → length (part_list (texts part)) ≡ length list
list-length part list is = sym (ap length is) ∙ length-map list (λ word. word.now)

-- ---- the words of a list, read one after the other

module _ (here next : ℕ) (words : List (Bor (List ℕ))) (k : ℕ) (d : Bor (List ℕ)) (below : k < length words) where
  texts-more : texts (drop k words) ≡ (get_or words k d).now ∷ texts (drop (k + 1) words)
  texts-more = ap texts (drop_more words k d below)

  -- a word that is an item
  pub test-passed : (e : Ext) → option_map near_item (item_of here (get_or words k d).now) ≡ Some e
      → lack_items next here (texts (drop (k + 1) words)) ≡ lack_items here next (texts (drop k words))
  test-passed e is = sym (ap (lack_items here next) texts-more ∙ some-by (item_of here (get_or words k d).now) is)
    where
      some-by : (found : Option Ext) → option_map near_item found ≡ Some e
          → (is_none found || lack_items next here (texts (drop (k + 1) words))) ≡ lack_items next here (texts (drop (k + 1) words))
      some-by None is = cc
      some-by (Some x) is = refl

  pub item-added : (items : List Ext) (e : Ext) → option_map near_item (item_of here (get_or words k d).now) ≡ Some e
      → (items ++ e ∷ []) ++ map near_item (items_of next here (texts (drop (k + 1) words))) ≡ items ++ map near_item (items_of here next (texts (drop k words)))
  item-added items e is =
      append_assoc items (e ∷ []) (map near_item (items_of next here (texts (drop (k + 1) words))))
      ∙ ap (λ x. items ++ x ∷ map near_item (items_of next here (texts (drop (k + 1) words)))) (sym (item-by (item_of here (get_or words k d).now) is))
      ∙ ap (λ rest. items ++ map near_item (items_of here next rest)) (sym texts-more)
    where
      item-by : (found : Option Ext) → option_map near_item found ≡ Some e → near_item (unwrap_or found MinusInf) ≡ e
      item-by None is = cc
      item-by (Some x) is = cc

  -- a word that is none
  pub test-failed : option_map near_item (item_of here (get_or words k d).now) ≡ None → lack_items here next (texts (drop k words)) ≡ true
  test-failed none = ap (lack_items here next) texts-more ∙ none-by (item_of here (get_or words k d).now) none
    where
      none-by : (found : Option Ext) → ◌≡◌ {A = Option Ext} (option_map near_item found) None
          → (is_none found || lack_items next here (texts (drop (k + 1) words))) ≡ true
      none-by None none = refl
      none-by (Some x) none = cc

-- what the test of a list says of the words that were read
pub list-fails : (s : Scale) (words : List (List ℕ)) → lack_items s.flow s.tension words ≡ true → first_fault (item_tests s words) ≡ Some Number
list-fails s words fails = rw fails refl

pub list-passes : (s : Scale) (words : List (List ℕ)) → lack_items s.flow s.tension words ≡ false → first_fault (item_tests s words) ≡ None
list-passes s words passes = rw passes refl

-- what a read past the end would give
abbrev pub nothing : Bor (List ℕ)
nothing = record { ref_ptr = (0, 0); now = [] }
