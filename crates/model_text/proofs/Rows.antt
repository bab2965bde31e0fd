-- Worked lines, computed by the definitions of the model text.
use Rattle.std.specs.Prelude.{◌≡◌, ℕ, refl, true, false, Option, None, Some, List, [], ◌∷◌, ◌++◌, drop, map, codes, pos, neg_ℤ, replicate}
use Rattle.std.proofs.Common.{arith}
use Rattle.theory.specs.declared.ext.Ext.TheVariants.{MinusInf, At, PlusInf}
use Rattle.model_text.specs.declared.fault.FaultWord.{FaultWord}
use Rattle.model_text.specs.declared.fault.FaultWord.TheVariants.{Header, Keyword, Name, Number, Limit, Shape, Order, Twice, Unknown, Loop}
use Rattle.model_text.specs.Names.{is_name}
use Rattle.model_text.specs.Lines.{text_lines, line_words, content}
use Rattle.model_text.specs.NumberWords.{number_of, fixed_of, units_of}
use Rattle.model_text.specs.ModelText.{first_fault, line_tests, progress_of, with_words, scale_of, with_line, line_listing, part_listing, line_names, line_items, part_items, part_base, part_lacks_numbers, part_is_beyond, is_node_line, is_arc_line, lacks_names, lacks_numbers, is_beyond, is_full, is_misshapen, has_fall, is_twice, is_unknown, is_loop, is_header, has_words, IsFirstFault, no_front}
use Rattle.model_text.specs.Scale.{plain}
use Rattle.model_text.specs.Printed.{pointed, filled}

-- the fault of a line by its words, after others; a test for UTF-8 doesn't compute here
abbrev after : List (List ℕ) → List ℕ → Option FaultWord
after before line = first_fault (drop 1 (line_tests (progress_of before) line))

-- the same after two nodes
abbrev fourth : List ℕ → Option FaultWord
fourth line = after (codes "network 1" ∷ codes "node s" ∷ codes "node t" ∷ []) line

refused : List (List ℕ × FaultWord)
refused =
    (codes "pipe a", Keyword)
    ∷ (codes "network 1", Keyword)
    ∷ (codes "arc a s", Name)
    ∷ (codes "arc a s t 0 1 x", Number)
    ∷ (codes "arc a s t 0 1 2 base", Number)
    ∷ (codes "arc a s t 0 base 1 base 2", Number)
    ∷ (codes "arc a s t 0 1000000001 x", Number)
    ∷ (codes "arc a s t 1000000001 base", Number)
    ∷ (codes "arc a s t 0 1 1000000001", Limit)
    ∷ (codes "arc a s t 0 1000000001", Limit)
    ∷ (codes "arc a s t 0 base -1000000001", Limit)
    ∷ (codes "arc a s t 0 2", Shape)
    ∷ (codes "arc a s t", Shape)
    ∷ (codes "arc a s t +inf", Shape)
    ∷ (codes "arc a s t 0 -inf 1", Shape)
    ∷ (codes "arc a s t 0 2 4 2 10", Order)
    ∷ (codes "arc a s t 3 0 3", Order)
    ∷ (codes "node s", Twice)
    ∷ (codes "arc a s z 0 1 2", Unknown)
    ∷ (codes "arc a z z 0 1 2", Unknown)
    ∷ (codes "arc a s s 0 1 2", Loop)
    ∷ []

refused_right : map (λ row. fourth row.0) refused ≡ map (λ row. Some row.1) refused
unfolding refused line_tests progress_of with_words scale_of units_of with_line line_words content line_listing part_listing line_names line_items part_items part_base part_lacks_numbers part_is_beyond is_node_line is_arc_line lacks_names lacks_numbers is_beyond is_full is_misshapen has_fall is_twice is_unknown is_loop is_header has_words
refused_right = refl

-- names come first, then the split at `base`
accepted : List (List ℕ)
accepted = codes "arc a s t 3" ∷ codes "arc a s t -1000000000 -1000000000 0 1000000000 1000000000" ∷ codes "node base 5" ∷ []

accepted_right : map fourth accepted ≡ map (λ line. None) accepted
unfolding accepted line_tests progress_of with_words scale_of units_of with_line line_words content line_listing part_listing line_names line_items part_items part_base part_lacks_numbers part_is_beyond is_node_line is_arc_line lacks_names lacks_numbers is_beyond is_full is_misshapen has_fall is_twice is_unknown is_loop is_header has_words
accepted_right = refl

-- a used name and equal ends; `base` as a name and in its own place; no header before a line
others : List (List (List ℕ) × List ℕ × Option FaultWord)
others =
    (codes "network 1" ∷ codes "node s" ∷ codes "arc a s t 0" ∷ [], codes "arc a s s 0", Some Twice)
    ∷ (codes "network 1" ∷ codes "node base" ∷ codes "node t" ∷ [], codes "arc base base t -inf 5 inf base 7 # c", None)
    ∷ (codes "# a" ∷ [], codes "node s", Some Header)
    ∷ []

others_right : map (λ row. after row.0 row.1) others ≡ map (λ row. row.2) others
unfolding others line_tests progress_of with_words scale_of units_of with_line line_words content line_listing part_listing line_names line_items part_items part_base part_lacks_numbers part_is_beyond is_node_line is_arc_line lacks_names lacks_numbers is_beyond is_full is_misshapen has_fall is_twice is_unknown is_loop is_header has_words
others_right = refl

words_right : line_words (codes "\tnode  n +2 03 06 base 10 # rest" ++ 13 ∷ [])
    ≡ codes "node" ∷ codes "n" ∷ codes "+2" ∷ codes "03" ∷ codes "06" ∷ codes "base" ∷ codes "10" ∷ []
unfolding line_words content
words_right = refl

-- a list with a base, one with two infinities, the empty list of a node
listings_right : map (λ line. line_listing plain (line_words line)) (codes "node n +2 03 06 base 10" ∷ codes "arc a s t -inf 3 inf" ∷ codes "node n base 4" ∷ [])
    ≡ record { items = At (pos 2) ∷ At (pos 3) ∷ At (pos 6) ∷ []; base = pos 10 }
    ∷ record { items = MinusInf ∷ At (pos 3) ∷ PlusInf ∷ []; base = pos 0 }
    ∷ record { items = At (pos 0) ∷ []; base = pos 4 }
    ∷ []
unfolding line_words content line_listing part_listing part_items part_base is_node_line units_of
listings_right = refl

lines_right : text_lines (codes "a" ++ 13 ∷ 10 ∷ 10 ∷ codes "b") ≡ (codes "a" ++ 13 ∷ []) ∷ [] ∷ codes "b" ∷ []
unfolding text_lines
lines_right = refl

-- one return goes, at the end alone: one before a comment stays in its word
returns_right : map content ((codes "a" ++ 13 ∷ 13 ∷ []) ∷ (13 ∷ []) ∷ (codes "a" ++ 13 ∷ codes "#") ∷ [])
    ≡ (codes "a" ++ 13 ∷ []) ∷ [] ∷ (codes "a" ++ 13 ∷ []) ∷ []
unfolding content
returns_right = refl

names_right : map is_name (replicate 64 97 ∷ replicate 65 97 ∷ [] ∷ []) ≡ true ∷ false ∷ false ∷ []
names_right = refl

many_digits : number_of (codes "-0000000000000000000000000000000001000000000") ≡ Some (neg_ℤ (pos 1000000000))
unfolding units_of
many_digits = refl

-- a text without words lacks its header after the last line
no_text : IsFirstFault [] 1 Header
unfolding text_lines progress_of
no_text = no_front refl (λ k below. absurd (omega arith))

-- ---- decimals

-- the front: `decimals` with two single digits up to 6 behind `network 2`
fronts : List (List (List ℕ) × List ℕ × Option FaultWord)
fronts =
    ([], codes "network 3", Some Header)
    ∷ (codes "network 2" ∷ [], codes "node s 1", Some Header)
    ∷ (codes "network 2" ∷ [], codes "decimals 1", Some Header)
    ∷ (codes "network 2" ∷ [], codes "decimals 1 7", Some Header)
    ∷ (codes "network 2" ∷ [], codes "decimals 1 02", Some Header)
    ∷ (codes "network 2" ∷ codes "# a" ∷ [], codes "decimals 1 2 # b", None)
    ∷ (codes "network 2" ∷ codes "decimals 1 2" ∷ [], codes "decimals 1 2", Some Keyword)
    ∷ (codes "network 2" ∷ codes "decimals 1 2" ∷ [], codes "arc a s t 0 2.255 4 5 10", Some Number)
    ∷ (codes "network 2" ∷ codes "decimals 1 2" ∷ [], codes "node s 0 2.25 1.55", Some Number)
    ∷ (codes "network 2" ∷ codes "decimals 1 2" ∷ [], codes "node s 0 2.25 1.5 base 1.2345", Some Number)
    ∷ (codes "network 2" ∷ codes "decimals 1 2" ∷ [], codes "node s 0 2.25 1.5 base 1.234", None)
    ∷ (codes "network 2" ∷ codes "decimals 1 2" ∷ [], codes "node s 100000000.1", Some Limit)
    ∷ (codes "network 1" ∷ [], codes "node s 1.0", Some Number)
    ∷ []

fronts_right : map (λ row. after row.0 row.1) fronts ≡ map (λ row. row.2) fronts
unfolding fronts line_tests progress_of with_words scale_of units_of with_line line_words content line_listing part_listing line_names line_items part_items part_base part_lacks_numbers part_is_beyond is_node_line is_arc_line lacks_names lacks_numbers is_beyond is_full is_misshapen has_fall is_twice is_unknown is_loop is_header has_words
fronts_right = refl

-- a trailing point, a leading point and two points are no numbers; zeros are filled up
fixed_right : map (fixed_of 2) (codes "1." ∷ codes ".5" ∷ codes "1.2.3" ∷ codes "1.234" ∷ codes "-" ∷ codes "+1.5" ∷ codes "-0.07" ∷ codes "12" ∷ [])
    ≡ None ∷ None ∷ None ∷ None ∷ None ∷ Some (pos 150) ∷ Some (neg_ℤ (pos 7)) ∷ Some (pos 1200) ∷ []
unfolding units_of
fixed_right = refl

-- exactly the decimals stand behind the point, and one digit before it at least
pointed_right : map (λ digits. pointed 2 (filled 3 digits)) (codes "0" ∷ codes "7" ∷ codes "50" ∷ codes "1250" ∷ [])
    ≡ codes "0.00" ∷ codes "0.07" ∷ codes "0.50" ∷ codes "12.50" ∷ []
pointed_right = refl
