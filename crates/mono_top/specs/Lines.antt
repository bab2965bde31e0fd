-- The lines that refuse.
use Rattle.std.specs.Prelude.{List, ℕ, pos, codes, ◌++◌}
use Rattle.model_text.specs.declared.fault.FaultWord.{FaultWord}
use Rattle.model_text.specs.declared.fault.FaultWord.TheVariants.{Utf8, Header, Keyword, Name, Number, Limit, Shape, Order, Twice, Unknown, Loop}
use Rattle.model_text.specs.Printed.{printed_number}
use Rattle.mono_top.specs.declared.lines.Place.{Place}
use Rattle.mono_top.specs.declared.lines.Place.TheVariants.{First, Second}

abbrev pub usage_line : List ℕ
usage_line = codes "usage: monotropic COMMAND WORDS\n"

abbrev pub unknown_arc_line : List ℕ
unknown_arc_line = codes "unknown arc\n"

abbrev pub unknown_node_line : List ℕ
unknown_node_line = codes "unknown node\n"

abbrev pub too_big_line : List ℕ
too_big_line = codes "too big\n"

abbrev pub not_converted_line : List ℕ
not_converted_line = codes "not converted\n"

abbrev pub no_flow_line : List ℕ
no_flow_line = codes "no flow\n"

abbrev pub missing_line : Place → List ℕ
missing_line First = codes "missing file 1\n"
missing_line Second = codes "missing file 2\n"

abbrev pub read_fault_line : Place → List ℕ
read_fault_line First = codes "read fault file 1\n"
read_fault_line Second = codes "read fault file 2\n"

abbrev pub too_long_line : Place → List ℕ
too_long_line First = codes "too long file 1\n"
too_long_line Second = codes "too long file 2\n"

abbrev pub word_of : FaultWord → List ℕ
word_of Utf8 = codes "utf8"
word_of Header = codes "header"
word_of Keyword = codes "word"
word_of Name = codes "name"
word_of Number = codes "number"
word_of Limit = codes "limit"
word_of Shape = codes "shape"
word_of Order = codes "order"
word_of Twice = codes "twice"
word_of Unknown = codes "unknown"
word_of Loop = codes "loop"

-- the first bad line of the model text, or of a changes text, with the word for its first fault
abbrev pub fault_line : List ℕ → ℕ → FaultWord → List ℕ
fault_line opening line word = opening ++ printed_number (pos line) ++ codes ": " ++ word_of word ++ codes "\n"

abbrev pub model_line : ℕ → FaultWord → List ℕ
model_line line word = fault_line (codes "model line ") line word

abbrev pub changes_line : ℕ → FaultWord → List ℕ
changes_line line word = fault_line (codes "changes line ") line word
