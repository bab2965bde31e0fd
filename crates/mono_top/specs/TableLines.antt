-- The line for the first bad line of a table.
use Rattle.std.specs.Prelude.{List, ℕ, pos, codes, ◌++◌}
use Rattle.model_text.specs.Printed.{printed_number}
use Rattle.transport_front.specs.declared.fault.TableWord.{TableWord}
use Rattle.transport_front.specs.declared.fault.TableWord.TheVariants.{Utf8, Header, Keyword, Name, Number, Limit, Order, Twice, Unknown}

abbrev pub table_word : TableWord → List ℕ
table_word Utf8 = codes "utf8"
table_word Header = codes "header"
table_word Keyword = codes "word"
table_word Name = codes "name"
table_word Number = codes "number"
table_word Limit = codes "limit"
table_word Order = codes "order"
table_word Twice = codes "twice"
table_word Unknown = codes "unknown"

abbrev pub table_line : ℕ → TableWord → List ℕ
table_line line word = codes "table line " ++ printed_number (pos line) ++ codes ": " ++ table_word word ++ codes "\n"
