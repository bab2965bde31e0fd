-- What `tableau` answers to a model: the tableau of the tree that the model's arcs lead to, rows and columns in the order
-- of their arcs.
use Rattle.std.specs.Prelude.{◌≡◌, ℕ, zero, suc, ℤ, pos, negsuc, List, [], ◌∷◌, ◌++◌, length, codes}
use Rattle.theory.specs.Grounded.{Entries, grounded, arc_name}
use Rattle.model_text.specs.Printed.{printed_line, printed_number}
use Rattle.cert_text.specs.CertificateText.{texts_below}
use Rattle.tucker_tableau.specs.Tableau.{number}
use Rattle.tucker_tableau.specs.Table.{Table, entry, IsTableauOf}
use Rattle.tucker_tableau.specs.Lead.{IsLed}
use Rattle.mono_top.specs.Ascending.{AreAscending}
use Rattle.mono_top.specs.declared.status.Status.{Status}
use Rattle.mono_top.specs.declared.status.Status.TheVariants.{Done}

-- ---- the text, by the places of the rows and of the columns in the order in which they are written

-- the counts of rows and columns
abbrev pub size_line : Table → List ℕ
size_line table =
    printed_line (codes "tableau") (printed_number (pos (length table.rows)) ∷ printed_number (pos (length table.columns)) ∷ [])

-- `column ARC`
abbrev pub column_line : Entries → Table → ℕ → List ℕ
column_line m table j = printed_line (codes "column") (arc_name m (number table.columns j) ∷ [])

-- 0 (48), + (43) and - (45) for 0, positive and negative entries
abbrev pub sign_of : ℤ → ℕ
sign_of (pos zero) = 48
sign_of (pos (suc n)) = 43
sign_of (negsuc n) = 45

-- a space (32), and the sign of an entry
abbrev pub sign_text : Table → ℕ → ℕ → List ℕ
sign_text table i j = 32 ∷ sign_of (entry table i j) ∷ []

-- `row ARC` and the signs of the row
abbrev pub row_line : Entries → Table → List ℕ → ℕ → List ℕ
row_line m table columns i =
    codes "row " ++ arc_name m (number table.rows i) ++ texts_below (length columns) (λ k. sign_text table i (number columns k))
    ++ 10 ∷ []

abbrev pub tableau_text : Entries → Table → List ℕ → List ℕ → List ℕ
tableau_text m table rows columns =
    size_line table ++ texts_below (length columns) (λ k. column_line m table (number columns k))
    ++ texts_below (length rows) (λ k. row_line m table columns (number rows k))

-- rows and columns in the ascending order of the numbers of their arcs
pub record IsPrinted (m : Entries) (table : Table) (text : List ℕ) : Type 0 where
  pub rows : List ℕ
  pub columns : List ℕ
  pub rows_ascend : AreAscending table.rows rows
  pub columns_ascend : AreAscending table.columns columns
  pub is : text ≡ tableau_text m table rows columns

-- ---- the answer

pub record ShowsTableau (m : Entries) (status : Status) (text : List ℕ) : Type 0 where
  pub table : Table
  pub of : IsTableauOf (grounded m) table
  pub led : IsLed (grounded m) (length m.nodes) table.rows
  pub done : status ≡ Done
  pub printed : IsPrinted m table text
