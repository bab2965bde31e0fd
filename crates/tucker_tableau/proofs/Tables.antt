-- Whole tables: what a pivot makes of one, and one arc further in `lead`.
use Rattle.std.proofs.Common.{◌≡◌, ◌≢◌, ◌↔◌, ℕ, ◌+◌, ◌*◌, ◌/◌, ◌%◌, ◌<◌, ◌≤◌, ◌-◌, ◌==◌, nat_lt, Bool, true, false, cond, ℤ, pos, ◌*ℤ◌, ◌-ℤ◌, List, length, set, get_or, refl, sym, ap, ap₂, ◌∙◌, subst, ⊎_elim, length-set, arith}
use Rattle.std.proofs.lemmas.Int.{ints}
use Rattle.std.proofs.lemmas.Bool.{lt-ltb}
use Rattle.std.proofs.lemmas.List.{same_lists, get_or_default}
use Rattle.std.proofs.lemmas.Nat.{row_fits, div_below}
use Rattle.theory.specs.Limits.{IsWithin}
use Rattle.theory.specs.Sums.{counted}
use Rattle.theory.specs.declared.network.Arc.{Arc}
use Rattle.theory.specs.Network.{Network, IsNetwork, arc_at}
use Rattle.theory.specs.Tucker.{HasArc}
use Rattle.net_incidence.specs.Graph.{Graph, network, bare}
use Rattle.ground_net.specs.Ground.{IsGrounded}
use Rattle.tucker_tableau.specs.Tableau.{number, IsLawful}
use Rattle.tucker_tableau.specs.Table.{Table, cell, entry, IsTableauOf}
use Rattle.tucker_tableau.specs.Pivoted.{pivoted, IsPivoted}
use Rattle.tucker_tableau.specs.First.{star, IsFirst}
use Rattle.tucker_tableau.specs.Cells.{IsTablePivoted, IsStar}
use Rattle.tucker_tableau.specs.Kept.{tableau_arcs_most, IsCounting, IsLawfulTable, IsKept}
use Rattle.tucker_tableau.specs.Places.{IsNowhere, IsAt}
use Rattle.tucker_tableau.specs.Lead.{IsGroundTree, IsModelNetwork, IsLed, NoGround, IsGreatest, IsLedTo, IsTaken}
use Rattle.tucker_tableau.specs.Leading.{IsLookedAt, KeepsTableau, IsLeading}
use Rattle.tucker_tableau.proofs.Exchange.{number-same, lawful_pivoted, lawful_same, pivoted-twice, set-back}
use Rattle.tucker_tableau.proofs.Ground.{IsGroundedAt, first_lawful}
use Rattle.tucker_tableau.proofs.Circuits as circuits
use Rattle.tucker_tableau.proofs.Bridge.{entry_unit, tucker_tableau, lawful_tableau}
use Rattle.tucker_tableau.proofs.Led.{led-none, led-no_ground, led-greatest, led-all}

-- ---- units

unit_within : (z : ℤ) → circuits.IsUnit z → IsWithin 1 z
unit_within z circuits.minus = (omega (arith, ints), omega (arith, ints))
unit_within z circuits.none = (omega (arith, ints), omega (arith, ints))
unit_within z circuits.plus = (omega (arith, ints), omega (arith, ints))

unit_square : (z : ℤ) → circuits.IsUnit z → z ≢ pos 0 → z *ℤ z ≡ pos 1
unit_square z circuits.minus ne = refl
unit_square z circuits.none ne = absurd (ne refl)
unit_square z circuits.plus ne = refl

pub kept_unit : (table : Table) → IsKept table → (i j : ℕ) → i < length table.rows → j < length table.columns → IsWithin 1 (entry table i j)
kept_unit table kept i j l m = unit_within (entry table i j) (entry_unit kept.net table.rows table.columns (entry table) kept.good kept.lawful i j l m)

square : (net : Network) (table : Table) → IsNetwork net → IsLawfulTable net table → (r s : ℕ) → r < length table.rows → s < length table.columns
    → entry table r s ≢ pos 0 → entry table r s *ℤ entry table r s ≡ pos 1
square net table good lawful r s row column passes =
    unit_square (entry table r s) (entry_unit net table.rows table.columns (entry table) good lawful r s row column) passes

-- the row of an entry is within the list
pub row_room : (table : Table) → IsKept table → (i : ℕ) → i < length table.rows → i * length table.columns + length table.columns ≤ length table.entries
row_room table kept i l = let e = kept.size in let f = row_fits i (length table.columns) (length table.rows) (length table.columns) l (omega arith) in omega arith

-- ---- a pivot

pub pivoted_table : (old new : Table) (r s : ℕ) → new.rows ≡ set old.rows r (number old.columns s) → new.columns ≡ set old.columns s (number old.rows r)
    → IsTablePivoted (length old.rows) (length old.columns) old.entries new.entries r s → IsPivoted old new r s
pivoted_table old new r s rows columns changed =
    let width : length new.columns ≡ length old.columns = ap length columns ∙ length-set old.columns s (number old.rows r) in
    record {
      rows = rows;
      columns = columns;
      size = changed.size;
      entries = λ i j l m. ap (λ w. cell new.entries w i j) width ∙ changed.cells i j l m;
    }

row_count : (old new : Table) (r s : ℕ) → IsPivoted old new r s → length new.rows ≡ length old.rows
row_count old new r s p = ap length p.rows ∙ length-set old.rows r (number old.columns s)

column_count : (old new : Table) (r s : ℕ) → IsPivoted old new r s → length new.columns ≡ length old.columns
column_count old new r s p = ap length p.columns ∙ length-set old.columns s (number old.rows r)

pub pivoted_lawful : (net : Network) (old new : Table) (r s : ℕ) → IsNetwork net → IsLawfulTable net old → r < length old.rows → s < length old.columns
    → entry old r s ≢ pos 0 → IsPivoted old new r s → IsLawfulTable net new
pivoted_lawful net old new r s good lawful row column passes p =
    let into = number old.columns s in
    let out = number old.rows r in
    let base = lawful_pivoted net old.rows old.columns (entry old) r s lawful row column (square net old good lawful r s row column passes) in
    let same : IsLawful net (set old.rows r into) (set old.columns s out) (entry new) =
    lawful_same net (set old.rows r into) (set old.columns s out) (pivoted (entry old) r s) (entry new)
    (λ i j l m. p.entries i j (rw (length-set old.rows r into) at l) (rw (length-set old.columns s out) at m)) base in
    let P : List ℕ → Type 0 = λ rows. IsLawful net rows new.columns (entry new) in
    let Q : List ℕ → Type 0 = λ columns. IsLawful net (set old.rows r into) columns (entry new) in
    subst P (sym p.rows) (subst Q (sym p.columns) same)

pub pivoted_kept : (old new : Table) (r s : ℕ) → IsKept old → r < length old.rows → s < length old.columns → entry old r s ≢ pos 0 → IsPivoted old new r s → IsKept new
pivoted_kept old new r s kept row column passes p =
    let rows = row_count old new r s p in
    let columns = column_count old new r s p in
    record {
      size = p.size ∙ kept.size ∙ ap₂ (λ h w. h * w) (sym rows) (sym columns);
      few = let f = kept.few in omega arith;
      net = kept.net;
      good = kept.good;
      lawful = pivoted_lawful kept.net old new r s kept.good kept.lawful row column passes p;
    }

pub pivoted_tableau : (net : Network) (old new : Table) (r s : ℕ) → IsNetwork net → IsTableauOf net old → r < length old.rows → s < length old.columns
    → entry old r s ≢ pos 0 → IsPivoted old new r s → IsTableauOf net new
pivoted_tableau net old new r s good tableau row column passes p =
    tucker_tableau net new.rows new.columns (entry new) good
    (pivoted_lawful net old new r s good (lawful_tableau net old.rows old.columns (entry old) tableau) row column passes p)

table_same : (a b : Table) → a.rows ≡ b.rows → a.columns ≡ b.columns → a.entries ≡ b.entries → a ≡ b
table_same a b e f g =
    ap (λ (rows : List ℕ). let t : Table = record { rows = rows; columns = a.columns; entries = a.entries } in t) e
    ∙ ap (λ (columns : List ℕ). let t : Table = record { rows = b.rows; columns = columns; entries = a.entries } in t) f
    ∙ ap (λ (entries : List ℤ). let t : Table = record { rows = b.rows; columns = b.columns; entries = entries } in t) g

pub pivoted_again : (old new next : Table) (r s : ℕ) → IsKept old → r < length old.rows → s < length old.columns → entry old r s ≢ pos 0
    → IsPivoted old new r s → IsPivoted new next r s → next ≡ old
pivoted_again old new next r s kept row column passes p q =
    let w = length old.columns in
    let h = length old.rows in
    let rows_new = row_count old new r s p in
    let columns_new = column_count old new r s p in
    let rows_next = row_count new next r s q ∙ rows_new in
    let columns_next : length next.columns ≡ w = column_count new next r s q ∙ columns_new in
    let out = number old.rows r in
    let into = number old.columns s in
    let in_column : number new.columns s ≡ out = ap (λ c. number c s) p.columns ∙ number-same old.columns s out s column refl in
    let in_row : number new.rows r ≡ into = ap (λ c. number c r) p.rows ∙ number-same old.rows r into r row refl in
    let cells = pivoted-twice (entry old) (entry new) r s h w (square kept.net old kept.good kept.lawful r s row column passes) row column p.entries in
    let back : (i j : ℕ) → i < h → j < w → entry next i j ≡ entry old i j = λ i j l m.
    q.entries i j (rw rows_new l) (rw columns_new m) ∙ cells i j l m in
    table_same next old
    (q.rows ∙ ap₂ (λ rows c. set rows r c) p.rows in_column ∙ set-back old.rows r into row)
    (q.columns ∙ ap₂ (λ columns c. set columns s c) p.columns in_row ∙ set-back old.columns s out column)
    (same_lists next.entries old.entries (q.size ∙ p.size) (λ k d l.
    let size : length next.entries ≡ h * w = q.size ∙ p.size ∙ kept.size in
    let below : k < h * w = omega arith in
    let wide : 0 < w = omega arith in
    let there : k < length old.entries = let e = kept.size in omega arith in
    let place : k / w * w + k % w ≡ k = at_place k w wide in
    get_or_default next.entries k d (pos 0) l
    ∙ ap (λ n. get_or next.entries n (pos 0)) (sym place) ∙ ap (λ v. cell next.entries v (k / w) (k % w)) (sym columns_next)
    ∙ back (k / w) (k % w) (div_below k w h wide below) (rest_below k w wide)
    ∙ ap (λ n. get_or old.entries n (pos 0)) place ∙ get_or_default old.entries k (pos 0) d there))
  where
    at_place : (k w : ℕ) → 0 < w → k / w * w + k % w ≡ k
    at_place k w l = omega arith

    rest_below : (k w : ℕ) → 0 < w → k % w < w
    rest_below k w l = omega arith

-- ---- the first tableau

pub first_tableau : (net : Network) (table : Table) → IsNetwork net → IsGroundedAt net (length table.rows) → IsFirst net table → IsLawfulTable net table
first_tableau net table good ground first =
    lawful_same net table.rows table.columns (star net (length table.rows)) (entry table) first.entries (first_lawful net table good ground first)

-- ---- lead

pub taken_keeps : (old new : Table) (n s : ℕ) → s < length old.columns → IsTaken old new n s → KeepsTableau old new
taken_keeps old new n s column taken net good tableau =
    ⊎_elim
    (λ (none : NoGround old n s (length old.rows) × (new ≡ old)). let P : Table → Type 0 = λ t. IsTableauOf net t in subst P (sym none.1) tableau)
    (λ (some : (r : ℕ) × IsGreatest old n s (length old.rows) r × IsPivoted old new r s).
    pivoted_tableau net old new some.0 s good tableau some.1.row column some.1.passes some.2)
    taken

same_counts : (old new : Table) (k : ℕ) → IsLookedAt old new k → (length new.rows ≡ length old.rows) × (length new.columns ≡ length old.columns)
same_counts old new k looked =
    ⊎_elim
    (λ (none : IsNowhere old.columns k × (new ≡ old)). (ap (λ t. length t.rows) none.1, ap (λ t. length t.columns) none.1))
    (λ (some : (s : ℕ) × IsAt old.columns k s × IsTaken old new (length old.rows) s).
    ⊎_elim
    (λ (stays : NoGround old (length old.rows) some.0 (length old.rows) × (new ≡ old)). (ap (λ t. length t.rows) stays.1, ap (λ t. length t.columns) stays.1))
    (λ (p : (r : ℕ) × IsGreatest old (length old.rows) some.0 (length old.rows) r × IsPivoted old new r some.0).
    (row_count old new p.0 some.0 p.2, column_count old new p.0 some.0 p.2))
    some.2)
    looked

pub leading-none : (table : Table) → ((q : ℕ) → HasArc table.rows q ↔ (q < length table.rows)) → IsLeading table table (length table.rows)
leading-none table ground =
    record { rows = refl; columns = refl; keeps = λ net good t. t; led = λ net good model t. led-none net table.rows ground }

led_step : (net : Network) (n k : ℕ) (now new : Table) → n ≤ k → k < length net.arcs → n ≡ length now.rows → IsNetwork net → IsModelNetwork net n → IsLawfulTable net now
    → IsLedTo net n now.rows k → IsLookedAt now new k → IsLedTo net n new.rows (k + 1)
led_step net n k now new model_arc there count good model lawful state looked =
    ⊎_elim
    (λ (none : IsNowhere now.columns k × (new ≡ now)). absurd (⊎_elim
    (λ (h : HasArc now.rows k). let e = h.is in ⊎_elim (λ (g : number now.rows h.place < n). strict n k (number now.rows h.place) model_arc e g) (λ (b : number now.rows h.place < k). strict_too k (number now.rows h.place) e b) (state.before h.place h.there))
    (λ (h : HasArc now.columns k). none.0 h.place h.there h.is) (lawful.split.every k there)))
    (λ (some : (s : ℕ) × IsAt now.columns k s × IsTaken now new (length now.rows) s).
    let s = some.0 in
    let e : number now.columns s ≡ k = some.1.is in
    let P : ℕ → Type 0 = λ m. IsLedTo net n now.rows m in
    let Q : ℕ → Type 0 = λ m. n ≤ m in
    let state' = subst P (sym e) state in
    let model_arc' = subst Q (sym e) model_arc in
    ⊎_elim
    (λ (stays : NoGround now (length now.rows) s (length now.rows) × (new ≡ now)).
    let R : ℕ → Type 0 = λ m. IsLedTo net n now.rows (m + 1) in
    let S : Table → Type 0 = λ t. IsLedTo net n t.rows (k + 1) in
    subst S (sym stays.1) (subst R e
    (led-no_ground net n now.rows now.columns (entry now) s good model lawful model_arc' state' some.1.there (λ i l g. stays.0 i l (omega arith)))))
    (λ (p : (r : ℕ) × IsGreatest now (length now.rows) s (length now.rows) r × IsPivoted now new r s).
    let r = p.0 in
    let best = p.1 in
    let R : ℕ → Type 0 = λ m. IsLedTo net n (set now.rows r (number now.columns s)) (m + 1) in
    let S : List ℕ → Type 0 = λ rows. IsLedTo net n rows (k + 1) in
    let low = best.ground in
    subst S (sym p.2.rows) (subst R e
    (led-greatest net n now.rows now.columns (entry now) r s good model lawful model_arc' state' some.1.there best.row (omega arith) best.passes (λ i l g ne. best.greatest i l (omega arith) ne))))
    some.2)
    looked
  where
    strict : (n k m : ℕ) → n ≤ k → m ≡ k → m < n → ⊥
    strict n k m l e g = omega arith

    strict_too : (k m : ℕ) → m ≡ k → m < k → ⊥
    strict_too k m e b = omega arith

pub leading-more : (old now new : Table) (k : ℕ) → length old.rows ≤ k → k < length old.rows + length old.columns → IsLeading old now k
    → IsLookedAt now new k → KeepsTableau now new → IsLeading old new (k + 1)
leading-more old now new k low high state looked keeps =
    let counts = same_counts now new k looked in
    record {
      rows = counts.0 ∙ state.rows;
      columns = counts.1 ∙ state.columns;
      keeps = λ net good t. keeps net good (state.keeps net good t);
      led = λ net good model t. (
          let lawful = lawful_tableau net now.rows now.columns (entry now) (state.keeps net good t) in
          let size = lawful.split.size in
          let r = state.rows in
          let c = state.columns in
          let there : k < length net.arcs = omega arith in
          led_step net (length old.rows) k now new low there (sym state.rows) good model lawful (state.led net good model t) looked);
    }

pub leading-all : (old now : Table) (k : ℕ) → k ≡ length old.rows + length old.columns → IsLeading old now k
    → (net : Network) → IsNetwork net → IsModelNetwork net (length old.rows) → IsTableauOf net old → IsLed net (length old.rows) now.rows
leading-all old now k end state net good model t =
    let lawful = lawful_tableau net now.rows now.columns (entry now) (state.keeps net good t) in
    let size = lawful.split.size in
    let r = state.rows in
    let c = state.columns in
    let e : k ≡ length net.arcs = omega arith in
    let P : ℕ → Type 0 = λ m. IsLedTo net (length old.rows) now.rows m in
    led-all net (length old.rows) now.rows now.columns (entry now) model lawful (subst P e (state.led net good model t))

-- the lists that the code makes
pub first_is : (net : Network) (h : Graph) (rows columns : List ℕ) (entries : List ℤ) (n m : ℕ) → network h net.curves ≡ net → IsGrounded net
    → n ≡ h.nodes - 1 → m ≡ length h.arcs - n → IsCounting 0 n rows → IsCounting n m columns → IsStar (bare h) n m entries m
    → IsFirst net (record { rows = rows; columns = columns; entries = entries })
first_is net h rows columns entries n m same ground rows_count columns_count counted_rows counted_columns star_is =
    let nodes : h.nodes ≡ net.nodes = ap (λ g. g.nodes) same in
    let arcs : h.arcs ≡ net.arcs = ap (λ g. g.arcs) same in
    let arc_count : length h.arcs ≡ length net.arcs = ap length arcs in
    let some = ground.ground_there in
    let each = ground.arc_each in
    let high = counted_rows.size in
    let wide = counted_columns.size in
    record {
      row_count = omega arith;
      column_count = omega arith;
      rows = λ i l. (let e = counted_rows.numbers i (omega arith) in omega arith);
      columns = λ j l. (let e = counted_columns.numbers j (omega arith) in omega arith);
      entries = λ i j l k.
          ap (λ w. cell entries w i j) wide ∙ star_is.cells i j (omega arith) (omega arith) ∙ whole (nat_lt j m) (lt-ltb j m (omega arith)) n i j
          ∙ ap₂ (λ (list : List Arc) (count : ℕ). counted ((arc_at list (count + j)).from.0 == i + 1) (pos 1) -ℤ counted ((arc_at list (count + j)).to.0 == i + 1) (pos 1)) arcs (sym high);
    }
  where
    whole : (b : Bool) → b ≡ true → (n i j : ℕ) → (cond b (star (bare h) n i j) (pos 0)) ≡ star (bare h) n i j
    whole true e n i j = refl
    whole false e n i j = cc

pub grounded_at : (net : Network) (n : ℕ) → IsGrounded net → n + 1 ≡ net.nodes → IsGroundedAt net n
grounded_at net n ground count =
    record { nodes = count; tails = λ i l. ground.tails i (omega arith); heads = λ i l. ground.heads i (omega arith) }

pub first_kept : (net : Network) (table : Table) (n m : ℕ) → IsGrounded net → length net.arcs ≤ tableau_arcs_most → IsFirst net table
    → length table.rows ≡ n → length table.columns ≡ m → length table.entries ≡ n * m → IsKept table
first_kept net table n m ground few first rows columns size =
    let count = first.column_count in
    record {
      size = size ∙ ap₂ (λ h w. h * w) (sym rows) (sym columns);
      few = omega arith;
      net = net;
      good = ground.is_network;
      lawful = first_tableau net table ground.is_network (grounded_at net (length table.rows) ground first.row_count) first;
    }

pub first_of : (net : Network) (table : Table) → IsGrounded net → IsFirst net table → IsTableauOf net table
first_of net table ground first =
    tucker_tableau net table.rows table.columns (entry table) ground.is_network
    (first_tableau net table ground.is_network (grounded_at net (length table.rows) ground first.row_count) first)

pub first_ground : (net : Network) (table : Table) → IsFirst net table → IsGroundTree table
first_ground net table first arc = (
  λ h. let e = first.rows h.place h.there in let f = h.is in let l = h.there in omega arith,
  λ l. record { place = arc; there = l; is = first.rows arc l },
)
