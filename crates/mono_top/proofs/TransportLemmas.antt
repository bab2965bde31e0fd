-- The texts of a plan and of a shortage, by what the certificate of the compiled model says of the table: a plant's total is the flow of its place, and
-- the lanes' amounts stand behind the places.
use Rattle.std.proofs.Common.{◌≡◌, ℕ, zero, suc, ◌+◌, ◌<◌, ◌≤◌, ℤ, Option, Some, Bool, true, false, if◌then◌else◌, List, [], ◌∷◌, ◌++◌, length, drop, refl, sym, ap, ap₂, ◌∙◌, codes, inl, inr, subst, arith}
use Rattle.std.proofs.lemmas.List.{get_or-drop}
use Rattle.std.specs.Prelude.{pos, neg_ℤ}
use Rattle.theory.specs.Network.{«at»}
use Rattle.theory.specs.Grounded.{grounded}
use Rattle.theory.specs.Certificate.{IsValid}
use Rattle.theory.specs.Certificate.Certificate.{optimal, cut}
use Rattle.model_text.specs.Printed.{printed_line, printed_number}
use Rattle.cert_text.specs.CertificateText.{texts_below}
use Rattle.transport_front.specs.Table.{Table, IsTable, is_plant, kind_at, place_at, compiled}
use Rattle.transport_front.specs.Plan.{AreTotals, taken, outside}
use Rattle.transport_front.proofs.Compiled.{arc_count, node_count}
use Rattle.transport_front.proofs.Law.{transport_law}
use Rattle.mono_top.specs.Transports.{headed, plant_line, lane_line, plan_text, flows_text, short_text, Plans}
use Rattle.std.specs.Option.{ForSome}
use Rattle.theory.specs.Limits.{file_most}
use Rattle.outside_io.specs.Files.{Files, file_of}
use Rattle.transport_front.specs.TableText.{Spells}
use Rattle.transport_front.proofs.TextLaws.{one_table}
use Rattle.mono_top.specs.CountsReadings.{ReadsCurves}
use Rattle.mono_top.specs.NetBound.{net_bound}
use Rattle.mono_top.specs.Request.{solve}
use Rattle.mono_top.specs.TableFiles.{ReadsTableText, ReadsTableFile}
use Rattle.mono_top.specs.declared.status.Status.{Status}
use Rattle.mono_top.specs.declared.status.Status.TheVariants.{Done, Cut}

texts-same : (n : ℕ) (f g : ℕ → List ℕ) → ((k : ℕ) → k < n → f k ≡ g k) → texts_below n f ≡ texts_below n g
texts-same zero f g same = refl
texts-same (suc n) f g same = ap₂ ◌++◌ (texts-same n f g (λ k below. same k (omega arith))) (same n (omega arith))

-- of a shop nothing is printed
plant_by : (b : Bool) (line : ℤ → List ℕ) (x y : ℤ) → (b ≡ true → x ≡ y) → ◌≡◌ {A = List ℕ} (if b then line x else []) (if b then line y else [])
plant_by true line x y same = ap line (same refl)
plant_by false line x y same = refl

pub plan_text-is : (t : Table) (x : List ℤ) (cost : ℤ) → AreTotals t x (drop (length t.places) x) → flows_text t x cost ≡ plan_text t (drop (length t.places) x) cost
plan_text-is t x cost totals =
    let plan = drop (length t.places) x in
    let plants = texts-same (length t.places) (λ i. plant_line t i («at» x i)) (λ i. plant_line t i (taken t plan i))
    (λ i there. plant_by (is_plant (kind_at t i)) (λ total. printed_line (codes "plant") ((place_at t i).name ∷ printed_number total ∷ [])) («at» x i) (taken t plan i) (totals i there)) in
    let lanes = texts-same (length t.lanes) (λ j. lane_line t j («at» x (length t.places + j))) (λ j. lane_line t j («at» plan j))
    (λ j there. ap (lane_line t j) (sym (get_or-drop (length t.places) x j (pos 0)))) in
    ap₂ (λ ps ls. headed (codes "cost") cost ++ ps ++ ls) plants lanes

-- ---- what is printed is the answer

pub planned_by : (t : Table) (x u : List ℤ) (cost value : ℤ) (status : Status) (text : List ℕ) → IsTable t → IsValid (grounded (compiled t)) (optimal x u cost value)
    → status ≡ Done → text ≡ flows_text t x cost → Plans t status text
planned_by t x u cost value status text kept valid done is =
    let says = transport_law t (optimal x u cost value) kept valid in
    inl (record { plan = drop (length t.places) x; cost = cost; best = says.0; done = done; is = is ∙ plan_text-is t x cost says.1 })

pub short_by : (t : Table) (side : List Bool) (capacity : ℤ) (status : Status) (text : List ℕ) → IsTable t → IsValid (grounded (compiled t)) (cut side capacity)
    → status ≡ Cut → text ≡ short_text t (outside side) (neg_ℤ capacity) → Plans t status text
short_by t side capacity status text kept valid unmet is =
    inr (record { set = outside side; short = neg_ℤ capacity; falls_short = transport_law t (cut side capacity) kept valid; unmet = unmet; is = is })

-- ---- what fits

pub flow_each : (t : Table) (x u : List ℤ) (cost value : ℤ) → IsValid (grounded (compiled t)) (optimal x u cost value) → length x ≡ length t.places + length t.lanes
flow_each t x u cost value valid = valid.fits.0.0.one_each ∙ arc_count t

pub mark_each : (t : Table) (side : List Bool) (capacity : ℤ) → IsValid (grounded (compiled t)) (cut side capacity) → length side ≡ length t.places + 1
mark_each t side capacity valid = valid.fits.0 ∙ node_count t

-- ---- readings

-- a text that spells this table
pub reads_spelled : (bytes : List ℕ) (t : Table) (before now : ℕ) → Spells bytes t → ReadsCurves solve (compiled t) before now → ReadsTableText bytes before now
reads_spelled bytes t before now spells reads = record {
  no_fewer = reads.no_fewer;
  bounded = λ s other. subst (λ (r : Table). now ≤ before + net_bound (grounded (compiled r))) (one_table bytes t s spells other) reads.bounded;
  unread = λ none. absurd (none t spells);
}

-- nothing was read
pub reads_nothing : (bytes : List ℕ) (before now : ℕ) → now ≡ before → ReadsTableText bytes before now
reads_nothing bytes before now same = record { no_fewer = omega arith; bounded = λ t spells. omega arith; unread = λ none. same }

-- the text is that of the file
pub reads_file : (table bytes : List ℕ) (holds : Option Files) (before now : ℕ) → ForSome holds (λ files. file_of files table ≡ Some bytes) → length bytes ≤ file_most
    → ReadsTableText bytes before now → ReadsTableFile table holds before now
reads_file table bytes holds before now held short reads = record {
  no_fewer = reads.no_fewer;
  bounded = λ files told t file.
      let same : file.0 ≡ bytes = let first = held files told in let also = file.1 in cc in
      reads.bounded t (subst (λ (b : List ℕ). Spells b t) same file.3);
  unread = λ files told none. reads.unread (λ t spells. none (bytes, held files told, short, (t, spells)));
}

pub reads_no_file : (table : List ℕ) (holds : Option Files) (before now : ℕ) → now ≡ before → ReadsTableFile table holds before now
reads_no_file table holds before now same = record { no_fewer = omega arith; bounded = λ files told t file. omega arith; unread = λ files told none. same }
