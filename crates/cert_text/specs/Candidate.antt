-- What the reader knows of the certificate that it reads from a text before it compares the two.
use Rattle.std.specs.Prelude.{◌≡◌, ◌≢◌, ℕ, zero, suc, ◌+◌, ◌-◌, ◌^◌, ◌<◌, ◌≤◌, ◌==◌, nat_lt, if◌then◌else◌, ℤ, pos, Bool, Option, List, [], ◌∷◌, ◌++◌, length, take, true}
use Rattle.std.specs.Prelude.{codes}
use Rattle.std.specs.List.{list_all}
use Rattle.std.specs.Option.{option_map}
use Rattle.std.specs.Str.{bytes_eq}
use Rattle.theory.specs.declared.network.Step.{Step}
use Rattle.theory.specs.Network.{«at»}
use Rattle.theory.specs.Cut.{holds}
use Rattle.theory.specs.Circuit.{step}
use Rattle.theory.specs.Grounded.{Entries, grounded}
use Rattle.model_text.specs.declared.scale.Scale.{Scale}
use Rattle.theory.specs.Limits.{IsWithin, flow_most, sum_most}
use Rattle.theory.specs.Certificate.{Certificate, Fits}
use Rattle.theory.specs.Certificate.Certificate.{optimal, cut, circuit}
use Rattle.model_text.specs.Model.{node_names, arc_names, place_of}
use Rattle.model_text.specs.Printed.{printed_fixed}
use Rattle.cert_text.specs.CertificateText.{certificate_text, node_line, step_line}
use Rattle.cert_text.specs.BadLine.{pieces}

-- ---- lines of what is left of a text

-- up to the first LF, with it
abbrev pub first_line : List ℕ → List ℕ
first_line [] = []
first_line (b ∷ bs) = if b == 10 then 10 ∷ [] else b ∷ first_line bs

abbrev pub after_line : List ℕ → List ℕ
after_line [] = []
after_line (b ∷ bs) = if b == 10 then bs else after_line bs

-- after n lines
abbrev pub after : ℕ → List ℕ → List ℕ
after zero text = text
after (suc n) text = after_line (after n text)

abbrev pub line_at : List ℕ → ℕ → List ℕ
line_at text n = first_line (after n text)

-- ---- what a line is read as

-- each byte is above the space (32), and so no LF
abbrev pub IsPlain : List ℕ → Type 0
IsPlain word = list_all (nat_lt 32) word ≡ true

-- the number at the end of a line, however many decimals it has; any number within the limit where none ends it
pub record IsLastNumber (most : ℕ) (line : List ℕ) (z : ℤ) : Type 0 where
  pub within : IsWithin most z
  pub found : (decimals : ℕ) (front : List ℕ) (y : ℤ) → IsWithin most y → line ≡ front ++ 32 ∷ printed_fixed decimals y ++ 10 ∷ [] → z ≡ y

-- the two numbers at the end of a line
pub record AreLastNumbers (line : List ℕ) (u y : ℤ) : Type 0 where
  pub first_within : IsWithin flow_most u
  pub second_within : IsWithin flow_most y
  pub found : (decimals others : ℕ) (front : List ℕ) (v z : ℤ) → IsWithin flow_most v → IsWithin flow_most z
      → line ≡ front ++ 32 ∷ printed_fixed decimals v ++ 32 ∷ printed_fixed others z ++ 10 ∷ [] → (u ≡ v) × (y ≡ z)

-- the step that a line spells; any step over an arc that is there where it spells none
pub record IsStepRead (m : Entries) (line : List ℕ) (s : Step) : Type 0 where
  pub there : s.arc.0 < length m.nodes + length m.arcs
  pub some : line ≢ []
  pub found : (t : Step) → t.arc.0 < length m.nodes + length m.arcs → line ≡ step_line m t → s ≡ t

abbrev pub IsNoStep : Entries → List ℕ → Type 0
IsNoStep m line = (t : Step) → t.arc.0 < length m.nodes + length m.arcs → line ≢ step_line m t

-- the grounded arc `KIND NAME`: a node's for the kind `node`, else one of the model
abbrev pub named_arc : Entries → List ℕ → List ℕ → Option ℕ
named_arc m kind name =
    if bytes_eq kind (codes "node") then place_of (node_names m) name
    else option_map (λ j. length m.nodes + j) (place_of (arc_names m) name)

-- what is left of a text when the nodes below i have taken their lines: each takes its own line where that is next
abbrev pub left_at : Entries → List ℕ → ℕ → List ℕ
left_at m text zero = text
left_at m text (suc i) =
    if bytes_eq (first_line (left_at m text i)) (node_line m i) then after_line (left_at m text i) else left_at m text i

abbrev pub takes : Entries → List ℕ → ℕ → Bool
takes m text i = bytes_eq (first_line (left_at m text i)) (node_line m i)

-- ---- what the parts of a text are read as

-- one number a line, behind those that were there
pub record AreFlowsRead (text : List ℕ) (count : ℕ) (before flows : List ℤ) : Type 0 where
  pub one_each : length flows ≡ length before + count
  pub kept : (k : ℕ) → k < length before → «at» flows k ≡ «at» before k
  pub read : (j : ℕ) → j < count → IsLastNumber flow_most (line_at text j) («at» flows (length before + j))

-- the potentials, with 0 at the ground, and the supplies
pub record ArePairsRead (text : List ℕ) (count : ℕ) (u x : List ℤ) : Type 0 where
  pub potentials : length u ≡ count + 1
  pub supplies : length x ≡ count
  pub ground : «at» u 0 ≡ pos 0
  pub read : (i : ℕ) → i < count → AreLastNumbers (line_at text i) («at» u (i + 1)) («at» x i)

pub record IsSideRead (m : Entries) (text : List ℕ) (count : ℕ) (side : List Bool) : Type 0 where
  pub one_each : length side ≡ count
  pub read : (i : ℕ) → i < count → holds side i ≡ takes m text i

pub record AreStepsRead (m : Entries) (text : List ℕ) (walk : List Step) : Type 0 where
  pub read : (k : ℕ) → k < length walk → IsStepRead m (line_at text k) (step walk k)
  pub ended : IsNoStep m (line_at text (length walk))
  pub short : length walk < 2 ^ 31

-- ---- the certificate, from the lines behind its head

abbrev pub IsOptimalRead : Entries → List ℕ → Certificate → Type 0
IsOptimalRead m text (optimal x u cost value) =
    IsLastNumber sum_most (line_at text 0) cost × IsLastNumber sum_most (line_at text 1) value
    × ((y : List ℤ) × ArePairsRead (after 2 text) (length m.nodes) u y × AreFlowsRead (after (length m.nodes) (after 2 text)) (length m.arcs) y x)
IsOptimalRead m text (cut side capacity) = ⊥
IsOptimalRead m text (circuit x walk span) = ⊥

abbrev pub IsCutRead : Entries → List ℕ → Certificate → Type 0
IsCutRead m text (cut side capacity) = IsLastNumber sum_most (line_at text 0) capacity × IsSideRead m (after 1 text) (length m.nodes + 1) side
IsCutRead m text (optimal x u cost value) = ⊥
IsCutRead m text (circuit x walk span) = ⊥

abbrev pub IsCircuitRead : Entries → List ℕ → Certificate → Type 0
IsCircuitRead m text (circuit x walk span) =
    IsLastNumber sum_most (line_at text 0) span × AreFlowsRead (after 1 text) (length m.nodes + length m.arcs) [] x
    × AreStepsRead m (after (length m.nodes + length m.arcs) (after 1 text)) walk
IsCircuitRead m text (optimal x u cost value) = ⊥
IsCircuitRead m text (cut side capacity) = ⊥

-- as far as the other text is like this one, its own text is too
abbrev pub IsAsLike : List ℕ → List ℕ → List ℕ → Type 0
IsAsLike text own other = (k : ℕ) → take k (pieces other) ≡ take k (pieces text) → take k (pieces own) ≡ take k (pieces text)

-- no certificate that fits has a text that is like this one any farther
pub record IsCandidate (s : Scale) (m : Entries) (text : List ℕ) (c : Certificate) : Type 0 where
  pub fits : Fits (grounded m) c
  pub like : (d : Certificate) → Fits (grounded m) d → IsAsLike text (certificate_text s m c) (certificate_text s m d)

-- the line, from 1, at which two texts begin to differ
pub record IsFirstDifference (text other : List ℕ) (line : ℕ) : Type 0 where
  pub from_one : 1 ≤ line
  pub same : take (line - 1) (pieces other) ≡ take (line - 1) (pieces text)
  pub apart : take line (pieces other) ≢ take line (pieces text)
