-- The statuses that the answer to a question may have. A further question is one more line in `ends`, and one in
-- `answer_ends`; that no other status is due follows for all of them at once.
use Rattle.std.proofs.Common.{◌≡◌, ◌≢◌, ℕ, ◌+◌, ℤ, Bool, true, false, List, [], ◌∷◌, sym, ap, ◌∙◌, refl, Option, Some, None, inl, inr}
use Rattle.std.proofs.lemmas.Bool.{false≢true}
use Rattle.theory.specs.Grounded.{Entries, grounded}
use Rattle.theory.specs.Certificate.{Certificate}
use Rattle.theory.specs.Certificate.Certificate.{optimal, cut, circuit}
use Rattle.model_text.specs.Model.{arc_names, node_names, place_of}
use Rattle.model_text.specs.declared.scale.Scale.{Scale}
use Rattle.cert_text.specs.declared.feasible.FlowPart.{FlowPart}
use Rattle.cert_text.specs.declared.feasible.FlowPart.TheVariants.{Yes as YesFlow, No as NoFlow}
use Rattle.cert_text.specs.declared.feasible.TensionPart.{TensionPart}
use Rattle.cert_text.specs.declared.feasible.TensionPart.TheVariants.{Yes as YesTension, No as NoTension}
use Rattle.cert_check.specs.declared.judged.Judged.{Judged}
use Rattle.cert_check.specs.declared.judged.Judged.TheVariants.{Accepted}
use Rattle.outside_io.specs.Seen.{Outside}
use Rattle.mono_top.specs.Answer.{AnswersModel, ReadsThen, UnlessTooBig}
use Rattle.path_cut.specs.declared.flow_found.FlowFound.{FlowFound}
use Rattle.path_cut.specs.declared.flow_found.FlowFound.TheVariants.{Greatest as GreatestFlow, Unbounded as NoTopFlow, Refused as FlowRefused}
use Rattle.path_cut.specs.declared.tension_found.TensionFound.{TensionFound}
use Rattle.path_cut.specs.declared.tension_found.TensionFound.TheVariants.{Greatest as GreatestTension, Unbounded as NoTopTension, Refused as TensionRefused}
use Rattle.mono_top.specs.Between.{OfNodes, FindsFlow, FindsTension, status_of_flow, status_of_tension}
use Rattle.mono_top.specs.Checks.{ChecksText, status_by}
use Rattle.mono_top.specs.Converts.{Converts}
use Rattle.mono_top.specs.FindsFeasible.{status_of_parts}
use Rattle.mono_top.specs.Request.{Question, solve, check, pieces, resolve, feasible, show_curve, show_tableau, greatest_flow, greatest_tension, convert, later_files}
use Rattle.mono_top.specs.Reading.{IsOpenFor}
use Rattle.warm_solve.specs.ChangesText.{Change}
use Rattle.theory.specs.Network.{Network}
use Rattle.mono_top.specs.Resolves.{States, ResolvesText, changed}
use Rattle.mono_top.specs.ShowsCurve.{ShowsAt}
use Rattle.mono_top.specs.ShowsPieces.{SplitsText, ShowsBy, ShowsFlow, flow_of}
use Rattle.mono_top.specs.ShowsTableau.{ShowsTableau}
use Rattle.mono_top.specs.TooBig.{IsTooBigFor}
use Rattle.mono_top.specs.Solves.{status_of}
use Rattle.mono_top.specs.declared.lines.Place.TheVariants.{Second}
use Rattle.mono_top.specs.declared.status.Status.{Status}
use Rattle.mono_top.specs.declared.status.Status.TheVariants.{Done, Cut, Circuit, Rejected, Missing, ReadFault, WriteFault, NoMemory, TooLong, TooBig, UnknownArc, NotConverted, NoFlow, Unbounded, UnknownNode, ChangesRefused}
use Rattle.mono_top.proofs.ModelFileLemmas.{IsRead, IsDueBehind, of_none, of_last}

-- ---- statuses as tests

abbrev pub is_kind : Status → Bool
is_kind Done = true
is_kind Cut = true
is_kind Circuit = true
is_kind status = false

abbrev pub is_judgement : Status → Bool
is_judgement Done = true
is_judgement Rejected = true
is_judgement status = false

abbrev pub is_splitting : Status → Bool
is_splitting Done = true
is_splitting Rejected = true
is_splitting NoFlow = true
is_splitting status = false

abbrev pub is_resolving : Status → Bool
is_resolving Done = true
is_resolving Cut = true
is_resolving Circuit = true
is_resolving (ChangesRefused line word) = true
is_resolving status = false

abbrev pub is_showing : Status → Bool
is_showing Done = true
is_showing UnknownArc = true
is_showing status = false

abbrev pub is_converting : Status → Bool
is_converting Done = true
is_converting NotConverted = true
is_converting status = false

-- of a flow between two nodes, and of a tension between them
abbrev pub is_flow : Status → Bool
is_flow Done = true
is_flow Cut = true
is_flow Unbounded = true
is_flow UnknownNode = true
is_flow status = false

abbrev pub is_tension : Status → Bool
is_tension Done = true
is_tension Circuit = true
is_tension Unbounded = true
is_tension UnknownNode = true
is_tension status = false

abbrev pub is_done : Status → Bool
is_done Done = true
is_done status = false

-- or the model was too big
abbrev pub or_too_big : (Status → Bool) → Status → Bool
or_too_big own TooBig = true
or_too_big own status = own status

-- or a later file was refused
abbrev pub or_refused : (Status → Bool) → Status → Bool
or_refused own Missing = true
or_refused own ReadFault = true
or_refused own TooLong = true
or_refused own status = own status

abbrev pub ends : Question → Status → Bool
ends solve = is_kind
ends (check certificate) = or_refused is_judgement
ends (pieces certificate) = or_too_big (or_refused is_splitting)
ends (resolve changes) = or_refused is_resolving
ends feasible = is_kind
ends (show_curve arc) = is_showing
ends show_tableau = or_too_big is_done
ends (greatest_flow from to) = is_flow
ends (greatest_tension from to) = is_tension
ends (convert to) = is_converting

-- a status that passes a test is none that fails it
pub not_by : (test : Status → Bool) (status other : Status) → test status ≡ true → test other ≡ false → status ≢ other
not_by test status other passed failed same = false≢true (sym failed ∙ ap test (sym same) ∙ passed)

read_by : (test : Status → Bool) (status : Status) → test status ≡ true → test Missing ≡ false → test ReadFault ≡ false → test TooLong ≡ false
    → test WriteFault ≡ false → test NoMemory ≡ false → IsRead status
read_by test status passed held read short written room = record {
  held = not_by test status Missing passed held;
  read = not_by test status ReadFault passed read;
  short = not_by test status TooLong passed short;
  written = not_by test status WriteFault passed written;
  room = not_by test status NoMemory passed room;
}

passes : (test : Status → Bool) (status other : Status) → status ≡ other → test other ≡ true → test status ≡ true
passes test status other is passed = ap test is ∙ passed

-- ---- the answers

certificate_ends : (c : Certificate) → is_kind (status_of c) ≡ true
certificate_ends (optimal x u cost value) = refl
certificate_ends (cut side capacity) = refl
certificate_ends (circuit x walk span) = refl

parts_end : (flow : FlowPart) (tension : TensionPart) → is_kind (status_of_parts flow tension) ≡ true
parts_end (NoFlow side capacity) tension = refl
parts_end (YesFlow x) (NoTension walk span) = refl
parts_end (YesFlow x) (YesTension u) = refl

verdict_ends : (verdict : Judged) → is_judgement (status_by verdict) ≡ true
verdict_ends Accepted = refl
verdict_ends verdict = refl

text_ends : (s : Scale) (m : Entries) (bytes : List ℕ) (status : Status) (text : List ℕ) → ChecksText s m bytes status text → is_judgement status ≡ true
text_ends s m bytes status text (inl (line, bad, is, said)) = passes is_judgement status Rejected is refl
text_ends s m bytes status text (inr (c, spelled, (verdict, judges, is, said))) = passes is_judgement status (status_by verdict) is (verdict_ends verdict)

flow_ends : (s : Scale) (m : Entries) (flow : Option (List ℤ)) (status : Status) (text : List ℕ) → ShowsFlow s m flow status text → is_splitting status ≡ true
flow_ends s m (Some x) status text shows = passes is_splitting status Done shows.0 refl
flow_ends s m None status text shows = passes is_splitting status NoFlow shows.0 refl

shown_by_ends : (s : Scale) (m : Entries) (c : Certificate) (verdict : Judged) (status : Status) (text : List ℕ) → ShowsBy s m c verdict status text → is_splitting status ≡ true
shown_by_ends s m c Accepted status text shows = flow_ends s m (flow_of c) status text shows
shown_by_ends s m c verdict status text shows = passes is_splitting status Rejected shows.0 refl

split_ends : (s : Scale) (m : Entries) (bytes : List ℕ) (status : Status) (text : List ℕ) → SplitsText s m bytes status text → is_splitting status ≡ true
split_ends s m bytes status text (inl (line, bad, is, said)) = passes is_splitting status Rejected is refl
split_ends s m bytes status text (inr (c, spelled, (verdict, judges, shows))) = shown_by_ends s m c verdict status text shows

kind_resolves : (c : Certificate) → is_resolving (status_of c) ≡ true
kind_resolves (optimal x u cost value) = refl
kind_resolves (cut side capacity) = refl
kind_resolves (circuit x walk span) = refl

states_end : (s : Scale) (m : Entries) (count : ℕ) (net : Network) (changes : List Change) (status : Status) (text : List ℕ) → States s m count net changes status text
    → is_resolving status ≡ true
states_end s m count net [] status text (c, valid, kind, is) = passes is_resolving status (status_of c) kind (kind_resolves c)
states_end s m count net (change ∷ changes) status text (c, valid, (rest, is, states)) = states_end s m (count + 1) (changed net change) changes status rest states

resolve_ends : (s : Scale) (m : Entries) (bytes : List ℕ) (status : Status) (text : List ℕ) → ResolvesText s m bytes status text → is_resolving status ≡ true
resolve_ends s m bytes status text (inl (line, word, fault, is, said)) = passes is_resolving status (ChangesRefused line word) is refl
resolve_ends s m bytes status text (inr (changes, spells, states)) = states_end s m 0 (grounded m) changes status text states

shows_end : (s : Scale) (m : Entries) (at : Option ℕ) (status : Status) (text : List ℕ) → ShowsAt s m at status text → is_showing status ≡ true
shows_end s m (Some j) status text shows = passes is_showing status Done shows.0 refl
shows_end s m None status text shows = passes is_showing status UnknownArc shows.0 refl

flow_found_ends : (found : FlowFound) → is_flow (status_of_flow found) ≡ true
flow_found_ends (GreatestFlow t x side) = refl
flow_found_ends (NoTopFlow x walk) = refl
flow_found_ends (FlowRefused side sum) = refl

tension_found_ends : (found : TensionFound) → is_tension (status_of_tension found) ≡ true
tension_found_ends (GreatestTension t u walk) = refl
tension_found_ends (NoTopTension u side) = refl
tension_found_ends (TensionRefused walk sum) = refl

nodes_end : (test : Status → Bool) (Next : ℕ → ℕ → Status → List ℕ → Type 0) (from to : Option ℕ) (status : Status) (text : List ℕ) → test UnknownNode ≡ true
    → ((i k : ℕ) → Next i k status text → test status ≡ true) → OfNodes Next from to status text → test status ≡ true
nodes_end test Next (Some i) (Some k) status text unknown step answers = step (i + 1) (k + 1) answers
nodes_end test Next (Some i) None status text unknown step answers = passes test status UnknownNode answers.0 unknown
nodes_end test Next None to status text unknown step answers = passes test status UnknownNode answers.0 unknown

converts_end : (to s : Scale) (m : Entries) (status : Status) (text : List ℕ) → Converts to s m status text → is_converting status ≡ true
converts_end to s m status text (inl (inexact, is, said)) = passes is_converting status NotConverted is refl
converts_end to s m status text (inr (exact, is, said)) = passes is_converting status Done is refl

-- the test with refusals holds where the test without them does
still_own : (own : Status → Bool) (status : Status) → own status ≡ true → or_refused own status ≡ true
still_own own Missing passed = refl
still_own own ReadFault passed = refl
still_own own TooLong passed = refl
still_own own status passed = passed

-- a later file was refused, or its text is answered
later_ends : (own : Status → Bool) (name : List ℕ) (Next : List ℕ → Status → List ℕ → Type 0) (outside : Outside) (status : Status) (text : List ℕ)
    → ((bytes : List ℕ) → Next bytes status text → own status ≡ true) → ReadsThen Second name Next outside status text → or_refused own status ≡ true
later_ends own name Next outside status text step (inl (started, inl (is, line, missed, not_held))) = passes (or_refused own) status Missing is refl
later_ends own name Next outside status text step (inl (started, inr (inl (is, line, faulted)))) = passes (or_refused own) status ReadFault is refl
later_ends own name Next outside status text step (inl (started, inr (inr (is, line, long)))) = passes (or_refused own) status TooLong is refl
later_ends own name Next outside status text step (inr (bytes, held, short, next)) = still_own own status (step bytes next)

-- the test with the model that is too big holds where the test without it does
still_small : (own : Status → Bool) (status : Status) → own status ≡ true → or_too_big own status ≡ true
still_small own TooBig passed = refl
still_small own status passed = passed

unless_too_big_ends : (own : Status → Bool) (TooBigModel : Type 0) (Next : Status → List ℕ → Type 0) (status : Status) (text : List ℕ)
    → (Next status text → own status ≡ true) → UnlessTooBig TooBigModel Next status text → or_too_big own status ≡ true
unless_too_big_ends own TooBigModel Next status text step (inl (big, is, said)) = passes (or_too_big own) status TooBig is refl
unless_too_big_ends own TooBigModel Next status text step (inr (small, next)) = still_small own status (step next)

pub answer_ends : (question : Question) (outside : Outside) (s : Scale) (m : Entries) (status : Status) (text : List ℕ) → AnswersModel question outside s m status text → ends question status ≡ true
answer_ends solve outside s m status text certified = passes is_kind status (status_of certified.certificate) certified.kind (certificate_ends certified.certificate)
answer_ends (check certificate) outside s m status text checks =
    later_ends is_judgement certificate (ChecksText s m) outside status text (λ bytes its. text_ends s m bytes status text its) checks
answer_ends (pieces certificate) outside s m status text answers =
    unless_too_big_ends (or_refused is_splitting) (IsTooBigFor (pieces certificate) m) (ReadsThen Second certificate (SplitsText s m) outside) status text
    (later_ends is_splitting certificate (SplitsText s m) outside status text (λ bytes its. split_ends s m bytes status text its)) answers
answer_ends (resolve changes) outside s m status text reads =
    later_ends is_resolving changes (ResolvesText s m) outside status text (λ bytes its. resolve_ends s m bytes status text its) reads
answer_ends feasible outside s m status text finds = passes is_kind status (status_of_parts finds.flow finds.tension) finds.kind (parts_end finds.flow finds.tension)
answer_ends (show_curve arc) outside s m status text shows = shows_end s m (place_of (arc_names m) arc) status text shows
answer_ends show_tableau outside s m status text answers =
    unless_too_big_ends is_done (IsTooBigFor show_tableau m) (ShowsTableau m) status text (λ shows. passes is_done status Done shows.done refl) answers
answer_ends (greatest_flow from to) outside s m status text answers =
    nodes_end is_flow (FindsFlow s m) (place_of (node_names m) from) (place_of (node_names m) to) status text refl
    (λ i k finds. passes is_flow status (status_of_flow finds.found) finds.kind (flow_found_ends finds.found)) answers
answer_ends (greatest_tension from to) outside s m status text answers =
    nodes_end is_tension (FindsTension s m) (place_of (node_names m) from) (place_of (node_names m) to) status text refl
    (λ i k finds. passes is_tension status (status_of_tension finds.found) finds.kind (tension_found_ends finds.found)) answers
answer_ends (convert to) outside s m status text answers = converts_end to s m status text answers

-- what the answer says of the files that are read after the model
pub later_due : (question : Question) (outside : Outside) (s : Scale) (m : Entries) (status : Status) (text : List ℕ) → AnswersModel question outside s m status text
    → IsDueBehind (IsOpenFor question) (IsTooBigFor question m) (later_files question) outside status
later_due (check certificate) outside s m status text checks = inr (
  λ big. big,
  of_last (check certificate) Second certificate (ChecksText s m) outside status text
      (λ bytes its. read_by is_judgement status (text_ends s m bytes status text its) refl refl refl refl refl) checks,
)
later_due (pieces certificate) outside s m status text (inl (big, is, said)) = inl (
  big,
  record {
    held = λ e. absurd cc;
    read = λ e. absurd cc;
    short = λ e. absurd cc;
    written = λ e. absurd cc;
    room = λ e. absurd cc;
  },
)
later_due (pieces certificate) outside s m status text (inr (small, reads)) = inr (
  small,
  of_last (pieces certificate) Second certificate (SplitsText s m) outside status text
      (λ bytes its. read_by is_splitting status (split_ends s m bytes status text its) refl refl refl refl refl) reads,
)
later_due (resolve changes) outside s m status text reads = inr (
  λ big. big,
  of_last (resolve changes) Second changes (ResolvesText s m) outside status text
      (λ bytes its. read_by is_resolving status (resolve_ends s m bytes status text its) refl refl refl refl refl) reads,
)
later_due show_tableau outside s m status text (inl (big, is, said)) = inl (
  big,
  record {
    held = λ e. absurd cc;
    read = λ e. absurd cc;
    short = λ e. absurd cc;
    written = λ e. absurd cc;
    room = λ e. absurd cc;
  },
)
later_due show_tableau outside s m status text (inr (small, shows)) = inr (
  small,
  of_none (IsOpenFor show_tableau) outside status (read_by is_done status (passes is_done status Done shows.done refl) refl refl refl refl refl),
)
later_due question outside s m status text answers = inr (
  λ big. big,
  of_none (IsOpenFor question) outside status (read_by (ends question) status (answer_ends question outside s m status text answers) refl refl refl refl refl),
)
