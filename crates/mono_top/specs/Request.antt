-- What a list of words asks for. A further command is one more constructor, and one more line in each definition here.
use Rattle.std.specs.Prelude.{◌≢◌, List, [], ◌∷◌, ℕ, map, codes, Option, Some, None, nat_eq, if◌then◌else◌, string_bytes, String}
use Rattle.std.specs.Cmp.Lexicographic.{pointwise}
use Rattle.std.specs.Option.{option_map}
use Rattle.std.specs.declared.alloc.Global.{Global}
use Rattle.model_text.specs.ModelText.{decimals_of, scale_by}
use Rattle.model_text.specs.Scale.{IsScale}
use Rattle.model_text.specs.declared.scale.Scale.{Scale}
use Rattle.mono_top.specs.TrialNumber.{trial_number}
use Rattle.mono_top.specs.declared.command.Command.{Command}
use Rattle.mono_top.specs.declared.command.Command.TheVariants.{OnModel, Trial, Transport}
use Rattle.mono_top.specs.declared.command.Task.{Task}
use Rattle.mono_top.specs.declared.command.Task.TheVariants.{Solve, Check, Pieces, Resolve, Feasible, Curve, Tableau, MaxFlow, MaxTension, Convert}

-- what may be asked about a model, with the names of the files that are read after the model's, or of an arc, or of two nodes, or with a scale
pub data Question : Type 0 where
  solve : Question
  check : (certificate : List ℕ) → Question
  pieces : (certificate : List ℕ) → Question
  resolve : (changes : List ℕ) → Question
  feasible : Question
  show_curve : (arc : List ℕ) → Question
  show_tableau : Question
  greatest_flow : (from to : List ℕ) → Question
  greatest_tension : (from to : List ℕ) → Question
  convert : (to : Scale) → Question

-- what may be asked for: a question about a model, with the name of its file; the trial model of a number, which names no file; or the plan of
-- a table, with the name of its file
pub data Request : Type 0 where
  about_model : (model : List ℕ) (question : Question) → Request
  about_trial : (number : ℕ) → Request
  about_table : (table : List ℕ) → Request

-- the words, each as its bytes
abbrev pub texts : List (String Global) → List (List ℕ)
texts words = map string_bytes words

-- what the words ask for; words that are no command ask for nothing
abbrev pub request_of : List (List ℕ) → Option Request
request_of (command ∷ word ∷ []) =
    if pointwise nat_eq command (codes "trial") then option_map about_trial (trial_number word)
    else (if pointwise nat_eq command (codes "solve") then Some (about_model word solve)
    else (if pointwise nat_eq command (codes "feasible") then Some (about_model word feasible)
    else (if pointwise nat_eq command (codes "tableau") then Some (about_model word show_tableau)
    else (if pointwise nat_eq command (codes "transport") then Some (about_table word) else None))))
request_of (command ∷ model ∷ other ∷ []) =
    if pointwise nat_eq command (codes "check") then Some (about_model model (check other))
    else (if pointwise nat_eq command (codes "pieces") then Some (about_model model (pieces other))
    else (if pointwise nat_eq command (codes "resolve") then Some (about_model model (resolve other))
    else (if pointwise nat_eq command (codes "curve") then Some (about_model model (show_curve other)) else None)))
request_of (command ∷ model ∷ one ∷ other ∷ []) =
    if pointwise nat_eq command (codes "convert") then option_map (λ to. about_model model (convert to)) (scale_by (decimals_of one) (decimals_of other))
    else (if pointwise nat_eq one other then None
    else (if pointwise nat_eq command (codes "maxflow") then Some (about_model model (greatest_flow one other))
    else (if pointwise nat_eq command (codes "maxtension") then Some (about_model model (greatest_tension one other)) else None)))
request_of words = None

-- what the words of a call ask for
abbrev pub asked : List (String Global) → Option Request
asked words = request_of (texts words)

-- the two nodes that a question names have different names, and a scale that it names is one
abbrev pub IsProper : Question → Type 0
IsProper (greatest_flow from to) = from ≢ to
IsProper (greatest_tension from to) = from ≢ to
IsProper (convert to) = IsScale to
IsProper question = Unit {0}

abbrev pub IsProperRequest : Request → Type 0
IsProperRequest (about_model model question) = IsProper question
IsProperRequest request = Unit {0}

-- the files that are read after the model, in this order
abbrev pub later_files : Question → List (List ℕ)
later_files (check certificate) = certificate ∷ []
later_files (pieces certificate) = certificate ∷ []
later_files (resolve changes) = changes ∷ []
later_files question = []

-- the files that are read, in this order
abbrev pub files_of : Option Request → List (List ℕ)
files_of None = []
files_of (Some (about_model model question)) = model ∷ later_files question
files_of (Some (about_trial number)) = []
files_of (Some (about_table table)) = table ∷ []

-- a command of the code as what it asks for
abbrev pub question_by : Task → Question
question_by Solve = solve
question_by (Check certificate) = check certificate.now
question_by (Pieces certificate) = pieces certificate.now
question_by (Resolve changes) = resolve changes.now
question_by Feasible = feasible
question_by (Curve arc) = show_curve arc.now
question_by Tableau = show_tableau
question_by (MaxFlow from to) = greatest_flow from.now to.now
question_by (MaxTension from to) = greatest_tension from.now to.now
question_by (Convert to) = convert to

abbrev pub request_by : Command → Request
request_by (OnModel model task) = about_model model.now (question_by task)
request_by (Trial number) = about_trial number
request_by (Transport table) = about_table table.now
