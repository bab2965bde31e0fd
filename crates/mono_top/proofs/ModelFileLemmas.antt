-- From an answer to what its status says of the files. One file of a request is one step. Where the file was refused, the
-- refusal is the cause, and no file after it was reached. Where it was read whole, and its text spells a model, what is
-- said of the files after it is said of it and them.
use Rattle.std.proofs.Common.{◌≡◌, ◌≢◌, ◌⊎◌, ℕ, ◌≤◌, List, [], ◌∷◌, length, subst, sym, Some, inl, inr, rules, arith, length-append}
use Rattle.std.specs.Option.{ForSome}
use Rattle.theory.specs.Grounded.{Entries}
use Rattle.outside_io.specs.Files.{Files, file_of}
use Rattle.model_text.specs.declared.fault.FaultWord.{FaultWord}
use Rattle.model_text.specs.ModelText.{Spells, IsFirstFault}
use Rattle.model_text.specs.declared.scale.Scale.{Scale}
use Rattle.model_text.proofs.TextLaws.{one_model, spelled_or_bad, one_fault}
use Rattle.outside_io.specs.Seen.{Outside}
use Rattle.mono_top.specs.Answer.{ReadsThen, RefusesFile}
use Rattle.mono_top.specs.Due.{IsDueOfFiles}
use Rattle.theory.specs.Limits.{file_most}
use Rattle.mono_top.specs.OfModel.{OfModel}
use Rattle.mono_top.specs.Reading.{IsOpenFor}
use Rattle.mono_top.specs.Request.{Question}
use Rattle.mono_top.specs.TooBig.{IsTooBigFor}
use Rattle.mono_top.specs.declared.lines.Place.{Place}
use Rattle.mono_top.specs.declared.lines.Place.TheVariants.{First}
use Rattle.mono_top.specs.declared.status.Status.{Status}
use Rattle.mono_top.specs.declared.status.Status.TheVariants.{ModelRefused, Missing, ReadFault, WriteFault, TooLong, NoMemory}

-- nothing was refused that is read, written or taken: neither a file, nor the sink, nor memory
pub record IsRead (status : Status) : Type 0 where
  pub held : status ≢ Missing
  pub read : status ≢ ReadFault
  pub short : status ≢ TooLong
  pub written : status ≢ WriteFault
  pub room : status ≢ NoMemory

-- it says nothing of files
pub of_none : (Opens : Files → List ℕ → Type 0) (outside : Outside) (status : Status) → IsRead status → IsDueOfFiles Opens [] outside status
of_none Opens outside status own = search rules

-- a file was refused
of_refused : (question : Question) (place : Place) (name : List ℕ) (names : List (List ℕ)) (outside : Outside) (status : Status) (text : List ℕ) → RefusesFile place name outside status text → IsDueOfFiles (IsOpenFor question) (name ∷ names) outside status
of_refused question place name names outside status text refused = search (rules, length-append {A = ℕ})

-- the last file of a command, read whole: the status is the command's own
pub of_last : (question : Question) (place : Place) (name : List ℕ) (Next : List ℕ → Status → List ℕ → Type 0) (outside : Outside) (status : Status) (text : List ℕ)
    → ((bytes : List ℕ) → Next bytes status text → IsRead status) → ReadsThen place name Next outside status text → IsDueOfFiles (IsOpenFor question) (name ∷ []) outside status
of_last question place name Next outside status text step (inl refused) = of_refused question place name [] outside status text refused
of_last question place name Next outside status text step (inr (bytes, held, short, next)) =
    let own = step bytes next in
    record {
      has_text = (own.written, own.room);
      missed = λ is. absurd (own.held is);
      not_held = λ is. absurd (own.held is);
      faulted = λ is. absurd (own.read is);
      too_long = λ is. absurd (own.short is);
      too_long_always = λ files told reaches quiet. elim reaches [
        | inl long ↦ grind (arith, long, held files told)
        | inr further ↦ absurd further.1
      ];
      readable = λ files told readable. (own.held, own.short);
    }

-- ---- the answer to a model file

pub fault_is_refused : (Next : Scale → Entries → Status → List ℕ → Type 0) (bytes : List ℕ) (status : Status) (text : List ℕ) (line : ℕ) (word : FaultWord)
    → OfModel Next bytes status text → IsFirstFault bytes line word → status ≡ ModelRefused line word
fault_is_refused Next bytes status text line word (inl (at_line, its, fault, is, said)) first =
    let same = one_fault bytes at_line line its word fault first in
    let line_is = same.0 in
    let word_is = same.1 in
    cc
fault_is_refused Next bytes status text line word (inr (s, m, spells, next)) first = absurd (spelled_or_bad bytes s m line word spells first)

-- the answer to the model that the text spells
pub next_of_model : (Next : Scale → Entries → Status → List ℕ → Type 0) (bytes : List ℕ) (status : Status) (text : List ℕ) (s : Scale) (m : Entries)
    → OfModel Next bytes status text → Spells bytes s m → Next s m status text
next_of_model Next bytes status text s m (inl (line, word, fault, is, said)) spells = absurd (spelled_or_bad bytes s m line word spells fault)
next_of_model Next bytes status text s m (inr (t, n, its, next)) spells =
    let same = one_model bytes t s n m its spells in
    subst (λ (k : Entries). Next s k status text) same.1 (subst (λ (r : Scale). Next r n status text) same.0 next)

-- what is due of the files behind a model: nothing where it is too big, and no status is then that of a file
abbrev pub IsDueBehind : (Files → List ℕ → Type 0) → Type 0 → List (List ℕ) → Outside → Status → Type 0
IsDueBehind Opens TooBigModel names outside status =
    TooBigModel × IsRead status ⊎ (¬ TooBigModel) × IsDueOfFiles Opens names outside status

-- a model file, and then the files that the question reads after it
module _ (question : Question) (name : List ℕ) (names : List (List ℕ)) (Next : Scale → Entries → Status → List ℕ → Type 0) (outside : Outside) (status : Status) (text : List ℕ) where
  -- the text is that of this model
  of_model : (bytes : List ℕ) → ForSome outside.holds (λ files. file_of files name ≡ Some bytes) → length bytes ≤ file_most
      → (s : Scale) (m : Entries) → Spells bytes s m → IsDueBehind (IsOpenFor question) (IsTooBigFor question m) names outside status
      → IsDueOfFiles (IsOpenFor question) (name ∷ names) outside status
  of_model bytes held short s m spells (inl (big, own)) =
      record {
        has_text = (own.written, own.room);
        missed = λ is. absurd (own.held is);
        not_held = λ is. absurd (own.held is);
        faulted = λ is. absurd (own.read is);
        too_long = λ is. absurd (own.short is);
        too_long_always = λ files told reaches quiet. elim reaches [
          | inl long ↦ grind (arith, long, held files told)
          | inr further ↦
              let file = further.0 in
              let same : file.0 ≡ bytes = let first = held files told in let also = file.1 in cc in
              let model : file.3.1 ≡ m =
              (one_model bytes file.3.0 s file.3.1 m (subst (λ (b : List ℕ). Spells b file.3.0 file.3.1) same file.3.2) spells).1 in
              absurd (file.3.3 (subst (λ (n : Entries). IsTooBigFor question n) (sym model) big))
        ];
        readable = λ files told readable. (own.held, own.short);
      }
  of_model bytes held short s m spells (inr (small, after)) =
      record {
        has_text = after.has_text;
        missed = after.missed;
        not_held = λ is files told. inr ((bytes, held files told, short, (s, m, spells, small)), after.not_held is files told);
        faulted = after.faulted;
        too_long = λ is files told. inr ((bytes, held files told, short, (s, m, spells, small)), after.too_long is files told);
        too_long_always = λ files told reaches quiet. elim reaches [
          | inl long ↦ grind (arith, long, held files told)
          | inr further ↦ after.too_long_always files told further.1 quiet
        ];
        readable = λ files told readable. after.readable files told readable.1;
      }

  pub of_model_file : ((s : Scale) (m : Entries) → Next s m status text → IsDueBehind (IsOpenFor question) (IsTooBigFor question m) names outside status)
      → ReadsThen First name (OfModel Next) outside status text → IsDueOfFiles (IsOpenFor question) (name ∷ names) outside status
  of_model_file step (inl refused) = of_refused question First name names outside status text refused
  of_model_file step (inr (bytes, held, short, inl (line, word, fault, is, said))) =
      record {
        has_text = (λ e. cc, λ e. cc);
        missed = λ e. absurd cc;
        not_held = λ e. absurd cc;
        faulted = λ e. absurd cc;
        too_long = λ e. absurd cc;
        too_long_always = λ files told reaches quiet. elim reaches [
          | inl long ↦ grind (arith, long, held files told)
          | inr further ↦
              let spelled = further.0 in
              let same : bytes ≡ spelled.0 = let first = held files told in let also = spelled.1 in cc in
              absurd (spelled_or_bad spelled.0 spelled.3.0 spelled.3.1 line word spelled.3.2 (subst (λ (b : List ℕ). IsFirstFault b line word) same fault))
        ];
        readable = λ files told readable. (λ e. cc, λ e. cc);
      }
  of_model_file step (inr (bytes, held, short, inr (s, m, spells, next))) = of_model bytes held short s m spells (step s m next)

-- the file was read whole, and this is the answer to its text
pub record IsOfText (name : List ℕ) (Next : List ℕ → Status → List ℕ → Type 0) (outside : Outside) (status : Status) (text : List ℕ) : Type 0 where
  pub bytes : List ℕ
  pub held : ForSome outside.holds (λ files. file_of files name ≡ Some bytes)
  pub short : length bytes ≤ file_most
  pub next : Next bytes status text

pub of_text : (place : Place) (name : List ℕ) (Next : List ℕ → Status → List ℕ → Type 0) (outside : Outside) (status : Status) (text : List ℕ)
    → ReadsThen place name Next outside status text → status ≢ Missing → status ≢ ReadFault → status ≢ TooLong → IsOfText name Next outside status text
of_text place name Next outside status text (inl (started, inl (is, line, missed, not_held))) found read in_length = absurd (found is)
of_text place name Next outside status text (inl (started, inr (inl (is, line, faulted)))) found read in_length = absurd (read is)
of_text place name Next outside status text (inl (started, inr (inr (is, line, long)))) found read in_length = absurd (in_length is)
of_text place name Next outside status text (inr (bytes, held, short, next)) found read in_length =
    record { bytes = bytes; held = held; short = short; next = next }

-- a readable file is read whole, but for a fault
pub reached : (place : Place) (name : List ℕ) (Next : List ℕ → Status → List ℕ → Type 0) (outside : Outside) (status : Status) (text : List ℕ)
    → ReadsThen place name Next outside status text → status ≢ ReadFault
    → ForSome outside.holds (λ files. (bytes : List ℕ) → file_of files name ≡ Some bytes → length bytes ≤ file_most → Next bytes status text)
reached place name Next outside status text (inl (started, inl (is, line, missed, not_held))) read files told bytes held short =
    let none = not_held files told in cc
reached place name Next outside status text (inl (started, inr (inl (is, line, faulted)))) read files told bytes held short = absurd (read is)
reached place name Next outside status text (inl (started, inr (inr (is, line, long)))) read files told bytes held short =
    let past = long files told in grind (arith, length-append {A = ℕ}, past, held)
reached place name Next outside status text (inr (whole, at_hand, in_length, next)) read files told bytes held short =
    let same : whole ≡ bytes = let first = at_hand files told in cc in
    subst (λ (b : List ℕ). Next b status text) same next
