-- What the answer to a table says of the request and of the files. The answer is a plan, a shortage, the line for a bad line, or a refusal of the
-- file; a readable file is answered by its text.
use Rattle.std.proofs.Common.{◌≡◌, ◌≢◌, ℕ, ◌≤◌, List, [], ◌∷◌, length, subst, Option, Some, inl, inr, rules, arith, length-append}
use Rattle.std.specs.Option.{ForSome}
use Rattle.outside_io.specs.Files.{Files, file_of}
use Rattle.theory.specs.Limits.{file_most}
use Rattle.outside_io.specs.Seen.{Outside}
use Rattle.outside_io.specs.Sink.{Grew}
use Rattle.transport_front.specs.Table.{Table}
use Rattle.transport_front.specs.declared.fault.TableWord.{TableWord}
use Rattle.transport_front.proofs.TextLaws.{one_table, spelled_or_bad, one_fault}
use Rattle.mono_top.specs.Answer.{Answers, ReadsThen}
use Rattle.mono_top.specs.Due.{IsDueOfFiles}
use Rattle.mono_top.specs.Request.{Request, about_table}
use Rattle.mono_top.specs.TableFiles.{AsksTable, AsksFaultyTable}
use Rattle.mono_top.specs.Transports.{AnswersTable, Plans, ConcludesTable}
use Rattle.mono_top.specs.declared.lines.Place.TheVariants.{First}
use Rattle.mono_top.specs.declared.status.Status.{Status}
use Rattle.mono_top.specs.declared.status.Status.TheVariants.{Done, Cut, ReadFault, TableRefused}
use Rattle.mono_top.proofs.ModelFileLemmas.{IsRead, reached}

-- ---- the statuses

-- the answer to a text is one of these
pub data IsTableStatus (status : Status) : Type 0 where
  is_planned : status ≡ Done → IsTableStatus status
  is_unmet : status ≡ Cut → IsTableStatus status
  is_refused : (line : ℕ) (word : TableWord) → status ≡ TableRefused line word → IsTableStatus status

pub status_of_text : (bytes : List ℕ) (status : Status) (text : List ℕ) → AnswersTable bytes status text → IsTableStatus status
status_of_text bytes status text (inl (line, word, fault, is, said)) = is_refused line word is
status_of_text bytes status text (inr (t, spells, inl plan)) = is_planned plan.done
status_of_text bytes status text (inr (t, spells, inr short)) = is_unmet short.unmet

is_read : (status : Status) → IsTableStatus status → IsRead status
is_read status (is_planned is) = record { held = λ e. absurd cc; read = λ e. absurd cc; short = λ e. absurd cc; written = λ e. absurd cc; room = λ e. absurd cc }
is_read status (is_unmet is) = record { held = λ e. absurd cc; read = λ e. absurd cc; short = λ e. absurd cc; written = λ e. absurd cc; room = λ e. absurd cc }
is_read status (is_refused line word is) =
    record { held = λ e. absurd cc; read = λ e. absurd cc; short = λ e. absurd cc; written = λ e. absurd cc; room = λ e. absurd cc }

-- the table is the only file
pub of_table_file : (table : List ℕ) (outside : Outside) (status : Status) (text : List ℕ) → ReadsThen First table AnswersTable outside status text
    → IsDueOfFiles (λ files name. ⊥) (table ∷ []) outside status
of_table_file table outside status text (inl refused) = search (rules, length-append {A = ℕ})
of_table_file table outside status text (inr (bytes, held, short, next)) =
    let own = is_read status (status_of_text bytes status text next) in
    record {
      has_text = (own.written, own.room);
      missed = λ is. absurd (own.held is);
      not_held = λ is. absurd (own.held is);
      faulted = λ is. absurd (own.read is);
      too_long = λ is. absurd (own.short is);
      too_long_always = λ files told reaches quiet. elim reaches [
        | inl long ↦ grind (arith, long, held files told)
        | inr further ↦ absurd further.0
      ];
      readable = λ files told readable. (own.held, own.short);
    }

-- ---- between a table and its answer

module _ (request : Option Request) (outside : Outside) (status : Status) (text : List ℕ) (answers : Answers request outside status text) (read : status ≢ ReadFault) where
  answer_of_text : (files : Files) → outside.holds ≡ Some files → (table : List ℕ) → request ≡ Some (about_table table)
      → (bytes : List ℕ) → file_of files table ≡ Some bytes → length bytes ≤ file_most
      → AnswersTable bytes status text
  answer_of_text files told table is bytes held short =
      let its : Answers (Some (about_table table)) outside status text = subst (λ (r : Option Request). Answers r outside status text) is answers in
      reached First table AnswersTable outside status text its read files told bytes held short

  pub faulty_table_always : ForSome outside.holds (λ files. (line : ℕ) (word : TableWord) → AsksFaultyTable files line word request → status ≡ TableRefused line word)
  faulty_table_always files told line word (table, is, file) =
      by (answer_of_text files told table is file.0 file.1 file.2)
    where
      by : AnswersTable file.0 status text → status ≡ TableRefused line word
      by (inl (at_line, its, fault, refused, said)) =
          let same = one_fault file.0 at_line line its word fault file.3 in
          let line_is = same.0 in
          let word_is = same.1 in
          cc
      by (inr (t, spells, plans)) = absurd (spelled_or_bad file.0 t line word spells file.3)

  pub table_answer : ForSome outside.holds (λ files. (t : Table) → AsksTable files t request → Plans t status text)
  table_answer files told t (table, is, file) = by (answer_of_text files told table is file.0 file.1 file.2)
    where
      by : AnswersTable file.0 status text → Plans t status text
      by (inl (line, word, fault, refused, said)) = absurd (spelled_or_bad file.0 t line word file.3 fault)
      by (inr (s, spells, plans)) = subst (λ (r : Table). Plans r status text) (one_table file.0 s t spells file.3) plans

-- ---- what a call concludes

one_is_one : 1 ≤ 1
one_is_one = omega arith

pub concludes_table : (t : Table) (status : Status) (text : List ℕ) (old new : Option (List ℕ)) → Plans t status text → Grew old new text → ConcludesTable t status old new
concludes_table t status text old new (inl plan) grew =
    let done = plan.done in
    record {
      text = text;
      answer = inl plan;
      written = grew;
      planned = (λ e. (1, plan.plan, one_is_one, plan.best.plan), λ has. done);
      unmet = (λ e. absurd cc, λ none. absurd (none 1 plan.plan one_is_one plan.best.plan));
    }
concludes_table t status text old new (inr short) grew =
    let cut = short.unmet in
    record {
      text = text;
      answer = inr short;
      written = grew;
      planned = (λ e. absurd cc, λ has. absurd (short.falls_short.none has.0 has.1 has.2 has.3));
      unmet = (λ e. short.falls_short.none, λ none. cut);
    }
