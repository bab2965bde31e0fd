-- Where all files are held, none that is reached is missing; where all are readable, none is too long; and where there is
-- room for each due text, none is written in part.
use Rattle.std.proofs.Common.{◌≡◌, ℕ, ◌+◌, ◌≤◌, List, [], ◌∷◌, ◌++◌, length, length-append, Option, Some, None, refl, arith, ap, sym, ◌∙◌, inl, inr, unwrap_or}
use Rattle.theory.specs.Limits.{file_most}
use Rattle.outside_io.specs.Files.{Files, file_of}
use Rattle.outside_io.specs.Seen.{Seen, Moves, since}
use Rattle.outside_io.specs.SteadyShelf.{SteadyFiles}
use Rattle.mono_top.specs.Answer.{Answers}
use Rattle.mono_top.specs.Ending.{WritesPart}
use Rattle.mono_top.specs.Reading.{AllReadable, IsReadPastMost, Reaches}
use Rattle.mono_top.specs.Request.{Request}
use Rattle.mono_top.specs.Steady.{AllHeld, HasRoom}

pub all_held : (files : Files) (names : List (List ℕ)) → AllReadable files names → AllHeld files names
all_held files [] readable = tt
all_held files (name ∷ names) readable = ((readable.0.0, readable.0.1), all_held files names readable.1)

pub none_missing : (files : Files) (Opens : List ℕ → Type 0) (names : List (List ℕ))
    → AllHeld files names → Reaches Opens (λ name. file_of files name ≡ None) names → ⊥
none_missing files Opens [] held reaches = reaches
none_missing files Opens (name ∷ names) held (inl missing) = absurd (cc (sym held.0.1 ∙ missing))
none_missing files Opens (name ∷ names) held (inr (passed, later)) = none_missing files Opens names held.1 later

-- of the bytes of a readable file, fewer are there to be taken
short_enough : (bytes taken left : List ℕ) → length bytes ≤ file_most → length taken ≡ file_most + 1 → Some bytes ≡ Some (taken ++ left) → ⊥
short_enough bytes taken left short long is =
    omega (arith, short, long, ap length (ap (λ o. unwrap_or o []) is), length-append taken left)

pub none_too_long : (files : Files) (Opens : List ℕ → Type 0) (rest : Option (List ℕ)) (names : List (List ℕ))
    → AllReadable files names → Reaches Opens (IsReadPastMost files rest) names → ⊥
none_too_long files Opens rest [] readable reaches = reaches
none_too_long files Opens rest (name ∷ names) readable (inl (taken, left, long, is, behind)) =
    short_enough readable.0.0 taken left readable.0.2 long (sym readable.0.1 ∙ is)
none_too_long files Opens rest (name ∷ names) readable (inr (passed, later)) = none_too_long files Opens rest names readable.1 later

-- what a steady source shows of itself
abbrev shown : SteadyFiles → Seen
shown s = record { holds = Some s.holds; started = s.started; rest = Some s.rest; log = None; misses = s.misses; faults = 0 }

pub none_in_part : (request : Option Request) (old new : SteadyFiles) (before after : Option (List ℕ)) (room : ℕ)
    → HasRoom request (shown old) room → Moves (shown old) (shown new)
    → WritesPart (Answers request (since (shown old) (shown new))) before after (Some room) → ⊥
none_in_part request old new before after room enough moves (status, text, due, grew, short) =
    omega (arith, enough (shown new) moves (λ rose. omega (arith, rose)) status text due, short room refl)
