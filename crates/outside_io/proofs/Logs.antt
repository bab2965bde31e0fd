-- A log that grows by nothing, and one that grows in two steps.
use Rattle.std.proofs.Common.{◌≡◌, ℕ, List, [], ◌++◌, Option, Some, None, ap, refl}
use Rattle.std.proofs.lemmas.List.{append_assoc, append-nil}
use Rattle.outside_io.specs.Seen.{logged}

pub logged-none : (log : Option (List (List ℕ))) → logged log [] ≡ log
logged-none None = refl
logged-none (Some told) = ap Some (append-nil told)

pub logged-logged : (log : Option (List (List ℕ))) (first next : List (List ℕ)) → logged (logged log first) next ≡ logged log (first ++ next)
logged-logged None first next = refl
logged-logged (Some told) first next = ap Some (append_assoc told first next)
