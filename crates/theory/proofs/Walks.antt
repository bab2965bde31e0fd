-- A walk with one step more: the steps that were there stand where they stood, and the last place has the new one.
use Rattle.std.proofs.Common.{◌≡◌, ℕ, ◌<◌, List, [], ◌∷◌, ◌++◌, length}
use Rattle.std.proofs.lemmas.List.{get_or_append_left}
use Rattle.std.proofs.Math.Seq.{get_or-append_seam}
use Rattle.theory.specs.declared.network.Step.{Step}
use Rattle.theory.specs.Circuit.{step}

pub step-kept : (walk : List Step) (s : Step) (k : ℕ) → k < length walk → step (walk ++ s ∷ []) k ≡ step walk k
step-kept walk s k l = get_or_append_left walk (s ∷ []) _ k l

pub step-last : (walk : List Step) (s : Step) (k : ℕ) → k ≡ length walk → step (walk ++ s ∷ []) k ≡ s
step-last walk s k e = rw e (get_or-append_seam walk s [] _)
