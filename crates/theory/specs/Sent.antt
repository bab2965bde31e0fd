-- Units sent along a walk: each step moves the flow of its arc by as many, up where it is forward and down where it is backward.
use Rattle.std.specs.Prelude.{ℕ, ℤ, pos, ◌+ℤ◌, neg_ℤ, Bool, true, false, List, [], ◌∷◌, slice_set}
use Rattle.theory.specs.declared.network.Step.{Step}
use Rattle.theory.specs.Network.{«at»}

-- what t units change the flow of an arc by
abbrev pub sends : ℕ → Bool → ℤ
sends t true = pos t
sends t false = neg_ℤ (pos t)

abbrev pub sent : ℕ → Step → List ℤ → List ℤ
sent t s x = slice_set x s.arc.0 («at» x s.arc.0 +ℤ sends t s.forward)

-- step after step, from the first
abbrev pub sent_round : ℕ → List Step → List ℤ → List ℤ
sent_round t [] x = x
sent_round t (s ∷ walk) x = sent_round t walk (sent t s x)
