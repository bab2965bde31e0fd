-- What a reading adds to the counter: at least 1, at most the weight of the curve that is read.
use Rattle.std.specs.Prelude.{ℕ, ◌+◌, ◌≤◌}

pub record IsCounted (weight old new : ℕ) : Type 0 where
  pub least : old + 1 ≤ new
  pub most : new ≤ old + weight
