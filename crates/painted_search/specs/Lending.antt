-- What becomes of a room when the words that it lent come back.
use Rattle.std.specs.Prelude.{ℤ, List}
use Rattle.std.specs.Borrow.{Lends, MutBor, Fml, Array, i64}
use Rattle.painted_search.specs.Room.{Room}
use Rattle.painted_search.specs.Writes.{with_potentials}
use Rattle.painted_search.specs.contracts.work.Work.{the_row}

abbrev pub LendsPotentials : MutBor Room → MutBor (List ℤ) → Fml
LendsPotentials w r = Lends the_row (Array i64 0) w r (with_potentials w.now)
