use Rattle.outside_io.proofs.Entries.{not_found}
use Rattle.outside_io.proofs.memory_shelf.MemoryShelf.unfailing.Goals as goal

pub returns-clause-empty : goal.returns-clause-empty
returns-clause-empty c = λ name. rw c.new.ensures.items (not_found name)
