use Rattle.std.proofs.Common.{rules}
use Rattle.outside_io.specs.Files.{bytes_at}
use Rattle.outside_io.proofs.memory_shelf.MemoryShelfShelf.start.Goals as goal

-- the bytes are those at the index that was found
pub returns-in-Some : goal.returns-in-Some
returns-in-Some c = record { exactly = (search rules, (bytes_at c.as_slice.result.now c.in-Some.file, search rules, search rules)) }
