-- The exit code of each status.
use Rattle.std.specs.Prelude.{ℕ}
use Rattle.mono_top.specs.declared.status.Status.{Status}
use Rattle.mono_top.specs.declared.status.Status.TheVariants.{Done, Cut, Circuit, Rejected, Usage, ModelRefused, Missing, ReadFault, WriteFault, NoMemory, TooLong, TooBig, UnknownArc, NotConverted, NoFlow, Unbounded, UnknownNode, TableRefused, ChangesRefused}

abbrev pub code_of : Status → ℕ
code_of Done = 0
code_of Cut = 1
code_of Circuit = 2
code_of Rejected = 3
code_of Usage = 4
code_of (ModelRefused line word) = 5
code_of Missing = 6
code_of ReadFault = 7
code_of WriteFault = 8
code_of NoMemory = 9
code_of TooLong = 10
code_of TooBig = 11
code_of UnknownArc = 12
code_of NotConverted = 14
code_of NoFlow = 15
code_of Unbounded = 16
code_of UnknownNode = 17
code_of (TableRefused line word) = 18
code_of (ChangesRefused line word) = 19
