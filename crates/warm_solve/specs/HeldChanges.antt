-- The changes of the code as those of a text.
use Rattle.warm_solve.specs.declared.changes.Change.{Change as Held}
use Rattle.warm_solve.specs.ChangesText.{Change}

abbrev pub shown : Held → Change
shown change = record { arc = change.arc.0; curve = change.curve.listing; line = change.line }
