-- The lines so far, counted, have made the changes and hold no fault; the rest of the text has the other lines.
use Rattle.std.proofs.Common.{◌≡◌, ◌≤◌, ◌+◌, take, drop, length}
use Rattle.std.specs.List.{list_any}
use Rattle.model_text.specs.Lines.{text_lines}
use Rattle.model_text.specs.ModelText.{has_words}
use Rattle.warm_solve.specs.ChangesText.{changes_of, NoFaultBefore}
use Rattle.warm_solve.proofs.reading.read_changes.Given as goal

abbrev pub decreases-loop-rest : goal.decreases-loop-rest
decreases-loop-rest l = length l.rest

abbrev pub invariant-loop-rest : goal.invariant-loop-rest
invariant-loop-rest l = record {
  bytes : l.count + length l.rest ≤ length l.fn.text;
  within : l.count ≤ length (text_lines l.fn.text);
  lines_left : drop l.count (text_lines l.fn.text) ≡ text_lines l.rest;
  changes : l.reader.changes ≡ changes_of l.fn.m.scale l.fn.m.entries (take l.count (text_lines l.fn.text));
  begun : l.reader.begun ≡ list_any has_words (take l.count (text_lines l.fn.text));
  no_fault : NoFaultBefore l.fn.m.scale l.fn.m.entries (text_lines l.fn.text) l.count;
}
