-- The lines so far, counted, have made what the reader has, and hold no fault; the rest of the text has the other lines.
use Rattle.std.proofs.Common.{◌≡◌, ◌≤◌, ◌+◌, take, drop, length}
use Rattle.model_text.specs.Lines.{text_lines}
use Rattle.model_text.specs.ModelText.{progress_of, NoFaultBefore}
use Rattle.model_text.specs.Reading.{progress_at}
use Rattle.model_text.proofs.read.read_model.Given as goal

abbrev pub decreases-loop-rest : goal.decreases-loop-rest
decreases-loop-rest l = length l.rest

abbrev pub invariant-loop-rest : goal.invariant-loop-rest
invariant-loop-rest l = record {
  bytes : l.count + length l.rest ≤ length l.fn.text;
  within : l.count ≤ length (text_lines l.fn.text);
  lines_left : drop l.count (text_lines l.fn.text) ≡ text_lines l.rest;
  progress : progress_at l.reader.stage l.reader.model.scale l.reader.model.entries ≡ progress_of (take l.count (text_lines l.fn.text));
  no_fault : NoFaultBefore (text_lines l.fn.text) l.count;
}
