use Rattle.std.proofs.Common.{sym}
use Rattle.feasible_tension.proofs.relaxing.Spans.parent.Goals as goal

pub begin-requires : goal.begin-requires
begin-requires g c = (c.requires.relaxed.1.labels c.args.node.0 c.in-Some.step (sym c.in-Some.ensures)).there
