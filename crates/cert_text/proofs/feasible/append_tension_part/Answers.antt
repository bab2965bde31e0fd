use Rattle.cert_text.proofs.Fitting.{no_walk}
use Rattle.cert_text.proofs.feasible.append_tension_part.Goals as goal

pub append_walk-requires : goal.append_walk-requires
append_walk-requires c =
    rw c.as_slice-in-No.ensures (no_walk c.args.m.now.entries c.args.tension.now c.requires c.in-No.walk c.in-No.span c.in-No.is)
