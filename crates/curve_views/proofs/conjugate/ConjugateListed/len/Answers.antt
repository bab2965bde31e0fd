use Rattle.std.proofs.Common.{sym}
use Rattle.curve_views.proofs.TurnedList.{length-conjugate}
use Rattle.curve_views.proofs.conjugate.ConjugateListed.len.Goals as goal

pub returns : goal.returns
returns g c =
    rw (c.turned_len-2.ensures, c.turned_len.ensures, c.len.ensures, c.domain_of-first.ensures.low, c.domain_of-first.ensures.high)
    (sym (length-conjugate (g.C.Listed.listing c.args.self.now.curve.now).items (g.met.C.Listed.is_list c.args.self.now.curve.now)))
