-- What stands there and the items that are left make the whole list; what stood there before is kept.
use Rattle.std.proofs.Common.{◌≡◌, ◌≤◌, ◌++◌, length, take, drop}
use Rattle.model_text.specs.Printed.{printed_list, spaced}
use Rattle.model_text.proofs.print.append_list.Given as goal

abbrev pub invariant-loop-i : goal.invariant-loop-i
invariant-loop-i g l = record {
  here_few : l.here ≤ 12;
  next_few : l.next ≤ 12;
  longer : length l.initial.out.items ≤ length l.out.items;
  kept : take (length l.initial.out.items) l.out.items ≡ l.initial.out.items;
  same : l.out.items ++ spaced (printed_list l.here l.next (drop l.i (g.C.Listed.listing l.curve).items))
      ≡ l.initial.out.items ++ spaced (printed_list l.fn.points l.fn.slopes (g.C.Listed.listing l.curve).items);
}
