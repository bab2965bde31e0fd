-- The items so far, and what is left, are those of the whole list; no item so far is inexact.
use Rattle.std.proofs.Common.{◌≡◌, ◌≤◌, ◌++◌, drop, length, vec_len, vec_capacity}
use Rattle.model_text.specs.Rescaled.{rescaled_items, are_items_inexact, of_flows, of_tensions}
use Rattle.model_text.proofs.rescaling.items_at.Given as goal

abbrev pub invariant-loop-i : goal.invariant-loop-i
invariant-loop-i l = record {
  counted : vec_len l.items ≡ l.i;
  room : length l.fn.curve.listing.items ≤ vec_capacity l.items;
  here_before : l.here.before ≤ 12;
  here_after : l.here.after ≤ 12;
  next_before : l.next.before ≤ 12;
  next_after : l.next.after ≤ 12;
  same_test : are_items_inexact l.here l.next (drop l.i l.fn.curve.listing.items)
      ≡ are_items_inexact (of_flows l.fn.from l.fn.to) (of_tensions l.fn.from l.fn.to) l.fn.curve.listing.items;
  same_items : l.items.items ++ rescaled_items l.here l.next (drop l.i l.fn.curve.listing.items)
      ≡ rescaled_items (of_flows l.fn.from l.fn.to) (of_tensions l.fn.from l.fn.to) l.fn.curve.listing.items;
}
