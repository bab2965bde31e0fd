use Rattle.std.proofs.Common.{◌≡◌, ◌++◌}
use Rattle.cert_text.specs.CertificateText.{texts_below}
use Rattle.transport_front.specs.Plan.{outside}
use Rattle.mono_top.specs.Transports.{shop_named}
use Rattle.mono_top.proofs.transport_text.append_named_shops.Given as goal

abbrev pub invariant-loop-i : goal.invariant-loop-i
invariant-loop-i l = (l.out.items ≡ l.initial.out.items ++ texts_below l.i (shop_named l.t.table (outside l.side)))
