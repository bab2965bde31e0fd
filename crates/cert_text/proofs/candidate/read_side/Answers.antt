use Rattle.std.proofs.Common.{◌≡◌, ◌++◌, if◌then◌else◌, sym, ap, ◌∙◌}
use Rattle.cert_text.specs.CertificateText.{node_line}
use Rattle.cert_text.proofs.Readings.{side_step, left_next}
use Rattle.cert_text.proofs.candidate.read_side.Goals as goal
use Rattle.cert_text.proofs.candidate.read_side.Goals.{then-held, else-held}

pub loop-i-preserved : goal.loop-i-preserved
loop-i-preserved c =
    let m = c.args.m.now.entries in
    let line = c.split_line.result.0.now in
    let behind = c.split_line.result.1.now in
    let held = c.eq-held.result in
    let own : c.as_slice.result.now ≡ node_line m c.loop-i.i =
    c.as_slice.ensures.value ∙ c.in_ok-append_node_line.ensures ∙ ap (λ l. l ++ node_line m c.loop-i.i) c.clear.ensures.items in
    let next : c.if-held.rest.now ≡ (if held then behind else c.loop-i.rest.now) = elim c.if-held.branch [
      | then-held w ↦ ap (λ r. r.now) w.rest-is ∙ ap (λ b. if b then behind else c.loop-i.rest.now) (sym w.if-held.true)
      | else-held w ↦ ap (λ r. r.now) w.rest-is ∙ ap (λ b. if b then behind else c.loop-i.rest.now) (sym w.if-held.false)
    ] in
    record {
      rest = left_next m c.args.text.now c.loop-i.rest.now line behind c.as_slice.result.now c.if-held.rest.now c.loop-i.i held
          c.loop-i.invariant.rest c.split_line.ensures.line c.split_line.ensures.rest own c.eq-held.ensures next;
      read = side_step m c.args.text.now c.loop-i.rest.now line behind c.as_slice.result.now c.if-held.rest.now c.loop-i.i held
          c.loop-i.invariant.rest c.split_line.ensures.line c.split_line.ensures.rest own c.eq-held.ensures next
          c.loop-i.side.items c.push.new.self.items c.loop-i.invariant.read c.in_ok-push.ensures.items;
    }
