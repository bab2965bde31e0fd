use Rattle.std.proofs.Common.{refl}
use Rattle.cert_text.proofs.Readings.{flows_none, flows_step, left_more}
use Rattle.cert_text.proofs.candidate.read_flows.Goals as goal

pub loop-j-init : goal.loop-j-init
loop-j-init c = record { rest = refl; read = flows_none c.args.text.now c.args.x.now.items }

pub loop-j-preserved : goal.loop-j-preserved
loop-j-preserved c =
    let left = c.loop-j.invariant.rest in
    let split = c.split_line.ensures in
    record {
      rest = left_more c.args.text.now c.loop-j.rest.now c.split_line.result.0.now c.split_line.result.1.now c.loop-j._j left split.line split.rest;
      read = flows_step c.args.text.now c.loop-j.rest.now c.split_line.result.0.now c.split_line.result.1.now c.loop-j._j left split.line split.rest
          c.args.x.now.items c.loop-j.x.items c.push.new.self.items c.last_flow.result c.loop-j.invariant.read c.last_flow.ensures c.in_ok-push.ensures.items;
    }
