use Rattle.std.proofs.Common.{◌∷◌, ◌++◌, [], refl, ap, ◌∙◌}
use Rattle.std.specs.Prelude.{pos}
use Rattle.cert_text.proofs.Readings.{pairs_none, pairs_step, left_more}
use Rattle.cert_text.proofs.candidate.read_pairs.Goals as goal

pub loop-i-init : goal.loop-i-init
loop-i-init c =
    let ground = c.in_ok-push.ensures.items ∙ ap (λ l. l ++ pos 0 ∷ []) c.requires.potentials in
    record { rest = refl; read = rw (ground, c.requires.supplies) (pairs_none c.args.text.now) }

pub loop-i-preserved : goal.loop-i-preserved
loop-i-preserved c =
    let left = c.loop-i.invariant.rest in
    let split = c.split_line.ensures in
    record {
      rest = left_more c.args.text.now c.loop-i.rest.now c.split_line.result.0.now c.split_line.result.1.now c.loop-i._i left split.line split.rest;
      read = pairs_step c.args.text.now c.loop-i.rest.now c.split_line.result.0.now c.split_line.result.1.now c.loop-i._i left split.line split.rest
          c.loop-i.u.items c.loop-i.x.items c.push-in-loop-i.new.self.items c.push-in-loop-i-2.new.self.items c.last_pair-potential.result.0 c.last_pair-potential.result.1
          c.loop-i.invariant.read c.last_pair-potential.ensures c.in_ok-push-2.ensures.items c.in_ok-push-3.ensures.items;
    }
