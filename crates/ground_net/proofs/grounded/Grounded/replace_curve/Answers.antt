use Rattle.std.proofs.Common.{◌<◌, length, ap, ◌∙◌}
use Rattle.net_incidence.specs.Graph.{network}
use Rattle.ground_net.specs.Ground.{GroundedNet, listings, replaced}
use Rattle.ground_net.proofs.Replacing.{written, replaced_is_grounded}
use Rattle.ground_net.proofs.grounded.Grounded.replace_curve.Goals as goal

pub invariant_of-self-inside : goal.invariant_of-self-inside
invariant_of-self-inside c =
    let before = c.self.inside.curves.items in
    let other = c.args.other in
    let same = written before c.args.arc.0 other c.replace.new.dest c.replace.ensures.after in
    let there : c.args.arc.0 < length c.self.inside.net.arcs = rw (ap (λ (g : GroundedNet). length g.network.arcs) c.self.view_is) c.requires.there in (
      rw same
          (replaced_is_grounded (network c.self.inside.net (listings before)) c.args.arc.0 other.listing c.self.inside.good there other.valid.is_list
          (record { short = c.requires.short; items = other.valid.items_within; base = c.requires.base })),
      tt,
    )

pub returns-clause-network : goal.returns-clause-network
returns-clause-network c =
    let before = c.self.inside.curves.items in
    ap (network c.self.inside.net) (written before c.args.arc.0 c.args.other c.replace.new.dest c.replace.ensures.after)
    ∙ ap (λ (g : GroundedNet). replaced g.network c.args.arc.0 c.args.other.listing) c.self.view_is
