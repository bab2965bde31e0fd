use Rattle.std.proofs.Common.{◌≡◌, ap, sym, subst, ◌∙◌}
use Rattle.theory.specs.Network.{Network}
use Rattle.theory.specs.Certificate.{IsValid}
use Rattle.theory.proofs.Certificates.{certificate_says}
use Rattle.ground_net.specs.Ground.{replaced}
use Rattle.cert_text.specs.Shown.{shown}
use Rattle.kilter_solver.specs.Kind.{IsRightKind}
use Rattle.warm_solve.specs.Kept.{Kept}
use Rattle.kilter_solver.proofs.RightKind.{kind_is}
use Rattle.warm_solve.proofs.Changed.{put_back}
use Rattle.warm_solve.proofs.warm.Warm.change.Goals as goal

pub renew-renewed-requires-clause-valid : goal.renew-renewed-requires-clause-valid
renew-renewed-requires-clause-valid g c =
    let back = put_back c.self.inside.net.network c.replace_curve-before.new.self.network c.args.arc.0 c.args.curve.listing
    c.replace_curve-before.result.listing c.replace_curve-before.ensures.network c.replace_curve-before.ensures.before in
    subst (λ (n : Network). IsValid n (shown c.self.inside.kept)) (sym back) c.self.invariant.valid

pub invariant_of-self-in-Err : goal.invariant_of-self-in-Err
invariant_of-self-in-Err g c =
    let back = put_back c.self.inside.net.network c.replace_curve-before.new.self.network c.args.arc.0 c.args.curve.listing
    c.replace_curve-before.result.listing c.replace_curve-before.ensures.network c.replace_curve-before.ensures.before in
    rw (c.replace_curve-refused.ensures.network, back, c.in-Err.ensures.on_err)
    record {
      valid = c.self.invariant.valid;
      nodes = c.renew-renewed.ensures.nodes ∙ c.self.invariant.nodes;
      arcs = c.renew-renewed.ensures.arcs ∙ c.self.invariant.arcs;
    }

pub returns-in-Ok-clause-right_kind : goal.returns-in-Ok-clause-right_kind
returns-in-Ok-clause-right_kind g c =
    let net = c.replace_curve-before.new.self.network in
    let kept = shown c.renew-renewed.new.kept in
    let is : net ≡ replaced c.args.self.now.network c.args.arc.0 c.args.curve.listing =
    c.replace_curve-before.ensures.network ∙ ap (λ (k : Kept). replaced k.network c.args.arc.0 c.args.curve.listing) c.self.view_is in
    subst (λ (n : Network). IsRightKind n kept) is
    (kind_is net kept (certificate_says net kept c.replace_curve-before.new.self.good.is_network c.in-Ok.ensures.valid))

pub returns-in-Err-clause-network_on_err : goal.returns-in-Err-clause-network_on_err
returns-in-Err-clause-network_on_err g c =
    c.replace_curve-refused.ensures.network
    ∙ put_back c.self.inside.net.network c.replace_curve-before.new.self.network c.args.arc.0 c.args.curve.listing
    c.replace_curve-before.result.listing c.replace_curve-before.ensures.network c.replace_curve-before.ensures.before
    ∙ ap (λ (k : Kept). k.network) c.self.view_is
