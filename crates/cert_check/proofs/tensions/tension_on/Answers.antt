use Rattle.std.proofs.Common.{◌≡◌, ◌∙◌, rules, SFits, to_z-of_z}
use mir.Syntax.{w64}
use Rattle.theory.specs.Network.{«at»}
use Rattle.theory.specs.Conserved.{tension}
use Rattle.cert_check.proofs.Nets.{tension_of_net, tension-within}
use Rattle.cert_check.proofs.tensions.tension_on.Goals as goal

pub returns : goal.returns
returns c =
    let net = c.args.g.now.network in
    let fits : SFits w64 c.tension.result = search rules in
    let is : c.tension.result ≡ tension net («at» c.args.u.now) c.args.arc.0 =
    c.tension.ensures ∙ tension_of_net c.net.result.now net c.args.u.now c.args.arc.0 c.net.ensures in
    record {
      value = to_z-of_z fits ∙ is;
      within = rw (to_z-of_z fits, is)
          (tension-within net c.args.u.now c.args.arc.0 c.args.g.now.good.is_network c.requires.potentials.numbers c.requires.there);
    }
