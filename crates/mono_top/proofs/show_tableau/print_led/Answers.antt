use Rattle.std.proofs.Common.{refl}
use Rattle.theory.specs.Grounded.{grounded}
use Rattle.theory.proofs.GroundedLaw.{grounded_is_network}
use Rattle.mono_top.proofs.TableauLemmas.{led_of_model}
use Rattle.mono_top.proofs.show_tableau.print_led.Goals as goal

pub returns : goal.returns
returns c =
    let m = c.args.model.now.entries in
    let good = grounded_is_network m c.args.model.now.formed.model in
    record {
      table = c.lead.new.self;
      of = c.lead.ensures.tableau (grounded m) good c.requires.tableau;
      led = led_of_model m c.args.tableau c.lead.new.self c.lead.ensures.led good c.requires.tableau;
      done = refl;
      printed = c.in_ok-print_tableau.ensures;
    }
