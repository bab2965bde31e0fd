-- What a valid certificate says. An optimal pair is on its curves, so both halves are feasible and the optimal pair law
-- speaks of them; of a cut and a circuit their own laws speak. Two certificates of different kinds contradict each
-- other: an optimum and an unbounded plan both have a feasible flow, which a cut refuses, and an optimum has a feasible
-- potential, which a circuit refuses.
use Rattle.std.proofs.Common.{sym, ◌∙◌, arith}
use Rattle.theory.specs.Network.{Network, «at», curve}
use Rattle.theory.specs.Conserved.{tension}
use Rattle.theory.specs.Certificate.{Certificate}
use Rattle.theory.specs.Certificate.Certificate.{optimal, cut, circuit}
use Rattle.theory.specs.CertificateLaws.{Says, CertificateLaw, IsSameKind, OneKindLaw}
use Rattle.theory.proofs.Equality.{fenchel_equality}
use Rattle.theory.proofs.Duality.{optimal_pair}
use Rattle.theory.proofs.Refusals.{negative_cut, negative_circuit}
use Rattle.theory.proofs.Unbounded.{unbounded}

pub certificate_says : CertificateLaw
certificate_says net (optimal x u cost value) good valid =
    let best = optimal_pair net x u good valid.shows.conserved valid.shows.on_curves in
    record {
      flow = record {
        one_each = valid.fits.0.0.one_each;
        conserved = valid.shows.conserved;
        in_domains = λ j l. (valid.shows.on_curves j l).in_domain;
      };
      potential = record {
        one_each = valid.fits.0.1.numbers.one_each;
        ground = valid.fits.0.1.ground;
        in_spans = λ j l.
            (fenchel_equality 1 (curve net j) («at» x j) (tension net («at» u) j) (omega arith) (good.curve_lists j l)).in_span (valid.shows.on_curves j l);
      };
      equal = valid.right.0 ∙ best.equal ∙ sym valid.right.1;
      least = rw valid.right.0 best.least;
      greatest = rw valid.right.1 best.greatest;
    }
certificate_says net (cut side capacity) good valid = negative_cut net side good valid.shows
certificate_says net (circuit x walk span) good valid =
    record {
      flow = valid.shows.0;
      no_bound = unbounded net x walk good valid.shows.0 valid.fits.0.1.there valid.shows.1;
      no_potential = negative_circuit net walk good valid.fits.0.1.there valid.shows.1;
    }

-- two certificates whose claims hold together are of one kind
pub same_kind : (net : Network) (c d : Certificate) → Says net c → Says net d → IsSameKind c d
same_kind net (optimal x u cost value) (optimal y w other_cost other_value) says other = tt
same_kind net (optimal x u cost value) (cut side capacity) says other = other 1 x (omega arith) says.flow
same_kind net (optimal x u cost value) (circuit y walk span) says other = other.no_potential 1 u (omega arith) says.potential
same_kind net (cut side capacity) (optimal y w cost value) says other = says 1 y (omega arith) other.flow
same_kind net (cut side capacity) (cut other_side other_capacity) says other = tt
same_kind net (cut side capacity) (circuit y walk span) says other = says 1 y (omega arith) other.flow
same_kind net (circuit x walk span) (optimal y w cost value) says other = says.no_potential 1 w (omega arith) other.potential
same_kind net (circuit x walk span) (cut side capacity) says other = other 1 x (omega arith) says.flow
same_kind net (circuit x walk span) (circuit y other_walk other_span) says other = tt

pub one_kind : OneKindLaw
one_kind net c d good valid other_valid = same_kind net c d (certificate_says net c good valid) (certificate_says net d good other_valid)
