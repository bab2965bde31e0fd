use Rattle.theory.proofs.Level.{level-zero}
use Rattle.curve_views.proofs.LevelEnds.{domain_of_level, span_of_level}
use Rattle.curve_views.proofs.LevelFlows.{top_level, doubled_flow}
use Rattle.curve_views.proofs.LevelCuts.{cut_of_level}
use Rattle.curve_views.proofs.level.Level.of.Goals as goal

pub returns-clause-zero : goal.returns-clause-zero
returns-clause-zero g c = level-zero

pub returns-clause-domain : goal.returns-clause-domain
returns-clause-domain g c = domain_of_level

pub returns-clause-span : goal.returns-clause-span
returns-clause-span g c = span_of_level

pub returns-clause-top : goal.returns-clause-top
returns-clause-top g c = top_level

pub returns-clause-doubled : goal.returns-clause-doubled
returns-clause-doubled g c = doubled_flow

pub returns-clause-cut : goal.returns-clause-cut
returns-clause-cut g c = cut_of_level
