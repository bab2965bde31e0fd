use Rattle.std.proofs.Common.{◌∙◌, Some, is_some, refl, sym, ap, arith}
use Rattle.mono_top.specs.Request.{asked}
use Rattle.mono_top.proofs.SteadyLemmas.{all_held, none_missing, none_too_long, none_in_part}
use Rattle.mono_top.proofs.steady.run_steadily.Goals as goal

pub returns-clause-held : goal.returns-clause-held
returns-clause-held g c held missing = none_missing _ _ _ held (c.run.ensures.not_held missing _ refl)

pub returns-clause-room : goal.returns-clause-room
returns-clause-room g c enough fault =
    none_in_part (asked c.args.words.now) c.args.shelf.now c.run.new.shelf (Some c.args.out.now.written) (Some c.run.new.out.written)
    c.args.out.now.room enough c.run.ensures.moves (c.run.ensures.part fault)

pub returns-clause-answered : goal.returns-clause-answered
returns-clause-answered g c answerable enough = record {
  listed = λ usage. absurd (cc (sym (ap is_some (c.run.ensures.usage usage)) ∙ answerable.0));
  held = λ missing. none_missing _ _ _ (all_held _ _ answerable.1) (c.run.ensures.not_held missing _ refl);
  read = λ fault. omega (arith, c.run.ensures.read_fault fault);
  short = λ long. none_too_long _ _ _ _ answerable.1 (c.run.ensures.too_long long _ refl);
  written = λ fault.
      none_in_part (asked c.args.words.now) c.args.shelf.now c.run.new.shelf (Some c.args.out.now.written) (Some c.run.new.out.written)
      c.args.out.now.room enough c.run.ensures.moves (c.run.ensures.part fault);
}
