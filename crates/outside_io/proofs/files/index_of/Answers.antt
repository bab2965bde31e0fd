use Rattle.std.proofs.Common.{◌∙◌, arith, rules}
use Rattle.outside_io.proofs.Entries.{found_here, not_here, none_beyond}
use Rattle.outside_io.proofs.files.index_of.Goals as goal

pub returns-then-eq : goal.returns-then-eq
returns-then-eq c =
    c.loop-file.invariant ∙ found_here c.args.files.now c.loop-file.file c.args.name.now c.index-files-file.result (omega arith) c.index-files-file.is (search rules)

pub loop-file-preserved : goal.loop-file-preserved
loop-file-preserved c =
    c.loop-file.invariant ∙ not_here c.args.files.now c.loop-file.file c.args.name.now c.index-files-file.result (omega arith) c.index-files-file.is (search rules)

pub returns : goal.returns
returns c = c.loop-file.invariant ∙ none_beyond c.args.files.now c.loop-file.file c.args.name.now (omega arith)
