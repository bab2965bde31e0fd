use Rattle.std.proofs.Common.{arith, sym, refl}
use Rattle.model_text.proofs.ReadLemmas.{header-is, no_header}
use Rattle.model_text.proofs.read.is_header.Goals as goal

pub returns-then-are_same : goal.returns-then-are_same
returns-then-are_same c =
    let is = header-is c.args.version c.args.words.now (omega arith) in
    rw (is, ← c.are_same.ensures, ← c.are_same-then-are_same.ensures, c.if-are_same.true) refl

pub returns-else-are_same : goal.returns-else-are_same
returns-else-are_same c =
    let is = header-is c.args.version c.args.words.now (omega arith) in
    rw (is, ← c.are_same.ensures, c.if-are_same.false) refl

pub returns-in_default : goal.returns-in_default
returns-in_default c = sym (no_header c.args.version c.args.words.now (omega arith))

pub returns-in_default-2 : goal.returns-in_default-2
returns-in_default-2 c = sym (no_header c.args.version c.args.words.now (omega arith))
