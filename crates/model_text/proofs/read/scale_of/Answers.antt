use Rattle.std.proofs.Common.{sym, ◌∙◌, arith}
use Rattle.model_text.proofs.ReadLemmas.{no-scale-word, no-scale-count, first-none, second-none, both-there}
use Rattle.model_text.proofs.read.scale_of.Goals as goal

pub returns-then-not-are_same-clause-is : goal.returns-then-not-are_same-clause-is
returns-then-not-are_same-clause-is c =
    sym (no-scale-word c.args.words.now (omega arith) (sym c.are_same.ensures ∙ c.if-not-are_same.true))

pub returns-in_err-decimals_of-in-len3-clause-is : goal.returns-in_err-decimals_of-in-len3-clause-is
returns-in_err-decimals_of-in-len3-clause-is c =
    c.from_residual.ensures
    ∙ sym (first-none c.args.words.now (omega arith) (sym c.are_same.ensures ∙ c.if-not-are_same.false) (sym c.decimals_of.ensures.is ∙ c.in_err-decimals_of-in-len3.was))

pub returns-in_err-decimals_of-in-len3-2-clause-is : goal.returns-in_err-decimals_of-in-len3-2-clause-is
returns-in_err-decimals_of-in-len3-2-clause-is c =
    c.from_residual-in_err-decimals_of-in-len3-2.ensures
    ∙ sym (second-none c.args.words.now (omega arith) (sym c.are_same.ensures ∙ c.if-not-are_same.false) c.in_ok-decimals_of-in-len3.field-0
    (sym c.decimals_of.ensures.is ∙ c.in_ok-decimals_of-in-len3.was) (sym c.decimals_of-in-len3.ensures.is ∙ c.in_err-decimals_of-in-len3-2.was))

pub returns-in_ok-decimals_of-in-len3-2-clause-is : goal.returns-in_ok-decimals_of-in-len3-2-clause-is
returns-in_ok-decimals_of-in-len3-2-clause-is c =
    sym (both-there c.args.words.now (omega arith) (sym c.are_same.ensures ∙ c.if-not-are_same.false)
    c.in_ok-decimals_of-in-len3.field-0 c.in_ok-decimals_of-in-len3-2.field-0
    (sym c.decimals_of.ensures.is ∙ c.in_ok-decimals_of-in-len3.was) (sym c.decimals_of-in-len3.ensures.is ∙ c.in_ok-decimals_of-in-len3-2.was))

pub returns-in_default-clause-is : goal.returns-in_default-clause-is
returns-in_default-clause-is c = sym (no-scale-count c.args.words.now (omega arith))

pub returns-in_default-2-clause-is : goal.returns-in_default-2-clause-is
returns-in_default-2-clause-is c = sym (no-scale-count c.args.words.now (omega arith))
