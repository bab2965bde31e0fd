use Rattle.std.proofs.Common.{◌≡◌, None, sym, rules}
use Rattle.outside_io.specs.Seen.{since}
use Rattle.outside_io.proofs.Logs.{logged-none}
use Rattle.mono_top.specs.Request.{asked}
use Rattle.mono_top.proofs.StartLemmas.{starts_none}
use Rattle.mono_top.proofs.answer.do_command.Goals as goal

-- no file is started for words that ask for nothing
pub returns-in-None-clause-starts : goal.returns-in-None-clause-starts
returns-in-None-clause-starts g c =
    let seen = g.S.Shelf.seen c.args.shelf.now in
    let none : asked c.args.words.now ≡ None = search rules in
    rw none (starts_none (since seen seen) _ (sym (logged-none seen.log)))
