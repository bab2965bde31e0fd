use Rattle.outside_io.specs.Seen.{since}
use Rattle.mono_top.specs.Fetch.{text_of}
use Rattle.mono_top.specs.Request.{asked}
use Rattle.mono_top.proofs.DueLemmas.{due}
use Rattle.mono_top.proofs.answer.reply_to.Goals as goal

pub returns-clause-due : goal.returns-clause-due
returns-clause-due g c =
    let reply = c.in_ok-do_command.field-0 in
    due (asked c.args.words.now)
    (since (g.S.Shelf.seen c.args.shelf.now) (g.S.Shelf.seen c.do_command.new.shelf))
    reply.status (text_of reply.text) c.in_ok-do_command.ensures.replies
