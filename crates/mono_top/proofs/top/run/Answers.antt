use Rattle.std.proofs.Common.{refl, ◌+◌}
use Rattle.outside_io.specs.Seen.{since}
use Rattle.outside_io.specs.Sink.{Grew}
use Rattle.mono_top.specs.Fetch.{text_of}
use Rattle.model_text.specs.Model.{node_names, place_of}
use Rattle.warm_solve.specs.ChangesText.{Spells as SpellsChanges}
use Rattle.mono_top.specs.Between.{FindsFlow, FindsTension}
use Rattle.mono_top.specs.Request.{asked, solve, feasible, greatest_flow, greatest_tension}
use Rattle.mono_top.proofs.BetweenLemmas.{of_both, place_there, concludes_flow, concludes_tension}
use Rattle.mono_top.proofs.DueLemmas.{answer_of, checked, resolved}
use Rattle.mono_top.proofs.ResolveLemmas.{resolves_of, concludes_resolve}
use Rattle.mono_top.proofs.StartLemmas.{starved_by}
use Rattle.mono_top.proofs.HeadlineLemmas.{concludes, concludes_check, concludes_feasible}
use Rattle.mono_top.proofs.TableLemmas.{table_answer, concludes_table}
use Rattle.mono_top.proofs.top.run.Goals as goal

pub returns-in-All-clause-headline : goal.returns-in-All-clause-headline
returns-in-All-clause-headline g c unhindered files told s m asks =
    let outside = since (g.S.Shelf.seen c.args.shelf.now) (g.S.Shelf.seen c.reply_to.new.shelf) in
    let grew : Grew (g.K.Sink.written c.args.out.now) (g.K.Sink.written c.write_all.new.out) (text_of c.in-Ok.reply.text) =
    rw (← c.as_slice.ensures) (c.write_all.ensures.all c.in-All.is) in
    let sound = answer_of (asked c.args.words.now) outside c.in-Ok.reply.status (text_of c.in-Ok.reply.text) c.in-Ok.ensures.replies unhindered.read files told solve s m asks in
    concludes s m c.in-Ok.reply.status (text_of c.in-Ok.reply.text) (g.K.Sink.written c.args.out.now) (g.K.Sink.written c.write_all.new.out)
    sound.0 sound.1 grew

pub returns-in-All-clause-checked : goal.returns-in-All-clause-checked
returns-in-All-clause-checked g c unhindered files told s m text asks =
    let outside = since (g.S.Shelf.seen c.args.shelf.now) (g.S.Shelf.seen c.reply_to.new.shelf) in
    let judged = checked (asked c.args.words.now) outside c.in-Ok.reply.status (text_of c.in-Ok.reply.text) c.in-Ok.ensures.replies unhindered.read files told s m text asks in
    concludes_check s m text c.in-Ok.reply.status judged.0 judged.1

pub returns-in-All-clause-feasible : goal.returns-in-All-clause-feasible
returns-in-All-clause-feasible g c unhindered files told s m asks =
    let outside = since (g.S.Shelf.seen c.args.shelf.now) (g.S.Shelf.seen c.reply_to.new.shelf) in
    let found_so = answer_of (asked c.args.words.now) outside c.in-Ok.reply.status (text_of c.in-Ok.reply.text) c.in-Ok.ensures.replies unhindered.read files told feasible s m asks in
    concludes_feasible s m c.in-Ok.reply.status (text_of c.in-Ok.reply.text) found_so.0 found_so.1

pub returns-in-All-clause-transport : goal.returns-in-All-clause-transport
returns-in-All-clause-transport g c unhindered files told t asks =
    let outside = since (g.S.Shelf.seen c.args.shelf.now) (g.S.Shelf.seen c.reply_to.new.shelf) in
    let grew : Grew (g.K.Sink.written c.args.out.now) (g.K.Sink.written c.write_all.new.out) (text_of c.in-Ok.reply.text) =
    rw (← c.as_slice.ensures) (c.write_all.ensures.all c.in-All.is) in
    let plans = table_answer (asked c.args.words.now) outside c.in-Ok.reply.status (text_of c.in-Ok.reply.text) c.in-Ok.ensures.replies unhindered.read files told t asks in
    concludes_table t c.in-Ok.reply.status (text_of c.in-Ok.reply.text) (g.K.Sink.written c.args.out.now) (g.K.Sink.written c.write_all.new.out) plans grew

pub returns-in-All-clause-maxflow : goal.returns-in-All-clause-maxflow
returns-in-All-clause-maxflow g c unhindered files told s m from to i k asks nodes =
    let outside = since (g.S.Shelf.seen c.args.shelf.now) (g.S.Shelf.seen c.reply_to.new.shelf) in
    let grew : Grew (g.K.Sink.written c.args.out.now) (g.K.Sink.written c.write_all.new.out) (text_of c.in-Ok.reply.text) =
    rw (← c.as_slice.ensures) (c.write_all.ensures.all c.in-All.is) in
    let its = answer_of (asked c.args.words.now) outside c.in-Ok.reply.status (text_of c.in-Ok.reply.text) c.in-Ok.ensures.replies unhindered.read files told (greatest_flow from to) s m asks in
    let finds = of_both (FindsFlow s m) c.in-Ok.reply.status (text_of c.in-Ok.reply.text) (place_of (node_names m) from) (place_of (node_names m) to) i k its.1 nodes.0 nodes.1 in
    concludes_flow s m (i + 1) (k + 1) its.0 (place_there m from i nodes.0) (place_there m to k nodes.1) c.in-Ok.reply.status (text_of c.in-Ok.reply.text)
    (g.K.Sink.written c.args.out.now) (g.K.Sink.written c.write_all.new.out) finds grew

pub returns-in-All-clause-maxtension : goal.returns-in-All-clause-maxtension
returns-in-All-clause-maxtension g c unhindered files told s m from to i k asks nodes =
    let outside = since (g.S.Shelf.seen c.args.shelf.now) (g.S.Shelf.seen c.reply_to.new.shelf) in
    let grew : Grew (g.K.Sink.written c.args.out.now) (g.K.Sink.written c.write_all.new.out) (text_of c.in-Ok.reply.text) =
    rw (← c.as_slice.ensures) (c.write_all.ensures.all c.in-All.is) in
    let its = answer_of (asked c.args.words.now) outside c.in-Ok.reply.status (text_of c.in-Ok.reply.text) c.in-Ok.ensures.replies unhindered.read files told (greatest_tension from to) s m asks in
    let finds = of_both (FindsTension s m) c.in-Ok.reply.status (text_of c.in-Ok.reply.text) (place_of (node_names m) from) (place_of (node_names m) to) i k its.1 nodes.0 nodes.1 in
    concludes_tension s m (i + 1) (k + 1) its.0 (place_there m from i nodes.0) (place_there m to k nodes.1) c.in-Ok.reply.status (text_of c.in-Ok.reply.text)
    (g.K.Sink.written c.args.out.now) (g.K.Sink.written c.write_all.new.out) finds grew

pub returns-in-All-clause-resolve : goal.returns-in-All-clause-resolve
returns-in-All-clause-resolve g c unhindered files told s m changes asks =
    let outside = since (g.S.Shelf.seen c.args.shelf.now) (g.S.Shelf.seen c.reply_to.new.shelf) in
    let grew : Grew (g.K.Sink.written c.args.out.now) (g.K.Sink.written c.write_all.new.out) (text_of c.in-Ok.reply.text) =
    rw (← c.as_slice.ensures) (c.write_all.ensures.all c.in-All.is) in
    let its = resolved (λ bytes. SpellsChanges s m bytes changes) (asked c.args.words.now) outside c.in-Ok.reply.status (text_of c.in-Ok.reply.text)
    c.in-Ok.ensures.replies unhindered.read files told s m asks in
    concludes_resolve s m asks.2.0 changes c.in-Ok.reply.status (text_of c.in-Ok.reply.text) (g.K.Sink.written c.args.out.now) (g.K.Sink.written c.write_all.new.out)
    its.0 asks.2.3 (resolves_of s m asks.2.0 changes c.in-Ok.reply.status (text_of c.in-Ok.reply.text) its.1 asks.2.3) grew

-- a call starves where its work does
pub returns-in-Err-clause-starts : goal.returns-in-Err-clause-starts
returns-in-Err-clause-starts g c = starved_by _ _ _ _ (λ e. refl) c.in-Err.ensures.starts

pub returns-in-All-clause-starts : goal.returns-in-All-clause-starts
returns-in-All-clause-starts g c = starved_by _ _ _ _ (λ e. absurd cc) c.in-Ok.ensures.starts
