use Rattle.std.proofs.Common.{Ok, rules}
use Rattle.std.specs.Option.{ForSome}
use Rattle.outside_io.specs.Seen.{since}
use Rattle.outside_io.specs.Whole.{IsHeld}
use Rattle.mono_top.specs.Answer.{AnswersModel, behind}
use Rattle.mono_top.specs.Fetch.{FetchesModel, text_of}
use Rattle.mono_top.specs.Request.{question_by}
use Rattle.mono_top.specs.declared.fetch.FetchedModel.TheVariants.{Model}
use Rattle.mono_top.proofs.FetchLemmas.{answered, answers_whole_call}
use Rattle.mono_top.proofs.StartLemmas.{started_later, starts_all, starts_refused}
use Rattle.mono_top.proofs.answer.of_model.Goals as goal

pub returns-in_ok-answer-in-Model-clause-replies : goal.returns-in_ok-answer-in-Model-clause-replies
returns-in_ok-answer-in-Model-clause-replies g c =
    let reply = c.in_ok-answer-in-Model.field-0 in
    let question = question_by c.args.task in
    let outside = since (g.S.Shelf.seen c.args.shelf.now) (g.S.Shelf.seen c.answer.new.shelf) in
    answered c.args.name.now outside c.in-Model.model (AnswersModel question (behind c.args.name.now outside)) reply.status (text_of reply.text)
    (rw c.in-Model.is at c.in_ok-model.ensures.fetches)
    (answers_whole_call (g.S.Shelf.seen c.args.shelf.now) (g.S.Shelf.seen c.fetch_model.new.shelf) (g.S.Shelf.seen c.answer.new.shelf)
    c.args.name.now c.fetch_model.ensures.moves c.fetch_model.ensures.log
    question c.in-Model.model.scale c.in-Model.model.entries reply.status (text_of reply.text)
    c.in_ok-answer-in-Model.ensures.answers)

-- the model's file was read before the memory ran out, so it is held
pub returns-in_err-answer-in-Model-clause-replies : goal.returns-in_err-answer-in-Model-clause-replies
returns-in_err-answer-in-Model-clause-replies g c =
    let fetched : FetchesModel c.args.name.now (since (g.S.Shelf.seen c.args.shelf.now) (g.S.Shelf.seen c.fetch_model.new.shelf)) (Ok (Model c.in-Model.model)) =
    rw c.in-Model.is at c.in_ok-model.ensures.fetches in
    let held : ForSome (g.S.Shelf.seen c.args.shelf.now).holds (λ files. IsHeld files c.args.name.now) = λ files told. (fetched.0, fetched.1 files told) in
    search (rules, held)

pub returns-in_ok-answer-in-Model-clause-starts : goal.returns-in_ok-answer-in-Model-clause-starts
returns-in_ok-answer-in-Model-clause-starts g c =
    let question = question_by c.args.task in
    let old = g.S.Shelf.seen c.args.shelf.now in
    let mid = g.S.Shelf.seen c.fetch_model.new.shelf in
    let new = g.S.Shelf.seen c.answer.new.shelf in
    starts_all c.args.name.now question (since old new) _ c.in-Model.model
    (rw c.in-Model.is at c.in_ok-model.ensures.fetches)
    (started_later old mid new c.args.name.now c.fetch_model.ensures.log question c.in-Model.model.entries c.answer.ensures.later)

pub returns-in_err-answer-in-Model-clause-starts : goal.returns-in_err-answer-in-Model-clause-starts
returns-in_err-answer-in-Model-clause-starts g c =
    let question = question_by c.args.task in
    let old = g.S.Shelf.seen c.args.shelf.now in
    let mid = g.S.Shelf.seen c.fetch_model.new.shelf in
    let new = g.S.Shelf.seen c.answer.new.shelf in
    starts_all c.args.name.now question (since old new) _ c.in-Model.model
    (rw c.in-Model.is at c.in_ok-model.ensures.fetches)
    (started_later old mid new c.args.name.now c.fetch_model.ensures.log question c.in-Model.model.entries c.answer.ensures.later)

pub returns-in-Refused-clause-starts : goal.returns-in-Refused-clause-starts
returns-in-Refused-clause-starts g c =
    starts_refused c.args.name.now (question_by c.args.task)
    (since (g.S.Shelf.seen c.args.shelf.now) (g.S.Shelf.seen c.fetch_model.new.shelf)) _ c.in-Refused.reply
    (rw c.in-Refused.is at c.in_ok-model.ensures.fetches) c.fetch_model.ensures.log
