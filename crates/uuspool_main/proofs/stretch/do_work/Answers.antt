use Rattle.std.proofs.Common.{◌≡◌, Ok, subst, sym}
use Rattle.uu_request.specs.Requests.{LineAsks}
use Rattle.uu_times.specs.Moment.{IsDateTimeAt, local_second}
use Rattle.uu_store.specs.Exchanges.{exchange_of}
use Rattle.uuspool_main.specs.Stretch.{HasMoment, IsOfLine, IsOfInvocation, WasGiven}
use Rattle.uuspool_main.specs.declared.stretch.Invocation.{Invocation}
use Rattle.uuspool_main.specs.declared.stretch.Invocation.TheVariants as invocation
use Rattle.uuspool_main.proofs.StretchLemmas.{line_given, of_words}
use Rattle.uuspool_main.proofs.stretch.do_work.Goals as goal

pub answer_to-requires : goal.answer_to-requires
answer_to-requires g c =
    let has : HasMoment c.args.settings.now (invocation.Line c.in-Line.line c.in-Line.at c.in-Line.input) = subst (HasMoment c.args.settings.now) c.in-Line.is c.requires in
    subst (λ second. IsDateTimeAt c.in-Line.at.local (local_second c.args.settings.now.zone second)) (sym has.1.second) has.1.local

pub returns-in-Line : goal.returns-in-Line
returns-in-Line g c =
    let settings = c.args.settings.now in
    let line = c.in-Line.line in
    let at = c.in-Line.at in
    let input = c.in-Line.input.items in
    let begun = c.args.spool.now in
    let ended = c.answer_to.new.spool in
    let end = c.answer_to.result.end in
    let answer = c.answer_to.result.output.items in
    subst (λ (what : Invocation). WasGiven begun ended (IsOfInvocation settings begun ended what end answer)) (sym c.in-Line.is)
    (let (hand, commands, replies, stopped, ran, done) =
    line_given settings begun ended answer (λ request. LineAsks settings at input line (Ok request)) (c.lines_are_one_run.ensures.none begun) end c.answer_to.ensures.ends
    in let is : IsOfLine settings begun ended line at input end answer (exchange_of hand commands replies stopped) = (done, c.answer_to.ensures.fault) in
    (hand, commands, replies, stopped, ran, (is, of_words settings begun ended answer line at input end (exchange_of hand commands replies stopped) is)))

pub returns-in-Requests : goal.returns-in-Requests
returns-in-Requests g c =
    let answer = c.batch_answer.result in
    subst (λ (what : Invocation). WasGiven c.args.spool.now c.batch_answer.new.spool
    (IsOfInvocation c.args.settings.now c.args.spool.now c.batch_answer.new.spool what answer.end answer.output.items))
    (sym c.in-Requests.is) c.batch_answer.ensures
