use Rattle.uu_store.specs.Exchanges.{exchange_of}
use Rattle.uuspool_main.proofs.StretchLemmas.{ends}
use Rattle.uuspool_main.proofs.stretch.work_on.Goals as goal

pub returns : goal.returns
returns g c before started shows =
    let (hand, commands, replies, stopped, ran, is) = c.do_work-answer.ensures in
    let ended = c.do_work-answer.new.spool in
    let make = c.calls_make_a_stretch.ensures in
    record {
      begun = c.args.spool;
      ended = ended;
      exchange = exchange_of hand commands replies stopped;
      started = started;
      shows = shows;
      done = is;
      gone = c.let_go-rest.ensures;
      stretch =
          ends before (exchange_of hand commands replies stopped) ended
          (λ store last numbered. make.let_go hand before commands c.args.spool ended replies stopped store started ran last numbered)
          (λ files close. make.closed hand before commands c.args.spool ended replies stopped files started ran close)
          c.let_go-rest.result c.let_go-rest.ensures;
    }
