use Rattle.std.proofs.Common.{[], None, Some, arith, refl, sym, ◌∙◌}
use Rattle.sqlite_wal.specs.Files.{image_at}
use Rattle.uu_store.specs.Exchanges.{exchange_of}
use Rattle.uuspool_main.proofs.CopyLemmas.{copied}
use Rattle.uuspool_main.proofs.StretchLemmas.{ends}
use Rattle.uuspool_main.proofs.copying.copy_spool.Goals as goal

-- the spool was asked and then let go or closed
pub returns-in-Some : goal.returns-in-Some
returns-in-Some g c before started shows =
    let begun = c.args.spool in
    let ended = c.contents.new.self in
    let asked = c.in-Ok.ensures.question in
    let make = c.calls_make_a_stretch.ensures in
    copied _ before (image_at g.N.Start) c.in-Ok.contents c.in-Some.contents ended
    (λ clean s keeps. asked.answer clean s (shows (omega (arith, clean, asked.clean)) s keeps))
    c.short_logs_count_as_none.ensures
    c.args.purpose c.in-Some.ensures.needed
    (λ old new closed has. record {
      opened = begun;
      asked = ended;
      contents = c.in-Ok.contents;
      given = c.in-Some.contents;
      started = started;
      alone = sym c.is_alone-is_alone.ensures.exact ∙ c.if-is_alone.true;
      read = asked;
      met = c.in-Some.ensures.needed;
      has = has;
      closed = closed;
    })
    (λ rest gone.
    ends before (exchange_of 1 [] [] None) ended
    (λ store last numbered. make.let_go 1 before [] begun ended [] None store started asked.ran last numbered)
    (λ files close. make.closed 1 before [] begun ended [] None files started asked.ran close)
    rest gone)
    c.copy_contents.result c.copy_contents.ensures.ended

pub returns-in-None : goal.returns-in-None
returns-in-None g c before started shows =
    let begun = c.args.spool in
    let ended = c.contents.new.self in
    let asked = c.in-Ok.ensures.question in
    let make = c.calls_make_a_stretch.ensures in (
      (
        record { opened = begun; asked = ended; contents = c.in-Ok.contents; started = started; read = asked; gone = c.let_go.ensures },
        sym c.is_alone-is_alone.ensures.exact ∙ c.if-is_alone.true,
        c.in-None.ensures.needless refl,
      ),
      (
        None,
        tt,
        ends before (exchange_of 1 [] [] None) ended
            (λ store last numbered. make.let_go 1 before [] begun ended [] None store started asked.ran last numbered)
            (λ files close. make.closed 1 before [] begun ended [] None files started asked.ran close)
            c.let_go.result c.let_go.ensures,
      ),
    )

pub returns-in-Ok-2 : goal.returns-in-Ok-2
returns-in-Ok-2 g c before started shows =
    let begun = c.args.spool in
    let ended = c.contents.new.self in
    let asked = c.in-Ok-2.ensures.question in
    let make = c.calls_make_a_stretch.ensures in (
      (
        record { opened = begun; asked = ended; contents = c.in-Ok-2.field-0; started = started; read = asked; gone = c.let_go-in-Ok-2.ensures },
        sym c.is_alone-is_alone.ensures.exact ∙ c.if-is_alone.false,
      ),
      (
        None,
        tt,
        ends before (exchange_of 1 [] [] None) ended
            (λ store last numbered. make.let_go 1 before [] begun ended [] None store started asked.ran last numbered)
            (λ files close. make.closed 1 before [] begun ended [] None files started asked.ran close)
            c.let_go-in-Ok-2.result c.let_go-in-Ok-2.ensures,
      ),
    )

pub returns-in-Err : goal.returns-in-Err
returns-in-Err g c before started shows =
    let begun = c.args.spool in
    let ended = c.contents.new.self in
    let ran = c.in-Err.ensures.question.ran in
    let make = c.calls_make_a_stretch.ensures in
    let stopped = Some c.in-Err.fault in (
      stopped,
      refl,
      ends before (exchange_of 1 [] [] stopped) ended
          (λ store last numbered. make.let_go 1 before [] begun ended [] stopped store started ran last numbered)
          (λ files close. make.closed 1 before [] begun ended [] stopped files started ran close)
          c.let_go-in-Err.result c.let_go-in-Err.ensures,
    )
