use Rattle.std.proofs.Common.{refl}
use Rattle.uu_store.specs.Exchanges.{exchange_of}
use Rattle.uuspool.specs.ServedLines.{commands_asked, in_hand_of}
use Rattle.uu_carriers.proofs.laws.served_lines_are_a_run.Goals as goal

pub returns-clause-let_go : goal.returns-clause-let_go
returns-clause-let_go g c settings before left lines begun ended store started served gone numbered clean may =
    let run = c.lines_are_one_run.ensures.lines settings lines begun ended served in
    let exchange = exchange_of (in_hand_of run.asked) (commands_asked run.asked) run.replies run.stopped in
    let it = c.calls_make_a_stretch.ensures.let_go (in_hand_of run.asked) before (commands_asked run.asked) begun ended run.replies run.stopped store started run.ran gone numbered in
    (exchange, it, c.stretches_make_a_history.ensures.let_go before left exchange store it clean may, record { begun = begun; ended = ended; started = started; served = served; run = run; exchange_is = refl; goes = gone })

pub returns-clause-closed : goal.returns-clause-closed
returns-clause-closed g c settings before left lines begun ended files started served close clean may =
    let run = c.lines_are_one_run.ensures.lines settings lines begun ended served in
    let exchange = exchange_of (in_hand_of run.asked) (commands_asked run.asked) run.replies run.stopped in
    let it = c.calls_make_a_stretch.ensures.closed (in_hand_of run.asked) before (commands_asked run.asked) begun ended run.replies run.stopped files started run.ran close in
    (exchange, it, c.stretches_make_a_history.ensures.closed before left exchange files it clean may, record { begun = begun; ended = ended; started = started; served = served; run = run; exchange_is = refl; goes = close })
