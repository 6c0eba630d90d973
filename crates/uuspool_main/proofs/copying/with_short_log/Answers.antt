use Rattle.std.proofs.Common.{refl}
use Rattle.uuspool_main.proofs.CopyLemmas.{only_read}
use Rattle.uuspool_main.proofs.copying.with_short_log.Goals as goal

pub returns-then-has_short_log : goal.returns-then-has_short_log
returns-then-has_short_log g c =
    let looked = c.has_short_log.ensures in
    (only_read c.args.old c.has_short_log.new.files looked.database looked.log looked.clean, looked.short c.if-has_short_log.true, refl)

pub returns-else-has_short_log : goal.returns-else-has_short_log
returns-else-has_short_log g c =
    let looked = c.has_short_log.ensures in
    only_read c.args.old c.has_short_log.new.files looked.database looked.log looked.clean
