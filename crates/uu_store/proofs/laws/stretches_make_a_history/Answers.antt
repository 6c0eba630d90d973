use Rattle.std.proofs.Common.{refl}
use Rattle.sqlite.specs.Files.{image_of}
use Rattle.uu_store.proofs.laws.stretches_make_a_history.Goals as goal

pub returns-clause-let_go : goal.returns-clause-let_go
returns-clause-let_go g c before left exchange store it clean may = it.passed clean left may

pub returns-clause-closed : goal.returns-clause-closed
returns-clause-closed g c before left exchange files it clean may = it.passed clean left may

pub returns-clause-not_stopped : goal.returns-clause-not_stopped
returns-clause-not_stopped g c before exchange files it clean =
    it.passed clean (image_of g.D.Disk files) (g.met.D.Disk.seen_may_stay files.log, g.met.D.Disk.seen_may_stay files.db)

pub returns-clause-not_opened : goal.returns-clause-not_opened
returns-clause-not_opened g c before left commands it kept clean taken may = (refl, refl, λ s keeps. kept clean taken s keeps left may)

pub returns-clause-not_taken : goal.returns-clause-not_taken
returns-clause-not_taken g c before left commands it kept clean may = (refl, refl, λ s keeps. kept clean s keeps left may)
