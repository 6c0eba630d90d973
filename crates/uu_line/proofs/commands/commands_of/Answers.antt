use Rattle.std.proofs.Common.{◌≡◌, ◌<◌, subst, sym, suc, take, length, add-one, arith}
use Rattle.std.proofs.lemmas.List.{take_all}
use Rattle.uu_line.proofs.TableLemmas.{AreApps, apps_added, apps_next}
use Rattle.uu_line.proofs.commands.commands_of.Goals as goal

pub loop-row-preserved : goal.loop-row-preserved
loop-row-preserved c =
    let inside : c.loop-row.row-index < length c.args.rows.now = omega arith in
    rw add-one (subst (AreApps (take (suc c.loop-row.row-index) c.args.rows.now)) (sym c.in_ok-push-in-Ok.ensures.items)
    (apps_next c.args.rows.now c.loop-row.row-index _ c.loop-row.commands.items c.in-Ok.command inside c.loop-row.invariant c.in-Ok.ensures.app c.in-Ok.ensures.local))

pub returns : goal.returns
returns c =
    let whole : take c.loop-row.row-index c.args.rows.now ≡ c.args.rows.now = take_all c.loop-row.row-index c.args.rows.now (omega arith) in
    λ old new app is added. apps_added c.args.rows.now c.loop-row.commands.items app old new (subst (λ rows. AreApps rows c.loop-row.commands.items) whole c.loop-row.invariant) is added
