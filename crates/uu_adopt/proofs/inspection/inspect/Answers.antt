use Rattle.std.proofs.Common.{Ok, Err, subst, arith}
use Rattle.uu_rows.proofs.Showing.{answered}
use Rattle.sqlite.specs.Held.{state}
use Rattle.uu_schema.specs.declared.fault.StoreFault.TheVariants.{Foreign, Newer}
use Rattle.uu_schema.specs.declared.version.Version.TheVariants.{Fourth}
use Rattle.uu_adopt.specs.Adoption.{Finds}
use Rattle.uu_adopt.proofs.Inspecting.{inspected_spool, inspected_foreign, inspected_later, inspected_err, inspects_told, spared_err}
use Rattle.uu_adopt.proofs.inspection.inspect.Goals as goal

pub store_fault-requires : goal.store_fault-requires
store_fault-requires g c = (c.inspect_rows.ensures.finds Fourth).idle c.requires

pub returns-in-Ok-Spool-clause-idle : goal.returns-in-Ok-Spool-clause-idle
returns-in-Ok-Spool-clause-idle g c = (c.inspect_rows.ensures.finds Fourth).idle c.requires

pub returns-in-Ok-Foreign-clause-idle : goal.returns-in-Ok-Foreign-clause-idle
returns-in-Ok-Foreign-clause-idle g c = (c.inspect_rows.ensures.finds Fourth).idle c.requires

pub returns-in-Ok-Later-clause-idle : goal.returns-in-Ok-Later-clause-idle
returns-in-Ok-Later-clause-idle g c = (c.inspect_rows.ensures.finds Fourth).idle c.requires

pub returns-in-Ok-Spool-clause-inspects : goal.returns-in-Ok-Spool-clause-inspects
returns-in-Ok-Spool-clause-inspects g c =
    let a = state g.S.Store c.args.conn.now in
    let b = state g.S.Store c.inspect_rows.new.conn in
    inspects_told a b c.args.tables c.inspect_rows.result (Ok tt) (answered _ _ c.in-Ok-Spool.is) (c.inspect_rows.ensures.finds Fourth).reads.spares
    (λ v tables. inspected_spool v a b (λ clean stands. subst (λ finding. Finds v finding a.now.trees) c.in-Ok-Spool.field-0-is ((c.in-Ok-Spool.ensures.finds v).reads.found clean stands tables)))

pub returns-in-Ok-Foreign-clause-inspects : goal.returns-in-Ok-Foreign-clause-inspects
returns-in-Ok-Foreign-clause-inspects g c =
    let a = state g.S.Store c.args.conn.now in
    let b = state g.S.Store c.inspect_rows.new.conn in
    inspects_told a b c.args.tables c.inspect_rows.result (Err Foreign) (answered _ _ c.in-Ok-Foreign.is) (c.inspect_rows.ensures.finds Fourth).reads.spares
    (λ v tables. inspected_foreign v a b (λ clean stands. subst (λ finding. Finds v finding a.now.trees) c.in-Ok-Foreign.field-0-is ((c.in-Ok-Foreign.ensures.finds v).reads.found clean stands tables)))

pub returns-in-Ok-Later-clause-inspects : goal.returns-in-Ok-Later-clause-inspects
returns-in-Ok-Later-clause-inspects g c =
    let a = state g.S.Store c.args.conn.now in
    let b = state g.S.Store c.inspect_rows.new.conn in
    inspects_told a b c.args.tables c.inspect_rows.result (Err Newer) (answered _ _ c.in-Ok-Later.is) (c.inspect_rows.ensures.finds Fourth).reads.spares
    (λ v tables. inspected_later v a b (λ clean stands. subst (λ finding. Finds v finding a.now.trees) c.in-Ok-Later.field-0-is ((c.in-Ok-Later.ensures.finds v).reads.found clean stands tables)))

pub returns-in-Err-clause-inspects : goal.returns-in-Err-clause-inspects
returns-in-Err-clause-inspects g c =
    let a = state g.S.Store c.args.conn.now in
    let b = state g.S.Store c.inspect_rows.new.conn in
    let d = state g.S.Store c.store_fault.new.conn in
    let spares = (c.inspect_rows.ensures.finds Fourth).reads.spares in
    record {
      inspected = λ v tables. inspected_err v a d c.store_fault.result c.store_fault.ensures.fresh;
      spared = spared_err a b c.inspect_rows.result d c.store_fault.result spares c.store_fault.ensures.fresh c.store_fault.ensures.memory c.store_fault.ensures.survives;
      clean = omega (arith, spares.survives.clean, c.store_fault.ensures.survives.clean);
    }

pub returns-in-Ok-Spool-clause-half : goal.returns-in-Ok-Spool-clause-half
returns-in-Ok-Spool-clause-half g c half = absurd (c.in-Ok-Spool.ensures.half half c.in-Ok-Spool.field-0-is)
