use Rattle.std.proofs.Common.{Ok}
use Rattle.sqlite.specs.Held.{state}
use Rattle.uu_schema.specs.Encoded.{HoldsAgain}
use Rattle.uu_schema.specs.Schema.{spool_schema}
use Rattle.uu_schema.specs.Earlier.{schema_of}
use Rattle.uu_rows.proofs.Showing.{answered}
use Rattle.uu_adopt.proofs.Adopting.{makes_after}
use Rattle.uu_adopt.proofs.Inspecting.{spared_told}
use Rattle.uu_adopt.proofs.adoption.migrate_tables.Goals as goal

pub returns-in-Ok-clause-makes : goal.returns-in-Ok-clause-makes
returns-in-Ok-clause-makes g c =
    let a = state g.S.Store c.args.conn.now in
    let b = state g.S.Store c.read_all_earlier.new.conn in
    let d = state g.S.Store c.write_anew.new.conn in
    let spares = c.read_all_earlier.ensures.reads.spares in
    makes_after a b d (schema_of c.args.from) spool_schema (HoldsAgain c.args.from) c.write_anew.result (spared_told a b c.read_all_earlier.result (Ok tt) (answered _ _ c.in-Ok.is) spares) spares.survives.clean c.write_anew.ensures.makes
