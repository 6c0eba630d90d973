use Rattle.std.proofs.Common.{rules}
use Rattle.sqlite.specs.Held.{state}
use Rattle.uu_schema.specs.declared.version.Version.TheVariants.{First, Second, Third}
use Rattle.uu_adopt.proofs.Adopting.{adopts_migrated, adopts_current, adopts_refused, fourth_is_current, none_is_current}
use Rattle.uu_adopt.proofs.adoption.adopt_spool.Goals as goal

pub returns-in-Some-First-clause-adopts : goal.returns-in-Some-First-clause-adopts
returns-in-Some-First-clause-adopts g c =
    adopts_migrated c.args.tables First (state g.S.Store c.args.conn.now) (state g.S.Store c.inspect.new.conn) (state g.S.Store c.migrate_tables.new.conn) c.migrate_tables.result
    tt (search rules) (rw c.in-Ok.is at c.inspect.ensures.inspects) c.migrate_tables.ensures.fresh c.migrate_tables.ensures.makes c.migrate_tables.ensures.spared

pub returns-in-Some-Second-clause-adopts : goal.returns-in-Some-Second-clause-adopts
returns-in-Some-Second-clause-adopts g c =
    adopts_migrated c.args.tables Second (state g.S.Store c.args.conn.now) (state g.S.Store c.inspect.new.conn) (state g.S.Store c.migrate_tables-in-Some-Second.new.conn) c.migrate_tables-in-Some-Second.result
    tt (search rules) (rw c.in-Ok.is at c.inspect.ensures.inspects) c.migrate_tables-in-Some-Second.ensures.fresh c.migrate_tables-in-Some-Second.ensures.makes c.migrate_tables-in-Some-Second.ensures.spared

pub returns-in-Some-Third-clause-adopts : goal.returns-in-Some-Third-clause-adopts
returns-in-Some-Third-clause-adopts g c =
    adopts_migrated c.args.tables Third (state g.S.Store c.args.conn.now) (state g.S.Store c.inspect.new.conn) (state g.S.Store c.migrate_tables-in-Some-Third.new.conn) c.migrate_tables-in-Some-Third.result
    tt (search rules) (rw c.in-Ok.is at c.inspect.ensures.inspects) c.migrate_tables-in-Some-Third.ensures.fresh c.migrate_tables-in-Some-Third.ensures.makes c.migrate_tables-in-Some-Third.ensures.spared

pub returns-in-Err-clause-adopts : goal.returns-in-Err-clause-adopts
returns-in-Err-clause-adopts g c = adopts_refused c.args.tables (state g.S.Store c.args.conn.now) (state g.S.Store c.inspect.new.conn) c.in-Err.fault (rw c.in-Err.is at c.inspect.ensures.inspects)

pub returns-in-Some-Fourth-clause-adopts : goal.returns-in-Some-Fourth-clause-adopts
returns-in-Some-Fourth-clause-adopts g c =
    adopts_current c.args.tables (state g.S.Store c.args.conn.now) (state g.S.Store c.inspect.new.conn) (fourth_is_current c.args.tables (search rules)) (rw c.in-Ok.is at c.inspect.ensures.inspects)

pub returns-in-None-clause-adopts : goal.returns-in-None-clause-adopts
returns-in-None-clause-adopts g c =
    adopts_current c.args.tables (state g.S.Store c.args.conn.now) (state g.S.Store c.inspect.new.conn) (none_is_current c.args.tables c.in-None.is) (rw c.in-Ok.is at c.inspect.ensures.inspects)

pub returns-in-Some-Fourth-clause-half : goal.returns-in-Some-Fourth-clause-half
returns-in-Some-Fourth-clause-half g c none = rw c.in-Ok.is at (c.inspect.ensures.half none)

pub returns-in-None-clause-half : goal.returns-in-None-clause-half
returns-in-None-clause-half g c none = rw c.in-Ok.is at (c.inspect.ensures.half none)
