use Rattle.std.proofs.Common.{◌≡◌, false, List}
use Rattle.sqlite.specs.Order.{Row}
use Rattle.sqlite.specs.State.{HasCleanDisk, IsUnchanged, Survives}
use Rattle.sqlite.specs.Held.{state}
use Rattle.sqlite.specs.Values.{bound}
use Rattle.sqlite.specs.Given.{HasGiven}
use Rattle.uu_schema.specs.Steps.{Stands, Ready}
use Rattle.uu_schema.specs.Schema.{spool_schema}
use Rattle.uu_questions.specs.Walks.{Took}
use Rattle.uu_questions.proofs.walk.walk_rows.Given as goal

abbrev pub invariant-rows : goal.invariant-rows
invariant-rows g l =
    let old = state g.S.Store l.fn.conn in
    let now = state g.S.Store l.rows.conn.now in
    (l.rows.conn.ghost_name ≡ l.initial.rows.conn.ghost_name)
    × (l.fn.conn.in_transaction ≡ false → l.rows.conn.now.in_transaction ≡ false)
    × Survives old now (λ _. ¬ Ready spool_schema old)
    × (HasCleanDisk now → Stands spool_schema old.now → (given : List Row) × HasGiven g.S.Store l.sql (bound l.params) l.rows.conn.now given × IsUnchanged old now × Took g.T.RowTaker.takes l.fn.taker given l.taker)
