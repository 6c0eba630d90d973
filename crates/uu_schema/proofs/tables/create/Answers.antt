use Rattle.std.proofs.Common.{◌≡◌, subst, rules}
use Rattle.uu_schema.specs.Statements.{Transacts}
use Rattle.uu_schema.specs.Schema.{no_schema, spool_schema}
use Rattle.uu_schema.specs.Held.{MakesEmpty}
use Rattle.uu_schema.proofs.Begun.{begins_empty}
use Rattle.uu_schema.proofs.Statements.{step_weaker, transacted, dropped}
use Rattle.uu_schema.proofs.tables.create.Goals as goal

pub returns : goal.returns
returns g c =
    let end = c.commit.new.self.0 in
    let same : end ≡ c.conn-2-1.given.0 = search rules in
    subst (λ h. Transacts g.S.Store no_schema spool_schema MakesEmpty c.args.conn.now h c.map_err.result) same
    (transacted c.args.conn.now c.transaction-tx.result.conn.now c.create_tables.new.tx.conn.now end c.transaction-tx.ensures.begun c.commit.ensures.ended (g.met.S.Store.settled end.store) c.commit.result c.map_err.result
    (step_weaker begins_empty c.in_ok-create_tables.ensures).outcome c.commit.ensures.survives c.commit.ensures.ok c.commit.ensures.err (search rules) (λ error early. search rules))

pub returns-in_err-create_tables : goal.returns-in_err-create_tables
returns-in_err-create_tables g c =
    let end = c.drop-tx.new.self.0 in
    let same : end ≡ c.conn-1.given.0 = search rules in
    subst (λ h. Transacts g.S.Store no_schema spool_schema MakesEmpty c.args.conn.now h c.from_residual.result) same
    (dropped c.args.conn.now c.transaction-tx.result.conn.now c.create_tables.new.tx.conn.now end c.transaction-tx.ensures.begun c.drop-tx.ensures.ended (g.met.S.Store.settled end.store) c.from_residual.result c.from_residual.ensures.0
    c.create_tables.ensures.outcome.kept c.create_tables.ensures.outcome.survives c.drop-tx.ensures.undone c.drop-tx.ensures.survives)
