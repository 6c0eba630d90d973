use Rattle.std.proofs.Common.{◌≡◌, subst, rules}
use Rattle.uu_schema.specs.Schema.{spool_schema}
use Rattle.uu_schema.specs.Earlier.{schema_of}
use Rattle.uu_schema.specs.Statements.{Transacts}
use Rattle.uu_schema.proofs.Statements.{transacted, dropped}
use Rattle.uu_schema.specs.Encoded.{HoldsAgain}
use Rattle.uu_adopt.proofs.adoption.renew.Goals as goal

pub returns : goal.returns
returns g c =
    let end = c.commit.new.self.0 in
    let same : end ≡ c.conn-2-1.given.0 = search rules in
    subst (λ h. Transacts g.S.Store (schema_of c.args.from) spool_schema (HoldsAgain c.args.from) c.args.conn.now h c.map_err.result) same
    (transacted c.args.conn.now c.transaction-tx.result.conn.now c.write_rows.new.tx.conn.now end c.transaction-tx.ensures.begun c.commit.ensures.ended (g.met.S.Store.settled end.store) c.commit.result c.map_err.result
    c.in_ok-write_rows.ensures.outcome c.commit.ensures.survives c.commit.ensures.ok c.commit.ensures.err (search rules) (λ error early. search rules))

pub returns-in_err-write_rows : goal.returns-in_err-write_rows
returns-in_err-write_rows g c =
    let end = c.drop-tx.new.self.0 in
    let same : end ≡ c.conn-1.given.0 = search rules in
    subst (λ h. Transacts g.S.Store (schema_of c.args.from) spool_schema (HoldsAgain c.args.from) c.args.conn.now h c.from_residual.result) same
    (dropped c.args.conn.now c.transaction-tx.result.conn.now c.write_rows.new.tx.conn.now end c.transaction-tx.ensures.begun c.drop-tx.ensures.ended (g.met.S.Store.settled end.store) c.from_residual.result c.from_residual.ensures.0
    c.write_rows.ensures.outcome.kept c.write_rows.ensures.outcome.survives c.drop-tx.ensures.undone c.drop-tx.ensures.survives)
