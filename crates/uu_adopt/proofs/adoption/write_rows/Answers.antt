use Rattle.std.proofs.Common.{◌∙◌, refl, ap, subst}
use Rattle.sqlite.specs.Held.{state}
use Rattle.uu_core.specs.State.{empty}
use Rattle.uu_tables.specs.Tables.{tables_of}
use Rattle.uu_tables.specs.Changes.{applied}
use Rattle.uu_schema.specs.Held.{Holds}
use Rattle.uu_schema.specs.Earlier.{schema_of}
use Rattle.uu_schema.specs.Schema.{spool_schema}
use Rattle.uu_schema.specs.Encoded.{HoldsAgain}
use Rattle.uu_statements.specs.Makes.{MakesAnew}
use Rattle.uu_rows.proofs.Told.{told_ok}
use Rattle.uu_adopt.proofs.EarlierVerdict.{rows_of_state}
use Rattle.uu_adopt.proofs.Becoming.{outcome_again, nothing_done}
use Rattle.uu_adopt.proofs.adoption.write_rows.Goals as goal

pub returns-in_default : goal.returns-in_default
returns-in_default g c = nothing_done refl

pub returns-in_err-made : goal.returns-in_err-made
returns-in_err-made g c = nothing_done c.from_residual.ensures.0

pub returns-in_err-changes : goal.returns-in_err-changes
returns-in_err-changes g c = nothing_done c.from_residual-in_err-changes.ensures.0

pub returns : goal.returns
returns g c =
    let v = c.args.from in
    let old = state g.S.Store c.args.tx.now.conn.now in
    record {
      same_reference = c.rewrite.ensures.same_reference;
      outcome = outcome_again {from = schema_of v} {to = spool_schema} {Step = MakesAnew c.deref-3.result.now} {Wanted = HoldsAgain v} old (state g.S.Store c.rewrite.new.tx.conn.now) c.rewrite.result
          (λ clean stands trees written s holds.
          let are = rows_of_state v c.requires.earlier old.now.trees c.args.all.now (c.requires.found clean stands) c.in-Some.rows c.in-Some.ensures.rows s holds in
          let made = rw c.in_ok-made.was at (told_ok c.made_of.result c.or_error.result c.or_error.ensures _ (c.made_of.ensures s holds.good are)) in
          let given = rw c.in_ok-changes.was at (told_ok c.changes_of.result c.or_error-2.result c.or_error-2.ensures _ c.changes_of.ensures) in
          let same = ap (λ l. applied l (tables_of empty)) c.deref-3.ensures.value ∙ given s holds.good (record { next = are.next; systems = c.deref.ensures.value ∙ made.0; jobs = are.jobs; bodies = c.deref-2.ensures.value ∙ made.1; entries = are.entries; links = are.links; taken = are.taken }) in
          record { tables = subst (Holds trees) same written; good = holds.good })
          c.rewrite.ensures.outcome;
    }
