use Rattle.sqlite.specs.Held.{state}
use Rattle.uu_questions.specs.declared.taken.TakenWalk.{TakenWalk}
use Rattle.uu_questions.proofs.Meanings.{taken_from_means}
use Rattle.uu_rows.proofs.Showing.{answered}
use Rattle.uu_questions.proofs.Asking.{asks_walked}
use Rattle.uu_questions.proofs.TakenRows.{taken_listed}
use Rattle.uu_questions.proofs.taken.taken_from.Goals as goal

pub walk_rows-requires : goal.walk_rows-requires
walk_rows-requires g c = taken_from_means.plain

pub returns : goal.returns
returns g c =
    let a = state g.S.Store c.args.conn.now in
    let b = state g.S.Store c.walk_rows.new.conn in
    asks_walked (rw (c.params-to_sql.ensures, c.as_str.ensures.text) at c.walk_rows.ensures) (λ ok. answered _ _ c.in_ok-walk_rows.was)
    (λ s of rows shown took. taken_listed (λ (w : TakenWalk). w.taken.items) a b s c.args.name.now rows _ c.walk_rows.new.taker of shown c.new.ensures.items took)
