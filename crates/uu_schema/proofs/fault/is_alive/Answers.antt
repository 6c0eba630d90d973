use Rattle.std.proofs.Common.{[], subst, sym, ◌∙◌}
use Rattle.sqlite.specs.Held.{state}
use Rattle.sqlite.specs.State.{IsNotRun}
use Rattle.uu_schema.proofs.Alive.{refused_by_name}
use Rattle.uu_schema.proofs.fault.is_alive.Goals.{in-Err-SqlInputError, in_default, in_default-2}
use Rattle.uu_schema.proofs.fault.is_alive.Goals as goal

pub returns-clause-alive : goal.returns-clause-alive
returns-clause-alive g c clean alive =
    elim c.match-matches.branch [
      | in-Err-SqlInputError w ↦
          let e = w.in-Err-SqlInputError in
          let same = refused_by_name (state g.S.Store c.args.conn.now) (state g.S.Store c.prepare.new.self) _ [] e.field-0-0
          (subst (λ x. IsNotRun (state g.S.Store c.args.conn.now) (state g.S.Store c.prepare.new.self) _ [] x) e.field-0-is (e.ensures.err clean [])) in
          (same.0.was_open, same)
      | in_default w ↦ let no = sym alive ∙ w.matches-is in absurd (cc)
      | in_default-2 w ↦ let no = sym alive ∙ w.matches-is in absurd (cc)
    ]
