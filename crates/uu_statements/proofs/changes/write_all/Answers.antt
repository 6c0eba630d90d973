use Rattle.std.proofs.Common.{◌+◌, ◌++◌, ◌∷◌, [], take, sym, subst, ap, ◌∙◌, ◌≡◌, arith}
use Rattle.std.proofs.lemmas.List.{take_more}
use Rattle.uu_schema.proofs.Statements.{step_then, step_done, step_refused}
use Rattle.uu_statements.specs.Makes.{MakesAll}
use Rattle.uu_statements.proofs.Loop.{one_more}
use Rattle.uu_statements.proofs.changes.write_all.Goals as goal

pub loop-change-preserved : goal.loop-change-preserved
loop-change-preserved g c =
    let all = c.args.changes.now in
    let i = c.loop-change.change-index in
    let it = c.change-item.result in
    let longer : take (i + 1) all ≡ take i all ++ it ∷ [] = take_more all i it (omega arith) ∙ ap (λ x. take i all ++ x ∷ []) (sym c.change-item.is) in
    step_done (λ x y both. subst (λ l. MakesAll l x y) (sym longer) (one_more (take i all) it x both.mid y both.first both.second)) (step_then c.loop-change.invariant c.in_ok-write.ensures)

pub returns-in_err-write : goal.returns-in_err-write
returns-in_err-write g c = step_refused c.from_residual.result c.from_residual.ensures.0 (step_then c.loop-change.invariant c.in_err-write.ensures)
