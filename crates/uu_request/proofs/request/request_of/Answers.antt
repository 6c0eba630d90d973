use Rattle.std.proofs.Common.{◌∙◌, ◌≤◌, IsTrue, arith, length, subst, sym}
use Rattle.std.proofs.lemmas.Bool.{false≢true}
use Rattle.uu_request.proofs.request.request_of.Goals as goal
use Rattle.uu_request.proofs.request.request_of.Goals.{else-has_input-via-then-has_input+else-len-gt-MAX_TEXT, else-has_input-via-else-has_input}

pub task_request-requires-clause-fits : goal.task_request-requires-clause-fits
task_request-requires-clause-fits c = elim c.else-has_input.branch [
  | else-has_input-via-then-has_input+else-len-gt-MAX_TEXT w ↦
      λ takes. (let fits : length c.args.input.items ≤ 4194304 = omega (arith, w.len.ensures, w.if-len-gt-MAX_TEXT.false, c.args.input.ok.0) in fits)
  | else-has_input-via-else-has_input w ↦ λ takes. absurd (false≢true (subst IsTrue (sym c.has_input.ensures ∙ w.if-has_input.false) takes))
]
