use Rattle.std.proofs.Common.{ap, refl, subst}
use Rattle.clap.specs.Words.{found_of, rows_of}
use Rattle.uu_line.specs.Lines.{AnswersUnlessMemory, MeansRoute, has_flag, route_task}
use Rattle.std.specs.Prelude.{codes}
use Rattle.uu_line.proofs.LineLemmas.{meaning}
use Rattle.uu_line.proofs.entered.route_in.Goals as goal

pub returns : goal.returns
returns c =
    let rows = rows_of (found_of c.args.given.now) in
    let host = c.text_in-host.result.now in
    meaning (MeansRoute rows) c.route_task.result (route_task host (has_flag (codes "cost") rows))
    (host, c.text_in-host.ensures, refl)
    (subst (AnswersUnlessMemory c.route_task.result) (ap (route_task host) c.has_flag-costs.ensures) c.route_task.ensures)
