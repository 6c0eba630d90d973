use Rattle.std.proofs.Common.{◌≤◌, ◌∙◌, ◌∷◌, [], length, take, get_or, sym, ap, arith}
use Rattle.std.proofs.lemmas.List.{take_more, take_all}
use Rattle.uu_tables.specs.declared.change.Change.TheVariants.{RemoveJob}
use Rattle.uu_tables.specs.Changes.{apply, applied}
use Rattle.uu_tables.specs.Parts.{without_jobs}
use Rattle.uu_tables.proofs.PlanLemmas.{applied_append}
use Rattle.uu_tables.proofs.ReportLemmas.{one_job_more, no_job_less}
use Rattle.uu_tables.proofs.plan.report.remove_jobs.Goals as goal

pub loop-number-init : goal.loop-number-init
loop-number-init c t = no_job_less (applied c.args.changes.now.items t)

pub loop-number-preserved : goal.loop-number-preserved
loop-number-preserved c t =
    let numbers = c.args.numbers.now in
    let i = c.loop-number.number-index in
    let number = get_or numbers i 0 in
    let old = applied c.args.changes.now.items t in
    ap (λ l. applied l t) c.in_ok-push.ensures.items ∙ applied_append c.loop-number.changes.items (RemoveJob number ∷ []) t ∙ ap (apply (RemoveJob number)) (c.loop-number.invariant t)
    ∙ one_job_more (take i numbers) number old ∙ ap (λ some. without_jobs some old) (sym (take_more numbers i 0 (omega arith)))

pub returns : goal.returns
returns c t =
    let numbers = c.args.numbers.now in
    let past : length numbers ≤ c.loop-number.number-index = omega arith in
    c.loop-number.invariant t ∙ ap (λ some. without_jobs some (applied c.args.changes.now.items t)) (take_all c.loop-number.number-index numbers past)
