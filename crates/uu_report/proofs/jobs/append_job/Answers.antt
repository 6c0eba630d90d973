use Rattle.std.proofs.Common.{◌≡◌, ◌++◌, ◌∷◌, [], ◌∙◌, ap, refl}
use Rattle.std.specs.Fmt.{decimal}
use Rattle.std.specs.String.{string_bytes}
use Rattle.uu_report.specs.Reports.{grade_text, work_text, job_text}
use Rattle.uu_report.proofs.ReportLemmas.{line_grows}
use Rattle.uu_report.proofs.jobs.append_job.Goals as goal

pub returns : goal.returns
returns c =
    let told = c.in_ok-moment.ensures in
    let moment = string_bytes c.in_ok-moment.moment in
    let job = c.args.job.now in
    let start = string_bytes c.args.text.now in
    let written : string_bytes c.write.new.self ≡ start ++ (decimal job.number ++ 32 ∷ (job.system ++ 32 ∷ (job.user ++ 32 ∷ (grade_text job.grade ++ 32 ∷ (moment ++ 32 ∷ (decimal job.size ++ 32 ∷ [])))))) =
    c.in_ok-write.ensures.bytes ∙ ap (λ t. start ++ t) (simp (c.as_str-system.ensures.text, c.as_str-user.ensures.text, c.letter-grade.ensures) refl) in (
      job_text moment job,
      (moment, told, refl),
      c.in_ok-push_str.ensures.bytes
          ∙ ap (λ t. t ++ 10 ∷ []) (c.in_ok-append_work.ensures ∙ ap (λ t. t ++ work_text job.kind) written)
          ∙ line_grows start (decimal job.number) job.system job.user (grade_text job.grade) moment (decimal job.size) (work_text job.kind),
    )
