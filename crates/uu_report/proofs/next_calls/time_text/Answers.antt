use Rattle.std.proofs.Common.{IfOk, subst, sym}
use Rattle.std.specs.String.{string_bytes}
use Rattle.uu_report.specs.Reports.{IsTimeText}
use Rattle.uu_report.proofs.next_calls.time_text.Goals as goal

pub returns-in-Some : goal.returns-in-Some
returns-in-Some c =
    subst (λ second. IfOk c.coming_text.result (λ text. IsTimeText c.args.zone.now c.args.now second (string_bytes text))) (sym c.in-Some.is) c.coming_text.ensures
