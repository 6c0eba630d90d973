use Rattle.std.proofs.Common.{arith, ◌≡◌, ◌++◌, ◌∷◌, [], ◌+◌, ◌∙◌, ◌<◌, take, length, sym, ap, add-one, append_assoc, codes}
use Rattle.std.proofs.Math.Seq.{take-suc}
use Rattle.std.specs.String.{string_bytes}
use Rattle.uu_report.specs.Reports.{spaced}
use Rattle.uu_report.proofs.ReportLemmas.{spaced-append}
use Rattle.uu_report.proofs.jobs.append_execution.Goals as goal

pub loop-argument-preserved : goal.loop-argument-preserved
loop-argument-preserved c =
    let inside : c.loop-argument.argument-index < length c.args.arguments.now = omega arith in
    let before = take c.loop-argument.argument-index c.args.arguments.now in
    let so_far = spaced (codes "exec" ∷ c.args.command.now ∷ before) in
    let start = string_bytes c.args.text.now in
    let more : take (c.loop-argument.argument-index + 1) c.args.arguments.now ≡ before ++ c.argument-item.result ∷ [] =
    rw add-one (take-suc c.args.arguments.now c.loop-argument.argument-index c.argument-item.result inside
    ∙ ap (λ argument. before ++ argument ∷ []) (sym c.argument-item.is)) in
    c.in_ok-push_str-2.ensures.bytes
    ∙ ap (λ t. t ++ c.as_str.result.now) c.in_ok-push_str.ensures.bytes
    ∙ append_assoc (string_bytes c.loop-argument.text) (32 ∷ []) c.as_str.result.now
    ∙ ap (λ t. t ++ 32 ∷ c.as_str.result.now) c.loop-argument.invariant
    ∙ append_assoc start so_far (32 ∷ c.as_str.result.now)
    ∙ ap (λ t. start ++ (so_far ++ 32 ∷ t)) c.as_str.ensures.text
    ∙ ap (λ t. start ++ t) (sym (spaced-append (codes "exec") (c.args.command.now ∷ before) c.argument-item.result)
    ∙ ap (λ arguments. spaced (codes "exec" ∷ c.args.command.now ∷ arguments)) (sym more))
