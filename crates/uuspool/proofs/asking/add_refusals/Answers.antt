use Rattle.std.proofs.Common.{rules, arith, ◌≡◌, ◌∙◌, ◌+◌, ◌<◌, ◌≤◌, ap, length, take}
use Rattle.std.specs.Prelude.{⊤}
use Rattle.std.proofs.lemmas.List.{take_all}
use Rattle.uu_bundle.specs.Bundles.{text_with_refused}
use Rattle.uu_core.specs.Verdict.{verdict}
use Rattle.uuspool.specs.Bundles.{refused_among, refused_for}
use Rattle.uuspool.proofs.AskedLemmas.{asked_as, asked_goes_on, asked_nothing, asked_then}
use Rattle.uuspool.proofs.KeyLemmas.{no_commands, none_refused, refusals_more}
use Rattle.uuspool.proofs.asking.add_refusals.Goals as goal

pub loop-command-init : goal.loop-command-init
loop-command-init g c =
    let text = c.args.text.now.items in
    asked_nothing (λ s. ⊤) (λ s. text ≡ text_with_refused text (refused_among (take 0 c.args.commands.now) s)) c.args.spool.now
    (c.lines_are_one_run.ensures.none c.args.spool.now) c.requires
    (λ s shown known. none_refused text ∙ ap (λ l. text_with_refused text (refused_among l s)) (no_commands c.args.commands.now))

pub loop-command-preserved : goal.loop-command-preserved
loop-command-preserved g c =
    let start = c.args.text.now.items in
    let commands = c.args.commands.now in
    let i = c.loop-command.command-index in
    let command = c.command-item.result in
    let inside : i < length commands = search rules in
    let before = c.loop-command.text.items in
    let after = c.add_if_refused.new.text.items in
    asked_as (λ s. ⊤) (λ s done. (before ≡ text_with_refused start (refused_among (take i commands) s)) × (after ≡ text_with_refused before (refused_for command (verdict s command)))) c.args.spool.now c.add_if_refused.new.spool
    (λ s done. after ≡ text_with_refused start (refused_among (take (i + 1) commands) s)) _ tt
    (λ s shown known was.
    was.1 ∙ ap (λ t. text_with_refused t (refused_for command (verdict s command))) was.0
    ∙ refusals_more s start commands i command inside c.command-item.is)
    (asked_then (λ s. ⊤) (λ s done. before ≡ text_with_refused start (refused_among (take i commands) s)) c.args.spool.now c.loop-command.spool c.add_if_refused.new.spool tt c.loop-command.invariant
    (λ s. ⊤) (λ s done. after ≡ text_with_refused before (refused_for command (verdict s command))) _ (λ s shown known is. tt) c.in_ok-add_if_refused.ensures)

pub returns-in_err-add_if_refused : goal.returns-in_err-add_if_refused
returns-in_err-add_if_refused g c =
    let start = c.args.text.now.items in
    let commands = c.args.commands.now in
    let i = c.loop-command.command-index in
    let command = c.command-item.result in
    let before = c.loop-command.text.items in
    let after = c.add_if_refused.new.text.items in
    asked_goes_on (λ s. ⊤) (λ s done. (before ≡ text_with_refused start (refused_among (take i commands) s)) × (after ≡ text_with_refused before (refused_for command (verdict s command)))) _ c.args.spool.now c.add_if_refused.new.spool
    c.from_residual.result c.in_err-add_if_refused.field-0.0 c.from_residual.ensures.1
    (asked_then (λ s. ⊤) (λ s done. before ≡ text_with_refused start (refused_among (take i commands) s)) c.args.spool.now c.loop-command.spool c.add_if_refused.new.spool tt c.loop-command.invariant
    (λ s. ⊤) (λ s done. after ≡ text_with_refused before (refused_for command (verdict s command))) _ (λ s shown known is. tt) c.in_err-add_if_refused.ensures)

pub returns : goal.returns
returns g c =
    let start = c.args.text.now.items in
    let commands = c.args.commands.now in
    let i = c.loop-command.command-index in
    let past : length commands ≤ i = omega (arith, c.loop-command-test.false) in
    asked_as (λ s. ⊤) (λ s done. c.loop-command.text.items ≡ text_with_refused start (refused_among (take i commands) s)) c.args.spool.now c.loop-command.spool
    (λ s done. c.loop-command.text.items ≡ text_with_refused start (refused_among commands s)) tt tt
    (λ s shown known is. is ∙ ap (λ l. text_with_refused start (refused_among l s)) (take_all i commands past))
    c.loop-command.invariant
