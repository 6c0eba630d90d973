use Rattle.std.proofs.Common.{rules, arith, ◌∙◌, ◌||◌, ◌<◌, ◌≤◌, ap, length}
use Rattle.std.proofs.lemmas.List.{take_all}
use Rattle.std.specs.List.{list_any}
use Rattle.uuspool.specs.Internal.Keys.{is_of_key}
use Rattle.uuspool.proofs.KeyLemmas.{keys_more}
use Rattle.uuspool.proofs.asking.keys_of.Goals as goal

pub loop-command-preserved : goal.loop-command-preserved
loop-command-preserved c = λ number mark.
    let commands = c.args.commands.now in
    let i = c.loop-command.command-index in
    let command = c.command-item.result in
    let inside : i < length commands = search rules in
    c.in_ok-add_key.ensures number mark
    ∙ ap (λ b. b || is_of_key number mark command) (c.loop-command.invariant number mark)
    ∙ keys_more number mark commands i command inside c.command-item.is

pub returns : goal.returns
returns c = λ number mark.
    let commands = c.args.commands.now in
    let past : length commands ≤ c.loop-command.command-index = omega (arith, c.loop-command-test.false) in
    c.loop-command.invariant number mark ∙ ap (list_any (is_of_key number mark)) (take_all c.loop-command.command-index commands past)
