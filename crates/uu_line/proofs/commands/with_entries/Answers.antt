use Rattle.std.proofs.Common.{◌∙◌, ◌<◌, ap, length, add-one, arith}
use Rattle.std.proofs.Math.Bool.{or-false}
use Rattle.clap.specs.Words.{app_of, with_rule}
use Rattle.uu_line.specs.Internal.Tables.{with_rules}
use Rattle.uu_line.proofs.TableLemmas.{rules_done, rules_next}
use Rattle.uu_line.proofs.commands.with_entries.Goals as goal

pub loop-entry-preserved : goal.loop-entry-preserved
loop-entry-preserved c =
    let inside : c.loop-entry.entry-index < length c.args.entries.now = omega arith in record {
      app = rw add-one (rules_next _ _ _ c.args.entries.now c.loop-entry.entry-index _ inside c.loop-entry.invariant.app
          (c.in_ok-command.ensures.shape c.argument_of.ensures.local ∙ ap (with_rule (app_of c.loop-entry.command)) c.argument_of.ensures.rule));
      local = c.in_ok-command.ensures.globals ∙ rw c.argument_of.ensures.local (or-false _) ∙ c.loop-entry.invariant.local;
    }

pub returns-clause-app : goal.returns-clause-app
returns-clause-app c = λ whole is.
    rules_done _ _ c.args.entries.now c.loop-entry.entry-index (omega arith) c.loop-entry.invariant.app
    ∙ ap (λ app. with_rules app c.args.entries.now) is
