use Rattle.std.proofs.Common.{subst, sym}
use Rattle.clap.specs.Words.{found_of, rows_of, subcommand_rows_of}
use Rattle.clap.specs.declared.parser.matches.ArgMatches.TheViews.{out-ArgMatches}
use Rattle.uu_line.specs.Internal.Entries.{HasSubcommand}
use Rattle.uu_line.specs.Lines.{MeansEntered, UnlessMemory}
use Rattle.uu_line.proofs.LineLemmas.{entered_is, no_subcommand}
use Rattle.uu_line.proofs.line.entered_in.Goals as goal

pub task_in-requires : goal.task_in-requires
task_in-requires c =
    subst HasSubcommand
    (entered_is (out-ArgMatches c.args.given.now).subcommand c.in-Some.name.now (rows_of (found_of c.in-Some.given.now)) (sym c.in-Some.ensures.name) (sym c.in-Some.ensures.rows))
    c.requires

pub unreachable-requires : goal.unreachable-requires
unreachable-requires c = no_subcommand (subcommand_rows_of c.args.given.now) c.in-None.ensures.rows c.requires

pub returns : goal.returns
returns c =
    subst (λ entered. UnlessMemory (MeansEntered entered) c.task_in.result)
    (sym (entered_is (out-ArgMatches c.args.given.now).subcommand c.in-Some.name.now (rows_of (found_of c.in-Some.given.now)) (sym c.in-Some.ensures.name) (sym c.in-Some.ensures.rows)))
    c.task_in.ensures
