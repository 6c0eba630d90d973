-- `clap` says exactly what it finds for the program's command, whose lines have their required
-- entries.
use Rattle.std.proofs.Common.{◌≡◌, List, [], true, refl}
use Rattle.std.specs.List.{list_all}
use Rattle.clap.specs.Words.{Text, fault_of, is_simple, is_simple_and_free, matches_of, subcommand_of}
use Rattle.clap.specs.Simple.{argument_words, built}
use Rattle.clap.proofs.OnLiterals.{clap_on_literals}
use Rattle.uu_line.specs.Commands.{program}
use Rattle.uu_line.specs.Internal.Entries.{AreLineEntries}
use Rattle.uu_line.proofs.EntryLemmas.{all_taken, passes_below, passes_on_top}

pub program_is_simple : is_simple program ≡ true
unfolding clap_on_literals
program_is_simple = refl

pub program_is_free : is_simple_and_free program ≡ true
unfolding clap_on_literals
program_is_free = refl

program_passes_below : list_all passes_below (built program).subs ≡ true
unfolding clap_on_literals
program_passes_below = refl

program_passes_on_top : passes_on_top (built program).top ≡ true
unfolding clap_on_literals
program_passes_on_top = refl

pub program_takes : (words : List Text) → fault_of program words ≡ [] → AreLineEntries (matches_of program words) (subcommand_of program words)
program_takes words e = all_taken (built program) program_passes_below program_passes_on_top (argument_words program words) e
