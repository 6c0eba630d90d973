use Rattle.uu_times.specs.Grammar.{lower}
use Rattle.uu_times.proofs.GrammarFronts.{unread_longest, spelled-minutes}
use Rattle.uu_times.proofs.GrammarLemmas.{lists_read}
use Rattle.uu_times.proofs.GrammarReads.{reads_lists}
use Rattle.uu_times.proofs.laws.lists_are_what_is_written.Goals as goal

pub returns : goal.returns
returns c = record {
  written = λ text spellings spells. lists_read (lower text) spellings spells;
  read = λ text simples same. let found = reads_lists (lower text) simples same in (found.spellings, found.spells, found.are);
  minutes = spelled-minutes;
  unread = unread_longest;
}
