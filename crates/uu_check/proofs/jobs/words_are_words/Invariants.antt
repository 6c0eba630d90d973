use Rattle.std.proofs.Common.{◌≡◌, true, take}
use Rattle.std.specs.List.{list_all}
use Rattle.uu_names.specs.Name.{is_word}
use Rattle.uu_check.proofs.jobs.words_are_words.Given as goal

abbrev pub invariant-loop-word : goal.invariant-loop-word
invariant-loop-word l = list_all is_word (take l.word-index l.words) ≡ true
