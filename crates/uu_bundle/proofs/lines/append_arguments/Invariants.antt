use Rattle.std.proofs.Common.{◌≡◌, ◌++◌, take}
use Rattle.uu_bundle.specs.Texts.{spaced_words}
use Rattle.uu_bundle.proofs.lines.append_arguments.Given as goal

-- added so far are the words before this one
abbrev pub invariant-loop-word : goal.invariant-loop-word
invariant-loop-word l = l.text.items ≡ l.initial.text.items ++ spaced_words (take l.word-index l.words)
