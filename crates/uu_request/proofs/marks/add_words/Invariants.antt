use Rattle.std.proofs.Common.{ℕ, List, ◌++◌, take}
use Rattle.sha2.specs.Hashers.{Holds256}
use Rattle.uu_request.specs.Marks.{spaced_words}
use Rattle.uu_request.proofs.marks.add_words.Given as goal

-- added so far are the words before this one
abbrev pub invariant-loop-word : goal.invariant-loop-word
invariant-loop-word l = (text : List ℕ) → Holds256 l.initial.hasher text → Holds256 l.hasher (text ++ spaced_words (take l.word-index l.words))
