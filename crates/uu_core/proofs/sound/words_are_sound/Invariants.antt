use Rattle.std.proofs.Common.{All, IsTrue, take}
use Rattle.uu_names.specs.Name.{is_word}
use Rattle.uu_core.proofs.sound.words_are_sound.Given as goal

abbrev pub invariant-loop-word : goal.invariant-loop-word
invariant-loop-word l = All (λ word. IsTrue (is_word word)) (take l.word-index l.words)
