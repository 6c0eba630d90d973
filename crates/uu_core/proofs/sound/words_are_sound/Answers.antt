use Rattle.std.proofs.Common.{ℕ, List, IsTrue, arith}
use Rattle.uu_names.specs.Name.{is_word}
use Rattle.uu_names.proofs.Basics.{all_from_take, all_more}
use Rattle.uu_core.proofs.sound.words_are_sound.Goals as goal

pub loop-word-preserved : goal.loop-word-preserved
loop-word-preserved c =
    all_more (λ (word : List ℕ). IsTrue (is_word word)) c.args.words.now c.loop-word.word-index c.word-item.result c.loop-word-test.true c.word-item.is c.loop-word.invariant c.word_is_sound.ensures

pub returns : goal.returns
returns c = all_from_take (λ (word : List ℕ). IsTrue (is_word word)) c.args.words.now c.loop-word.word-index (omega arith) c.loop-word.invariant
