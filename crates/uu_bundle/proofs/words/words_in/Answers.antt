use Rattle.std.proofs.Common.{arith, []}
use Rattle.uu_bundle.proofs.Numbers.{no_words}
use Rattle.uu_bundle.proofs.words.words_in.Goals as goal

pub returns-in_default : goal.returns-in_default
returns-in_default c = λ words all is.
    no_words c.args.texts.now c.loop-text.text-index (record { ref_ptr = (0, 0); now = [] }) c.in_ok-word.field-0 words (omega arith) c.in_ok-word.ensures c.in_default.is all is
