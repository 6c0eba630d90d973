use Rattle.std.proofs.Common.{◌≡◌, IsTrue, All, map, take}
use Rattle.uu_names.specs.Name.{is_word}
use Rattle.uu_rows.proofs.values.words_of.Given as goal

abbrev pub invariant-loop-part : goal.invariant-loop-part
invariant-loop-part l = (l.words.items ≡ map (λ part. part.now) (take l.part-index l.part-items)) × All (λ word. IsTrue (is_word word)) l.words.items
