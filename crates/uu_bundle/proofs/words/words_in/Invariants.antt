use Rattle.std.proofs.Common.{◌≡◌, map, take, IsTrue, All}
use Rattle.uu_names.specs.Name.{is_word}
use Rattle.uu_bundle.proofs.words.words_in.Given as goal

-- the texts so far are words
abbrev pub invariant-loop-text : goal.invariant-loop-text
invariant-loop-text l = record { read : map (λ text. text.now) (take l.text-index l.texts) ≡ l.words.items; are : All (λ word. IsTrue (is_word word)) l.words.items }
