use Rattle.std.proofs.Common.{◌≡◌, Ok, take, map}
use Rattle.uu_line.specs.Lines.{words_of}
use Rattle.uu_line.proofs.values.words_of.Given as goal

-- the words so far are those of the texts before this one
abbrev pub invariant-loop-text : goal.invariant-loop-text
invariant-loop-text l = words_of (take l.text-index (map (λ text. text.now) l.texts)) ≡ Ok l.words.items
