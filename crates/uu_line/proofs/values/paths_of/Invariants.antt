use Rattle.std.proofs.Common.{◌≡◌, take, map}
use Rattle.std.specs.Prelude.{All}
use Rattle.uu_names.specs.Path.{IsPathText}
use Rattle.uu_line.proofs.values.paths_of.Given as goal

-- the paths so far are the texts before this one
abbrev pub invariant-loop-text : goal.invariant-loop-text
invariant-loop-text l =
    (l.paths.items ≡ take l.text-index (map (λ text. text.now) l.texts))
    × All IsPathText (take l.text-index (map (λ text. text.now) l.texts))
