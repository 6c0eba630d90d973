use Rattle.std.proofs.Common.{◌≡◌, Ok, take, map}
use Rattle.uu_line.specs.Lines.{sites_of}
use Rattle.uu_line.proofs.values.sites_of.Given as goal

-- the sites so far are those of the texts before this one
abbrev pub invariant-loop-text : goal.invariant-loop-text
invariant-loop-text l = sites_of (take l.text-index (map (λ text. text.now) l.texts)) ≡ Ok l.sites.items
