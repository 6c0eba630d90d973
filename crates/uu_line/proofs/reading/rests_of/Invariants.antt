use Rattle.std.proofs.Common.{◌≡◌, take, map}
use Rattle.uu_names.specs.Path.{rest_of}
use Rattle.uu_line.proofs.reading.rests_of.Given as goal

-- the words so far are those of the paths before this one
abbrev pub invariant-loop-path : goal.invariant-loop-path
invariant-loop-path l = l.rests.items ≡ map rest_of (take l.path-index l.paths)
