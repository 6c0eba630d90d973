use Rattle.std.proofs.Common.{◌≡◌, take}
use Rattle.uu_bundle.specs.Bundles.{text_with_told}
use Rattle.uu_bundle.proofs.writing.append_all_told.Given as goal

-- added so far are those before this one
abbrev pub invariant-loop-taken : goal.invariant-loop-taken
invariant-loop-taken l = l.text.items ≡ text_with_told l.initial.text.items (take l.taken-index l.has)
