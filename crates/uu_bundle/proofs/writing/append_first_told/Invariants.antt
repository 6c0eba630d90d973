use Rattle.std.proofs.Common.{◌≡◌, drop}
use Rattle.uu_bundle.specs.Bundles.{half, most_bundle, told_with_room, text_with_told}
use Rattle.uu_bundle.proofs.writing.append_first_told.Given as goal

-- with those that still go in, the text is what it has to become
abbrev pub invariant-loop-taken : goal.invariant-loop-taken
invariant-loop-taken l =
    text_with_told l.text.items (told_with_room l.room (half l.fn.most) l.text.items (drop l.taken-index l.has))
    ≡ text_with_told l.initial.text.items (told_with_room (half most_bundle) (half l.fn.most) l.initial.text.items l.has)
