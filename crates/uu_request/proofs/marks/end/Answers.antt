use Rattle.std.proofs.Common.{◌∙◌, ◌∷◌, [], ap, append_assoc}
use Rattle.uu_bundle.specs.Marks.{mark_of}
use Rattle.uu_request.proofs.marks.end.Goals as goal

pub returns : goal.returns
returns c = λ text holds.
    c.held_mark.ensures _ (c.update-2.ensures _ (c.update.ensures text holds))
    ∙ ap mark_of (append_assoc text (10 ∷ []) c.args.input.now)
