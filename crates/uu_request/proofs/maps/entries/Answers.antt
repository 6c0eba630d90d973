use Rattle.std.proofs.Common.{◌∙◌, All, subst, sym}
use Rattle.uu_request.proofs.Places.{entries_within}
use Rattle.uu_request.specs.Requests.{IsPlace}
use Rattle.uu_request.proofs.maps.entries.Goals as goal

pub commands_at-requires : goal.commands_at-requires
commands_at-requires c = subst (All (IsPlace c.args.input.now)) (sym (c.deref.ensures.value ∙ c.in-Ok.ensures.entries)) (entries_within c.args.input.now)

pub subjects_at-requires : goal.subjects_at-requires
subjects_at-requires c = subst (All (IsPlace c.args.input.now)) (sym (c.deref-2.ensures.value ∙ c.in-Ok.ensures.entries)) (entries_within c.args.input.now)
