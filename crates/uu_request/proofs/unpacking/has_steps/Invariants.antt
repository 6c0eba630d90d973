use Rattle.std.proofs.Common.{◌≡◌, length}
use Rattle.std.specs.List.{slice_split}
use Rattle.uu_names.specs.Path.{is_bang}
use Rattle.uu_request.specs.Unpacking.{are_steps}
use denote.Shadow.{shadow}
use denote.Text.{Utf8}
use Rattle.uu_request.proofs.unpacking.has_steps.Given as goal

-- what is left decides
abbrev pub invariant-loop-site : goal.invariant-loop-site
invariant-loop-site l = record {
  steps : are_steps (slice_split is_bang l.text) ≡ are_steps (slice_split is_bang l.left);
  text : shadow (Utf8 l.left);
}

abbrev pub decreases-loop-site : goal.decreases-loop-site
decreases-loop-site l = length l.left
