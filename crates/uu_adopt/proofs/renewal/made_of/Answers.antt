use Rattle.std.proofs.Common.{◌∙◌}
use Rattle.uu_names.proofs.Basics.{pairs_by_recursion}
use Rattle.uu_core.specs.State.{ComesBefore}
use Rattle.uu_core.specs.declared.system.SystemRow.{SystemRow}
use Rattle.uu_rows.proofs.InOrder.{ascending_pairs}
use Rattle.uu_adopt.specs.Assembly.{systems_from, bodies_from}
use Rattle.uu_adopt.proofs.Assembled.{assembled}
use Rattle.uu_adopt.proofs.Joined.{Lower, bodies_are}
use Rattle.uu_adopt.proofs.renewal.made_of.Goals as goal

pub returns : goal.returns
returns c s good are = (
  c.in_ok-systems.ensures ∙ (λ i. systems_from (are.systems i) (are.lines i) (are.ranges i) (are.success_waits i)) ∙ assembled s.systems (ascending_pairs (λ (a b : SystemRow). ComesBefore a.def.name b.def.name) s.systems good.by_name),
  c.in_ok-bodies.ensures ∙ (λ i. bodies_from (are.jobs i) (are.pieces i)) ∙ bodies_are s.jobs (pairs_by_recursion Lower s.jobs good.rising),
)
