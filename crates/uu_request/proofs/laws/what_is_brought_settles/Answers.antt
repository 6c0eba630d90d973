use Rattle.std.proofs.Common.{◌∙◌, ap, sym, subst}
use Rattle.uu_handover.specs.Bundles.{IsFront}
use Rattle.uu_bundle.specs.declared.bundle.Bundle.{Bundle}
use Rattle.uu_request.specs.declared.request.Settling.{Settling}
use Rattle.uu_request.proofs.CarriedLemmas.{settles}
use Rattle.uu_request.proofs.FrontLemmas.{IsFirst, first_read}
use Rattle.uu_request.proofs.laws.what_is_brought_settles.Goals as goal

pub returns : goal.returns
returns c = λ whole front cut settings at user system spool it is_whole is_front asks.
    let asked = settles settings.name front system spool it asks.0 asks.1 asks.2 in
    let read : Bundle = asked.0 in
    let first : IsFirst whole read = first_read c.cut_bundles_are_fronts.ensures.front c.written_bundles_are_read.ensures c.a_text_has_one_bundle.ensures whole read front cut is_whole is_front asked.1 in (
      sym (ap (λ heading. heading.from) first.heading) ∙ asked.2,
      sym (ap (λ heading. heading.to) first.heading) ∙ asked.3,
      ap (λ (s : Settling). s.system) asked.4,
      ap (λ (s : Settling). s.spool) asked.4,
      subst (λ has. IsFront has whole.has) (sym (ap (λ (s : Settling). s.has) asked.4)) (record { rest = first.told; is = first.has }),
      subst (λ refused. IsFront refused whole.refused) (sym (ap (λ (s : Settling). s.refused) asked.4)) (record { rest = first.more; is = first.refused }),
    )
