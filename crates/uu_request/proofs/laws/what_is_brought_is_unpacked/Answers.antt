use Rattle.std.proofs.Common.{◌≡◌, ◌∙◌, ap, sym, subst}
use Rattle.uu_core.specs.TakeIns.{commands_in}
use Rattle.uu_bundle.specs.declared.bundle.Bundle.{Bundle}
use Rattle.uu_request.specs.Carried.{AreUnpacked, bundle_crossing, said_of}
use Rattle.uu_request.proofs.FrontLemmas.{IsFirst, first_read}
use Rattle.uu_request.proofs.laws.what_is_brought_is_unpacked.Goals as goal

pub returns : goal.returns
returns c = λ whole front cut settings at user sender onward it is_whole is_front asks.
    let unpacked = c.bundles_are_steps_of_custody.ensures settings at front user sender onward it asks in
    let read : Bundle = unpacked.0 in
    let first : IsFirst whole read = first_read c.cut_bundles_are_fronts.ensures.front c.written_bundles_are_read.ensures c.a_text_has_one_bundle.ensures whole read front cut is_whole is_front unpacked.1 in
    let from : read.from ≡ whole.from = ap (λ heading. heading.from) first.heading in
    let to : read.to ≡ whole.to = ap (λ heading. heading.to) first.heading in
    let spool : read.spool ≡ whole.spool = ap (λ heading. heading.spool) first.heading in (
      sym from ∙ unpacked.2,
      sym to ∙ unpacked.3,
      (
        said_of read,
        c.fronts_of_bundles_are_read.ensures whole read front cut is_whole is_front unpacked.1,
        subst (λ name. AreUnpacked (bundle_crossing name whole.to whole.spool) (said_of read) (commands_in it.bundle)) from
            (subst (λ name. AreUnpacked (bundle_crossing read.from name whole.spool) (said_of read) (commands_in it.bundle)) to
            (subst (λ word. AreUnpacked (bundle_crossing read.from read.to word) (said_of read) (commands_in it.bundle)) spool unpacked.4)),
      ),
    )
