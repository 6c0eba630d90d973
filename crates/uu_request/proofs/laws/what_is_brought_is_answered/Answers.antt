use Rattle.std.proofs.Common.{◌≡◌, ◌∙◌, ◌∷◌, ap, sym, subst}
use Rattle.uu_core.specs.declared.command.Command.TheVariants.{Forget}
use Rattle.uu_bundle.specs.declared.bundle.Bundle.{Bundle}
use Rattle.uu_request.specs.Carried.{AreUnpacked, bundle_crossing, said_of}
use Rattle.uu_request.specs.Unpacking.{packing}
use Rattle.uu_request.proofs.CarriedLemmas.{answers}
use Rattle.uu_request.proofs.FrontLemmas.{IsFirst, first_read}
use Rattle.uu_request.proofs.laws.what_is_brought_is_answered.Goals as goal

pub returns : goal.returns
returns c = λ whole front cut settings at user sender onward grade spool after most no_jobs it is_whole is_front asks.
    let asked = answers settings at front onward (packing sender grade spool after most no_jobs) it asks.0 asks.1 asks.2 in
    let read : Bundle = asked.0 in
    let first : IsFirst whole read = first_read c.cut_bundles_are_fronts.ensures.front c.written_bundles_are_read.ensures c.a_text_has_one_bundle.ensures whole read front cut is_whole is_front asked.1 in
    let from : read.from ≡ whole.from = ap (λ heading. heading.from) first.heading in
    let to : read.to ≡ whole.to = ap (λ heading. heading.to) first.heading in
    let spool : read.spool ≡ whole.spool = ap (λ heading. heading.spool) first.heading in
    let below : read.below ≡ whole.below = ap (λ heading. heading.below) first.heading in (
      sym from ∙ asked.2,
      sym to ∙ asked.3,
      asked.4,
      asked.5 ∙ ap (λ heading. heading.grade) first.heading,
      (
        said_of read,
        c.fronts_of_bundles_are_read.ensures whole read front cut is_whole is_front asked.1,
        subst (λ least. AreUnpacked (bundle_crossing whole.from whole.to whole.spool) (said_of read) (Forget whole.from least ∷ it.commands)) below
            (subst (λ name. AreUnpacked (bundle_crossing name whole.to whole.spool) (said_of read) (Forget name read.below ∷ it.commands)) from
            (subst (λ name. AreUnpacked (bundle_crossing read.from name whole.spool) (said_of read) (Forget read.from read.below ∷ it.commands)) to
            (subst (λ word. AreUnpacked (bundle_crossing read.from read.to word) (said_of read) (Forget read.from read.below ∷ it.commands)) spool asked.6))),
      ),
    )
