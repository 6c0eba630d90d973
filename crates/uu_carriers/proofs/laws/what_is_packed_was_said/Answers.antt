use Rattle.std.proofs.Common.{◌≡◌, ◌∙◌, ap}
use Rattle.uu_custody.specs.Carried.{IsSaidBy}
use Rattle.uu_bundle.specs.Bundles.{bundle_text}
use Rattle.uu_bundle.specs.declared.bundle.Bundle.{Bundle}
use Rattle.uu_request.specs.Carried.{bundle_crossing, said_of}
use Rattle.uu_custody.proofs.Noticing.{shown_is_true}
use Rattle.uu_carriers.proofs.laws.what_is_packed_was_said.Goals as goal

pub returns-clause-packed : goal.returns-clause-packed
returns-clause-packed g c before begun now in_hand commands replies was settings it whole started ran on clean own other spool grade good answers s keeps =
    shown_is_true before begun now in_hand commands replies was (λ u. IsSaidBy settings.name u (said_of whole) × (whole.from ≡ settings.name) × (whole.spool ≡ it.spool)) started ran on clean
    (λ u shown.
    let one = c.what_is_packed_may_be_said.ensures settings u it (bundle_text whole) shown.encodes.holds.good own other spool grade (answers u shown) in
    let said = c.a_text_says_one_bundle.ensures settings.name it.system (bundle_crossing settings.name it.system it.spool).mark u whole one.0 good one.2 one.1 one.4 in
    (said.0, ap (λ (b : Bundle). b.from) said.1 ∙ one.4.from, ap (λ (b : Bundle). b.spool) said.1 ∙ one.3))
    s keeps

pub returns-clause-answered : goal.returns-clause-answered
returns-clause-answered g c before begun now in_hand commands replies was settings it make asked whole started ran on clean own other spool grade of texts good answers s keeps =
    shown_is_true before begun now in_hand commands replies was (λ u. IsSaidBy settings.name u (said_of whole) × (whole.from ≡ settings.name) × (whole.spool ≡ it.packing.spool)) started ran on clean
    (λ u shown.
    let one = c.what_is_answered_may_be_said.ensures settings u it make asked (bundle_text whole) shown.encodes.holds.good own other spool grade of texts (answers u shown) in
    let said = c.a_text_says_one_bundle.ensures settings.name it.packing.system (bundle_crossing settings.name it.packing.system it.packing.spool).mark u whole one.0 good one.2 one.1 one.4.said in
    (said.0, ap (λ (b : Bundle). b.from) said.1 ∙ one.4.said.from, ap (λ (b : Bundle). b.spool) said.1 ∙ one.3))
    s keeps
