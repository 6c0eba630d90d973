use Rattle.std.proofs.Common.{◌≡◌, ◌∙◌, ℕ, Vec, ap}
use Rattle.std.specs.Prelude.{⊤}
use Rattle.std.specs.declared.alloc.Global.{Global}
use Rattle.uu_bundle.specs.Bundles.{answer_front_text, text_with_refused}
use Rattle.uu_core.specs.State.{State, link_of}
use Rattle.uuspool.specs.Bundles.{refused_among, taken_among}
use Rattle.uuspool.specs.Internal.Asked.{answer_front, heading_with}
use Rattle.uuspool.proofs.AskedLemmas.{asked_as, asked_goes_on, asked_then}
use Rattle.uuspool.proofs.asking.begin_answering.Goals as goal

pub returns-in_err-text : goal.returns-in_err-text
returns-in_err-text g c =
    let own = c.args.own.now in
    let it = c.args.answering.now in
    let below = c.args.below in
    asked_goes_on (λ s. ⊤) (λ s (text : Vec ℕ Global). text.items ≡ answer_front_text (heading_with own it.packing below) (taken_among it.commands (link_of s it.packing.system).taken))
    (λ s (text : Vec ℕ Global). text.items ≡ answer_front own it below s) c.args.spool.now c.tell_taken.new.spool
    c.from_residual.result c.in_err-text.field-0.0 c.from_residual.ensures.1 c.in_err-text.ensures

pub returns-in_err-add_refusals : goal.returns-in_err-add_refusals
returns-in_err-add_refusals g c =
    let own = c.args.own.now in
    let it = c.args.answering.now in
    let below = c.args.below in
    let text = c.in_ok-text.text in
    let commands = c.as_slice.result.now in
    let Tells : State → Vec ℕ Global → Type 0 = λ s text. text.items ≡ answer_front_text (heading_with own it.packing below) (taken_among it.commands (link_of s it.packing.system).taken) in
    asked_goes_on (λ s. ⊤) (λ s done. Tells s text × (c.add_refusals.new.text.items ≡ text_with_refused text.items (refused_among commands s)))
    (λ s (text : Vec ℕ Global). text.items ≡ answer_front own it below s) c.args.spool.now c.add_refusals.new.spool
    c.from_residual-in_err-add_refusals.result c.in_err-add_refusals.field-0.0 c.from_residual-in_err-add_refusals.ensures.1
    (asked_then (λ s. ⊤) Tells c.args.spool.now c.tell_taken.new.spool c.add_refusals.new.spool text c.in_ok-text.ensures
    (λ s. ⊤) (λ s done. c.add_refusals.new.text.items ≡ text_with_refused text.items (refused_among commands s)) _ (λ s shown known is. tt) c.in_err-add_refusals.ensures)

pub returns : goal.returns
returns g c =
    let own = c.args.own.now in
    let it = c.args.answering.now in
    let below = c.args.below in
    let text = c.in_ok-text.text in
    let commands = c.as_slice.result.now in
    let Tells : State → Vec ℕ Global → Type 0 = λ s text. text.items ≡ answer_front_text (heading_with own it.packing below) (taken_among it.commands (link_of s it.packing.system).taken) in
    asked_as (λ s. ⊤) (λ s done. Tells s text × (c.add_refusals.new.text.items ≡ text_with_refused text.items (refused_among commands s))) c.args.spool.now c.add_refusals.new.spool
    (λ s (text : Vec ℕ Global). text.items ≡ answer_front own it below s) _ _
    (λ s shown known was.
    was.1 ∙ ap (λ t. text_with_refused t (refused_among commands s)) was.0
    ∙ ap (λ cs. text_with_refused (answer_front_text (heading_with own it.packing below) (taken_among it.commands (link_of s it.packing.system).taken)) (refused_among cs s)) c.as_slice.ensures)
    (asked_then (λ s. ⊤) Tells c.args.spool.now c.tell_taken.new.spool c.add_refusals.new.spool text c.in_ok-text.ensures
    (λ s. ⊤) (λ s done. c.add_refusals.new.text.items ≡ text_with_refused text.items (refused_among commands s)) _ (λ s shown known is. tt) c.in_ok-add_refusals.ensures)
