use Rattle.std.proofs.Common.{◌≡◌, ◌∙◌, ℕ, Vec, Ok, ap}
use Rattle.std.specs.Prelude.{⊤}
use Rattle.std.specs.declared.alloc.Global.{Global}
use Rattle.uu_bundle.specs.Bundles.{answer_front_text}
use Rattle.uu_core.specs.State.{link_of}
use Rattle.uu_core.specs.declared.custody.Taken.{Taken}
use Rattle.uuspool.specs.Bundles.{taken_among}
use Rattle.uuspool.specs.Internal.Asked.{heading_with}
use Rattle.uuspool.proofs.AskedLemmas.{asked_as, asked_one}
use Rattle.uuspool.proofs.asking.tell_taken.Goals as goal

pub returns : goal.returns
returns g c =
    let own = c.args.own.now in
    let it = c.args.answering.now in
    let heading = heading_with own it.packing c.args.below in
    asked_as (λ s. ⊤) (λ s (taken : Vec Taken Global). taken.items ≡ (link_of s it.packing.system).taken) c.args.spool.now c.taken.new.self
    (λ s (text : Vec ℕ Global). text.items ≡ answer_front_text heading (taken_among it.commands (link_of s it.packing.system).taken)) c.in_ok-taken.taken c.in_ok-text.text
    (λ s shown known was.
    c.in_ok-text.ensures ∙ ap (answer_front_text heading) (c.deref-2.ensures.value ∙ c.in_ok-asked.ensures ∙ ap (λ cs. taken_among cs c.deref.result.now) c.as_slice.ensures ∙ ap (taken_among it.commands) (c.deref.ensures.value ∙ was)))
    (asked_one (λ s (taken : Vec Taken Global). taken.items ≡ (link_of s it.packing.system).taken) c.args.spool.now c.taken.new.self (Ok c.in_ok-taken.taken) c.in_ok-taken.ensures.question)
