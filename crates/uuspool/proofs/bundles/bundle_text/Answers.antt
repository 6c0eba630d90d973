use Rattle.std.proofs.Common.{◌≡◌, ◌∙◌, ℕ, List, Vec, Err, Ok}
use Rattle.std.specs.Prelude.{⊤}
use Rattle.std.specs.declared.alloc.Global.{Global}
use Rattle.uu_bundle.specs.Bundles.{front_text, most_bundle, text_with_jobs}
use Rattle.uu_core.specs.State.{Job, State, link_of}
use Rattle.uuspool.specs.Bundles.{IsBundleText, heading_for, most_of, parcels_for}
use Rattle.uuspool.specs.Internal.Asked.{ArePacked, AreThere, heading_with}
use Rattle.uuspool.proofs.AskedLemmas.{asked_as, asked_goes_on, asked_refused_as, asked_then}
use Rattle.uuspool.proofs.BundleLemmas.{Numbered, asked_for_numbered, text_made}
use Rattle.uuspool.proofs.bundles.bundle_text.Goals as goal

pub returns-in_err-numbers : goal.returns-in_err-numbers
returns-in_err-numbers g c =
    let own = c.args.own.now in
    let it = c.args.packing.now in
    asked_goes_on (λ s. ⊤) (λ s (one : Vec ℕ Global × ℕ). ArePacked it it.grade s one.0.items one.1) (λ s (text : Vec ℕ Global). IsBundleText own it s text.items) c.args.spool.now c.waiting.new.spool
    c.from_residual.result c.in_err-numbers.field-0.0 c.from_residual.ensures.1 c.in_err-numbers.ensures

pub returns-in_err-text : goal.returns-in_err-text
returns-in_err-text g c =
    let own = c.args.own.now in
    let it = c.args.packing.now in
    let numbers = c.in_ok-numbers.numbers in
    let below = c.in_ok-numbers.below in
    let Packs : State → Vec ℕ Global × ℕ → Type 0 = λ s one. ArePacked it it.grade s one.0.items one.1 in
    let Begins : State → Vec ℕ Global → Type 0 = λ s text. text.items ≡ front_text (most_of it) (heading_with own it below) (link_of s it.system).taken in
    asked_goes_on (λ s. ⊤) (λ s (text : Vec ℕ Global). Packs s (numbers, below) × Begins s text) (λ s (text : Vec ℕ Global). IsBundleText own it s text.items) c.args.spool.now c.begin.new.spool
    c.from_residual-in_err-text.result c.in_err-text.field-0.0 c.from_residual-in_err-text.ensures.1
    (asked_then (λ s. ⊤) Packs c.args.spool.now c.waiting.new.spool c.begin.new.spool (numbers, below) c.in_ok-numbers.ensures (λ s. ⊤) Begins (Err c.in_err-text.field-0.0) (λ s shown known is. tt) c.in_err-text.ensures)

pub returns-in_err-add_jobs : goal.returns-in_err-add_jobs
returns-in_err-add_jobs g c =
    let own = c.args.own.now in
    let it = c.args.packing.now in
    let numbers = c.in_ok-numbers.numbers in
    let below = c.in_ok-numbers.below in
    let Packs : State → Vec ℕ Global × ℕ → Type 0 = λ s one. ArePacked it it.grade s one.0.items one.1 in
    let Begins : State → Vec ℕ Global → Type 0 = λ s text. text.items ≡ front_text (most_of it) (heading_with own it below) (link_of s it.system).taken in
    let text = c.in_ok-text.text in
    let given = c.deref.result.now in
    let More : List Job → Type 0 = λ jobs. c.add_jobs.new.text.items ≡ text_with_jobs most_bundle (most_of it) text.items (parcels_for own it jobs) in
    let first = asked_then (λ s. ⊤) Packs c.args.spool.now c.waiting.new.spool c.begin.new.spool (numbers, below) c.in_ok-numbers.ensures (λ s. ⊤) Begins (Ok text) (λ s shown known is. tt) c.in_ok-text.ensures in
    asked_goes_on (λ s. ⊤) (λ s done. (Packs s (numbers, below) × Begins s text) × ((it : Numbered given) → AreThere it.0 s → More it.0)) (λ s (text : Vec ℕ Global). IsBundleText own it s text.items) c.args.spool.now c.add_jobs.new.spool
    c.from_residual-in_err-add_jobs.result c.in_err-add_jobs.field-0.0 c.from_residual-in_err-add_jobs.ensures.1
    (asked_then (λ s. ⊤) (λ s (t : Vec ℕ Global). Packs s (numbers, below) × Begins s t) c.args.spool.now c.begin.new.spool c.add_jobs.new.spool text first
    (λ s. (it : Numbered given) × AreThere it.0 s) (λ s done. (it : Numbered given) → AreThere it.0 s → More it.0) (Err c.in_err-add_jobs.field-0.0)
    (λ s shown known was. ((was.0.jobs, c.deref.ensures.value ∙ was.0.numbers_are), was.0.there))
    (asked_for_numbered given More c.begin.new.spool c.add_jobs.new.spool (Err c.in_err-add_jobs.field-0.0) c.in_err-add_jobs.ensures))

pub returns-in_err-end_bundle : goal.returns-in_err-end_bundle
returns-in_err-end_bundle g c =
    let own = c.args.own.now in
    let it = c.args.packing.now in
    let numbers = c.in_ok-numbers.numbers in
    let below = c.in_ok-numbers.below in
    let Packs : State → Vec ℕ Global × ℕ → Type 0 = λ s one. ArePacked it it.grade s one.0.items one.1 in
    let Begins : State → Vec ℕ Global → Type 0 = λ s text. text.items ≡ front_text (most_of it) (heading_with own it below) (link_of s it.system).taken in
    let text = c.in_ok-text.text in
    let given = c.deref.result.now in
    let More : List Job → Type 0 = λ jobs. c.add_jobs.new.text.items ≡ text_with_jobs most_bundle (most_of it) text.items (parcels_for own it jobs) in
    let first = asked_then (λ s. ⊤) Packs c.args.spool.now c.waiting.new.spool c.begin.new.spool (numbers, below) c.in_ok-numbers.ensures (λ s. ⊤) Begins (Ok text) (λ s shown known is. tt) c.in_ok-text.ensures in
    asked_refused_as (λ s. ⊤) (λ s done. (Packs s (numbers, below) × Begins s text) × ((it : Numbered given) → AreThere it.0 s → More it.0)) (λ s (text : Vec ℕ Global). IsBundleText own it s text.items) c.args.spool.now c.add_jobs.new.spool
    c.from_residual-in_err-end_bundle.result _ c.from_residual-in_err-end_bundle.ensures.1
    (asked_then (λ s. ⊤) (λ s (t : Vec ℕ Global). Packs s (numbers, below) × Begins s t) c.args.spool.now c.begin.new.spool c.add_jobs.new.spool text first
    (λ s. (it : Numbered given) × AreThere it.0 s) (λ s done. (it : Numbered given) → AreThere it.0 s → More it.0) _
    (λ s shown known was. ((was.0.jobs, c.deref.ensures.value ∙ was.0.numbers_are), was.0.there))
    (asked_for_numbered given More c.begin.new.spool c.add_jobs.new.spool _ c.in_ok-add_jobs.ensures))

pub returns : goal.returns
returns g c =
    let own = c.args.own.now in
    let it = c.args.packing.now in
    let numbers = c.in_ok-numbers.numbers in
    let below = c.in_ok-numbers.below in
    let Packs : State → Vec ℕ Global × ℕ → Type 0 = λ s one. ArePacked it it.grade s one.0.items one.1 in
    let Begins : State → Vec ℕ Global → Type 0 = λ s text. text.items ≡ front_text (most_of it) (heading_with own it below) (link_of s it.system).taken in
    let text = c.in_ok-text.text in
    let given = c.deref.result.now in
    let More : List Job → Type 0 = λ jobs. c.add_jobs.new.text.items ≡ text_with_jobs most_bundle (most_of it) text.items (parcels_for own it jobs) in
    let first = asked_then (λ s. ⊤) Packs c.args.spool.now c.waiting.new.spool c.begin.new.spool (numbers, below) c.in_ok-numbers.ensures (λ s. ⊤) Begins (Ok text) (λ s shown known is. tt) c.in_ok-text.ensures in
    asked_as (λ s. ⊤) (λ s done. (Packs s (numbers, below) × Begins s text) × ((it : Numbered given) → AreThere it.0 s → More it.0)) c.args.spool.now c.add_jobs.new.spool (λ s (text : Vec ℕ Global). IsBundleText own it s text.items) _ _
    (λ s shown known was.
    let packs = was.0.0 in
    record {
      jobs = packs.jobs;
      are = packs.are;
      is = text_made own it it.grade s numbers.items given below text.items c.add_jobs.new.text.items _ (λ b. front_text (most_of it) (heading_with own it b) (link_of s it.system).taken) packs c.deref.ensures.value was.0.1 was.1 c.in_ok-end_bundle.ensures
          ∙ c.pieces_make_a_bundle.ensures.text (most_of it) (heading_for own it s) (link_of s it.system).taken (parcels_for own it packs.jobs);
    })
    (asked_then (λ s. ⊤) (λ s (t : Vec ℕ Global). Packs s (numbers, below) × Begins s t) c.args.spool.now c.begin.new.spool c.add_jobs.new.spool text first
    (λ s. (it : Numbered given) × AreThere it.0 s) (λ s done. (it : Numbered given) → AreThere it.0 s → More it.0) _
    (λ s shown known was. ((was.0.jobs, c.deref.ensures.value ∙ was.0.numbers_are), was.0.there))
    (asked_for_numbered given More c.begin.new.spool c.add_jobs.new.spool _ c.in_ok-add_jobs.ensures))
