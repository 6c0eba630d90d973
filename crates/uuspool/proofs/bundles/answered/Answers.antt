use Rattle.std.proofs.Common.{◌≡◌, ◌∙◌, ℕ, Bool, Option, Some, None, Vec, Err, Ok, option_map, sym}
use Rattle.std.specs.Prelude.{⊤}
use Rattle.std.specs.declared.alloc.Global.{Global}
use Rattle.uu_core.specs.State.{State, has_system}
use Rattle.uuspool.specs.Bundles.{IsAnswerText}
use Rattle.uuspool.specs.Internal.Asked.{IsBundleFor}
use Rattle.uuspool.proofs.AskedLemmas.{asked_as, asked_goes_on, asked_then}
use Rattle.uuspool.proofs.BundleLemmas.{none_for_unknown, text_for_known}
use Rattle.uuspool.proofs.bundles.answered.Goals as goal

pub returns-in_err-known : goal.returns-in_err-known
returns-in_err-known g c =
    let own = c.args.own.now in
    let it = c.args.answering.now in
    asked_goes_on (λ s. ⊤) (λ s (known : Bool). known ≡ has_system s it.packing.system)
    (λ s (text : Option (Vec ℕ Global)). IsBundleFor (has_system s it.packing.system) (IsAnswerText own it s) (option_map (λ (t : Vec ℕ Global). t.items) text))
    c.args.spool.now c.is_known.new.spool c.from_residual.result c.in_err-known.field-0.0 c.from_residual.ensures.1 c.in_err-known.ensures

pub returns-then-not-known : goal.returns-then-not-known
returns-then-not-known g c =
    let own = c.args.own.now in
    let it = c.args.answering.now in
    asked_as (λ s. ⊤) (λ s (known : Bool). known ≡ has_system s it.packing.system) c.args.spool.now c.is_known.new.spool
    (λ s (text : Option (Vec ℕ Global)). IsBundleFor (has_system s it.packing.system) (IsAnswerText own it s) (option_map (λ (t : Vec ℕ Global). t.items) text))
    c.in_ok-known.known None
    (λ s shown known was. none_for_unknown (has_system s it.packing.system) (IsAnswerText own it s) (sym was ∙ c.if-not-known.true))
    c.in_ok-known.ensures

pub returns-in_err-text : goal.returns-in_err-text
returns-in_err-text g c =
    let own = c.args.own.now in
    let it = c.args.answering.now in
    let Knows : State → Bool → Type 0 = λ s known. known ≡ has_system s it.packing.system in
    let Text : State → Vec ℕ Global → Type 0 = λ s text. IsAnswerText own it s text.items in
    asked_goes_on (λ s. ⊤) (λ s (text : Vec ℕ Global). Knows s c.in_ok-known.known × Text s text)
    (λ s (text : Option (Vec ℕ Global)). IsBundleFor (has_system s it.packing.system) (IsAnswerText own it s) (option_map (λ (t : Vec ℕ Global). t.items) text))
    c.args.spool.now c.answer_text.new.spool c.from_residual-in_err-text.result c.in_err-text.field-0.0 c.from_residual-in_err-text.ensures.1
    (asked_then (λ s. ⊤) Knows c.args.spool.now c.is_known.new.spool c.answer_text.new.spool c.in_ok-known.known c.in_ok-known.ensures
    (λ s. ⊤) Text (Err c.in_err-text.field-0.0) (λ s shown known is. tt) c.in_err-text.ensures)

pub returns : goal.returns
returns g c =
    let own = c.args.own.now in
    let it = c.args.answering.now in
    let Knows : State → Bool → Type 0 = λ s known. known ≡ has_system s it.packing.system in
    let Text : State → Vec ℕ Global → Type 0 = λ s text. IsAnswerText own it s text.items in
    asked_as (λ s. ⊤) (λ s (text : Vec ℕ Global). Knows s c.in_ok-known.known × Text s text) c.args.spool.now c.answer_text.new.spool
    (λ s (text : Option (Vec ℕ Global)). IsBundleFor (has_system s it.packing.system) (IsAnswerText own it s) (option_map (λ (t : Vec ℕ Global). t.items) text))
    c.in_ok-text.text (Some c.in_ok-text.text)
    (λ s shown known was. text_for_known (has_system s it.packing.system) (IsAnswerText own it s) c.in_ok-text.text.items (sym was.0 ∙ c.if-not-known.false) was.1)
    (asked_then (λ s. ⊤) Knows c.args.spool.now c.is_known.new.spool c.answer_text.new.spool c.in_ok-known.known c.in_ok-known.ensures
    (λ s. ⊤) Text (Ok c.in_ok-text.text) (λ s shown known is. tt) c.in_ok-text.ensures)
