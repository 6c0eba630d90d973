use Rattle.std.proofs.Common.{◌∙◌, Bor, List, ap, map, subst, sym, ℕ}
use Rattle.uu_bundle.specs.Internal.Forms.{IsReadAs, IsSaid, said_words}
use Rattle.uu_bundle.specs.Marks.{mark_of}
use Rattle.uu_bundle.proofs.Records.{no_said, said_rightly, said_wrongly}
use Rattle.uu_bundle.proofs.heading.heading_in.Goals as goal

abbrev texts : List (Bor (List ℕ)) → List (List ℕ)
texts words = map (λ word. word.now) words

pub returns-in_default : goal.returns-in_default
returns-in_default c = no_said (texts c.args.words.now) (subst (IsReadAs IsSaid said_words (texts c.args.words.now)) c.in_default.is c.in_ok-said.ensures)

pub returns-then-number : goal.returns-then-number
returns-then-number c =
    said_wrongly (texts c.args.words.now) c.in-Some.said c.mark_of.result (subst (IsReadAs IsSaid said_words (texts c.args.words.now)) c.in-Some.is c.in_ok-said.ensures)
    (c.mark_of.ensures ∙ ap mark_of (c.deref.ensures.value ∙ c.in_ok-text.ensures)) (λ same. c.if-number.true (c.number.ensures.value ∙ same ∙ sym c.number-2.ensures.value))

pub returns : goal.returns
returns c =
    said_rightly (texts c.args.words.now) c.in-Some.said c.mark_of.result (subst (IsReadAs IsSaid said_words (texts c.args.words.now)) c.in-Some.is c.in_ok-said.ensures)
    (c.mark_of.ensures ∙ ap mark_of (c.deref.ensures.value ∙ c.in_ok-text.ensures)) (sym c.number.ensures.value ∙ c.if-number.false ∙ c.number-2.ensures.value)
