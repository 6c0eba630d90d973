use Rattle.std.proofs.Common.{◌≡◌, ◌≢◌, ◌==◌, ◌∙◌, ℕ, Bool, false, true≢false, ap, sym}
use Rattle.std.proofs.lemmas.Bool.{eqb-true, not-true, not-false}
use Rattle.uuspool.proofs.EndLemmas.{no_reply, some_answer}
use Rattle.uuspool.proofs.serving.is_answered.Goals as goal

some_in : (b : Bool) (n : ℕ) → b ≡ (n == 0) → b ≡ false → n ≢ 0
some_in b n is other none = true≢false (sym (ap (λ m. m == 0) none) ∙ sym is ∙ other)

pub returns-then-not-is_empty-clause-some : goal.returns-then-not-is_empty-clause-some
returns-then-not-is_empty-clause-some c = λ some.
    some_answer c.args.subjects.now c.args.replies.now (some_in c.is_empty.result _ c.is_empty.ensures c.if-not-is_empty.true)
    (some_in c.is_empty-then-not-is_empty.result _ c.is_empty-then-not-is_empty.ensures (not-true _ some))

pub returns-then-not-is_empty-clause-none : goal.returns-then-not-is_empty-clause-none
returns-then-not-is_empty-clause-none c = λ none.
    no_reply c.args.subjects.now c.args.replies.now (eqb-true _ 0 (sym c.is_empty-then-not-is_empty.ensures ∙ not-false _ none))
