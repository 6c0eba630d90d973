use Rattle.std.proofs.Common.{◌∙◌, max, ap, refl}
use Rattle.std.specs.BTreeMap.{is_at}
use Rattle.std.specs.Map.{lookup}
use Rattle.std.specs.Ordering.{nat_cmp}
use Rattle.uu_core.proofs.TakeInLemmas.{begun, begun_unknown, known_where, unknown_where}
use Rattle.uu_core.proofs.take_in.Taking.begin.Goals as goal

pub returns-in-Ok : goal.returns-in-Ok
returns-in-Ok c = λ s from known next before.
    begun s from c.args.below _ (known_where c.args.known _ _ c.in-Ok.ensures ∙ known) next (c.max.ensures ∙ ap (λ b. max b c.args.below) before) refl
    (λ number. ap (lookup (is_at (nat_cmp number))) c.new-brought.ensures.empty)

pub returns-in-Err : goal.returns-in-Err
returns-in-Err c = λ s from known next before.
    begun_unknown s from c.args.below _ (unknown_where c.args.known _ _ c.in-Err.ensures ∙ known) next before refl (λ number. ap (lookup (is_at (nat_cmp number))) c.new-brought.ensures.empty)
