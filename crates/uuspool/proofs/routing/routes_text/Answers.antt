use Rattle.std.proofs.Common.{◌∙◌, Ok, Err, option_copied, subst}
use Rattle.uuspool.specs.Routes.{AreRoutesShown}
use Rattle.uuspool.proofs.RoutingLemmas.{ok_of, routed}
use Rattle.uuspool.proofs.routing.routes_text.Goals as goal

pub returns-in-Ok-clause-text : goal.returns-in-Ok-clause-text
returns-in-Ok-clause-text c =
    let entries = c.in_ok-entries.entries.items in
    let name = option_copied c.args.name in
    ok_of c.shown.result _ _ _ c.shown.ensures
    (λ text is. (
      entries,
      c.in_ok-entries.ensures.entries,
      routed entries c.deref.result.now _ _ c.deref-2.result.now name c.args.costs (Ok c.in-Ok.routes) text.0.items text.1
          c.deref.ensures.value (c.deref-2.ensures.value ∙ c.in_ok-names.ensures) c.in-Ok.ensures
          (subst (λ es. AreRoutesShown es name c.args.costs c.in-Ok.routes text.0.items text.1) c.deref-in-Ok.ensures.value
          (subst (λ rs. AreRoutesShown c.deref-in-Ok.result.now name c.args.costs rs text.0.items text.1) c.into_vec.ensures is)),
    ))

pub returns-clause-text : goal.returns-clause-text
returns-clause-text c =
    let entries = c.in_ok-entries.entries.items in
    let name = option_copied c.args.name in
    ok_of c.refused.result _ _ _ c.refused.ensures
    (λ text is. (
      entries,
      c.in_ok-entries.ensures.entries,
      routed entries c.deref.result.now _ _ c.deref-2.result.now name c.args.costs (Err c.in-Err.fault) text.0.items text.1
          c.deref.ensures.value (c.deref-2.ensures.value ∙ c.in_ok-names.ensures) c.in-Err.ensures (is entries name c.args.costs),
    ))
