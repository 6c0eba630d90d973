use Rattle.std.proofs.Common.{◌∙◌, List, ap, find, subst}
use Rattle.uu_map.specs.declared.entry.Entry.{Entry}
use Rattle.uu_routes.specs.Map.{host_for}
use Rattle.uuspool.specs.Answers.{IsEntryShown, is_of}
use Rattle.uuspool.proofs.RoutingLemmas.{ok_of}
use Rattle.uuspool.proofs.routing.links_text.Goals as goal

pub returns-clause-text : goal.returns-clause-text
returns-clause-text c =
    let entries = c.in_ok-entries.entries.items in
    ok_of c.entry_shown.result _ _ _ c.entry_shown.ensures
    (λ text is. (
      entries,
      c.in_ok-entries.ensures.entries,
      subst (λ found. IsEntryShown found text.0.items text.1)
          (c.entry_of.ensures ∙ (ap (λ (es : List Entry). find (is_of c.in_ok-host.host) es) c.deref-2.ensures.value ∙ ap (λ host. find (is_of host) entries) (c.in_ok-host.ensures ∙ ap (λ es. host_for es c.args.name.now) c.deref.ensures.value))) is,
    ))
