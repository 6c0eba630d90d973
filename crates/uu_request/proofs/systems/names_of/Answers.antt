use Rattle.std.proofs.Common.{rules, ◌<◌, ◌∙◌, ap, length}
use Rattle.uu_times.specs.System.{System}
use Rattle.uu_core.specs.declared.subject.Subject.TheVariants.{Site}
use Rattle.uu_request.proofs.Lists.{items_grow}
use Rattle.uu_request.proofs.systems.names_of.Goals as goal

pub loop-system-preserved : goal.loop-system-preserved
loop-system-preserved c =
    let inside : c.loop-system.system-index < length c.args.systems.now = search rules in
    items_grow (λ system. Site system.name) c.args.systems.now c.loop-system.system-index c.system-item.result c.loop-system.subjects.items
    c.push.new.self.items (Site c.in_ok-name.name) inside c.system-item.is c.loop-system.invariant (ap Site (c.in_ok-name.ensures.cases ∙ ap (λ (system : System). system.name) c.system.view_is)) c.in_ok-push.ensures.items
