use Rattle.std.proofs.Common.{◌∙◌, ◌∷◌, [], ap}
use Rattle.uu_core.specs.State.{empty}
use Rattle.uu_tables.specs.Tables.{tables_of}
use Rattle.uu_tables.specs.declared.change.Change.TheVariants.{SetNext}
use Rattle.uu_tables.specs.Changes.{applied}
use Rattle.uu_tables.proofs.PlanLemmas.{applied_append}
use Rattle.uu_adopt.specs.Renewal.{add_system, add_job, add_body, add_entry, add_link, add_taken, set_next, each}
use Rattle.uu_adopt.proofs.Renewing.{state_written}
use Rattle.uu_adopt.proofs.renewal.changes_of.Goals as goal

pub returns : goal.returns
returns c s good are =
    let rows = c.args.rows.now in
    let none = tables_of empty in
    let first = c.in_ok-add_all.ensures none ∙ ap (λ l. each add_system rows.systems.now (applied l none)) c.new-changes.ensures.items in
    let jobs = c.in_ok-add_all-2.ensures none ∙ ap (each add_job rows.jobs.now) first in
    let entries = c.in_ok-add_all-4.ensures none ∙ ap (each add_entry rows.entries.now) (c.in_ok-add_all-3.ensures none ∙ ap (each add_body rows.bodies.now) jobs) in
    let taken = c.in_ok-add_all-6.ensures none ∙ ap (each add_taken rows.taken.now) (c.in_ok-add_all-5.ensures none ∙ ap (each add_link rows.links.now) entries) in
    ap (λ l. applied l none) c.in_ok-push.ensures.items ∙ applied_append c.add_all-6.new.changes.items (SetNext rows.next ∷ []) none ∙ ap (set_next rows.next) taken
    ∙ (λ i. set_next (are.next i) (each add_taken (are.taken i) (each add_link (are.links i) (each add_entry (are.entries i) (each add_body (are.bodies i) (each add_job (are.jobs i) (each add_system (are.systems i) none)))))))
    ∙ state_written s good
