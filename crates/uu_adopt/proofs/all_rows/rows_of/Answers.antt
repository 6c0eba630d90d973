use Rattle.std.proofs.Common.{subst}
use Rattle.uu_schema.specs.declared.version.Version.TheVariants.{Fourth}
use Rattle.uu_adopt.specs.Reading.{FindsNext}
use Rattle.uu_adopt.proofs.Verdict.{no_next, no_systems, no_bodies, no_entries, no_links, no_taken}
use Rattle.uu_adopt.proofs.all_rows.rows_of.Goals as goal

pub returns-in_err-all-clause-none : goal.returns-in_err-all-clause-none
returns-in_err-all-clause-none c none trees found = no_next Fourth trees (subst (FindsNext Fourth trees) c.in_err-all.was found.next)

pub returns-in_err-as_deref-clause-none : goal.returns-in_err-as_deref-clause-none
returns-in_err-as_deref-clause-none c none trees found = no_systems trees c.args.all.now.systems c.in_err-as_deref.ensures.variant found.systems

pub returns-in_err-as_deref-2-clause-none : goal.returns-in_err-as_deref-2-clause-none
returns-in_err-as_deref-2-clause-none c none trees found = no_bodies trees c.args.all.now.bodies c.in_err-as_deref-2.ensures.variant found.bodies

pub returns-in_err-as_deref-3-clause-none : goal.returns-in_err-as_deref-3-clause-none
returns-in_err-as_deref-3-clause-none c none trees found = no_entries trees c.args.all.now.entries c.in_err-as_deref-3.ensures.variant found.entries

pub returns-in_err-as_deref-4-clause-none : goal.returns-in_err-as_deref-4-clause-none
returns-in_err-as_deref-4-clause-none c none trees found = no_links trees c.args.all.now.links c.in_err-as_deref-4.ensures.variant found.links

pub returns-in_err-as_deref-5-clause-none : goal.returns-in_err-as_deref-5-clause-none
returns-in_err-as_deref-5-clause-none c none trees found = no_taken trees c.args.all.now.taken c.in_err-as_deref-5.ensures.variant found.taken
