use Rattle.std.proofs.Common.{subst}
use Rattle.uu_adopt.specs.Reading.{FindsNext}
use Rattle.uu_adopt.proofs.EarlierVerdict.{no_bare_systems, no_lines, no_ranges, no_earlier_jobs, no_pieces, no_earlier_entries, no_waits, no_earlier_links, no_earlier_taken}
use Rattle.uu_adopt.proofs.Verdict.{no_next}
use Rattle.uu_adopt.proofs.all_earlier.earlier_rows_of.Goals as goal

pub returns-in_err-all-clause-none : goal.returns-in_err-all-clause-none
returns-in_err-all-clause-none c none v trees old found = no_next v trees (subst (FindsNext v trees) c.in_err-all.was found.next)

pub returns-in_err-as_deref-clause-none : goal.returns-in_err-as_deref-clause-none
returns-in_err-as_deref-clause-none c none v trees old found = no_bare_systems v old trees c.args.all.now.systems c.in_err-as_deref.ensures.variant found.systems

pub returns-in_err-as_deref-2-clause-none : goal.returns-in_err-as_deref-2-clause-none
returns-in_err-as_deref-2-clause-none c none v trees old found = no_lines v old trees c.args.all.now.lines c.in_err-as_deref-2.ensures.variant found.lines

pub returns-in_err-as_deref-3-clause-none : goal.returns-in_err-as_deref-3-clause-none
returns-in_err-as_deref-3-clause-none c none v trees old found = no_ranges v old trees c.args.all.now.ranges c.in_err-as_deref-3.ensures.variant found.ranges

pub returns-in_err-as_deref-4-clause-none : goal.returns-in_err-as_deref-4-clause-none
returns-in_err-as_deref-4-clause-none c none v trees old found = no_earlier_jobs v old trees c.args.all.now.jobs c.in_err-as_deref-4.ensures.variant found.jobs

pub returns-in_err-as_deref-5-clause-none : goal.returns-in_err-as_deref-5-clause-none
returns-in_err-as_deref-5-clause-none c none v trees old found = no_pieces v old trees c.args.all.now.pieces c.in_err-as_deref-5.ensures.variant found.pieces

pub returns-in_err-as_deref-6-clause-none : goal.returns-in_err-as_deref-6-clause-none
returns-in_err-as_deref-6-clause-none c none v trees old found = no_earlier_entries v old trees c.args.all.now.entries c.in_err-as_deref-6.ensures.variant found.entries

pub returns-in_err-as_deref-7-clause-none : goal.returns-in_err-as_deref-7-clause-none
returns-in_err-as_deref-7-clause-none c none v trees old found = no_waits v old trees c.args.all.now.success_waits c.in_err-as_deref-7.ensures.variant found.success_waits

pub returns-in_err-as_deref-8-clause-none : goal.returns-in_err-as_deref-8-clause-none
returns-in_err-as_deref-8-clause-none c none v trees old found = no_earlier_links v old trees c.args.all.now.links c.in_err-as_deref-8.ensures.variant found.links

pub returns-in_err-as_deref-9-clause-none : goal.returns-in_err-as_deref-9-clause-none
returns-in_err-as_deref-9-clause-none c none v trees old found = no_earlier_taken v old trees c.args.all.now.taken c.in_err-as_deref-9.ensures.variant found.taken
