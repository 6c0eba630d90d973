use Rattle.std.proofs.Common.{sym, ap}
use Rattle.std.specs.Prelude.{is_some}
use Rattle.uu_adopt.proofs.Verdict.{no_systems, no_entries, no_links, no_taken}
use Rattle.uu_adopt.proofs.ReadContents.{no_heads, next_is, systems_are, jobs_are, entries_are, links_are, taken_are}
use Rattle.uu_adopt.proofs.contents.contents_in.Goals as goal

pub returns-in_err-systems : goal.returns-in_err-systems
returns-in_err-systems c trees found s holds = absurd (no_systems trees c.args.every.systems (sym (ap is_some c.in_err-systems.was)) found.systems s holds)

pub returns-in_err-jobs : goal.returns-in_err-jobs
returns-in_err-jobs c trees found s holds = absurd (no_heads trees c.args.every.jobs (sym (ap is_some c.in_err-jobs.was)) found.jobs s holds)

pub returns-in_err-entries : goal.returns-in_err-entries
returns-in_err-entries c trees found s holds = absurd (no_entries trees c.args.every.entries (sym (ap is_some c.in_err-entries.was)) found.entries s holds)

pub returns-in_err-links : goal.returns-in_err-links
returns-in_err-links c trees found s holds = absurd (no_links trees c.args.every.links (sym (ap is_some c.in_err-links.was)) found.links s holds)

pub returns-in_err-taken : goal.returns-in_err-taken
returns-in_err-taken c trees found s holds = absurd (no_taken trees c.args.every.taken (sym (ap is_some c.in_err-taken.was)) found.taken s holds)

pub returns : goal.returns
returns c trees found s holds = record {
  good = holds.good;
  next = next_is trees s holds c.args.every.next _ c.in_ok-next.was found.next;
  systems = systems_are trees s holds c.args.every.systems _ c.in_ok-systems.was found.systems;
  jobs = jobs_are trees s holds c.args.every.jobs _ c.in_ok-jobs.was found.jobs;
  bodies = found.bodies s holds;
  entries = entries_are trees s holds c.args.every.entries _ c.in_ok-entries.was found.entries;
  links = links_are trees s holds c.args.every.links _ c.in_ok-links.was found.links;
  taken = taken_are trees s holds c.args.every.taken _ c.in_ok-taken.was found.taken;
}
