-- Each command keeps the order of a state.
use Rattle.std.proofs.Common.{◌+◌, ◌<◌, Bool, true, false, not, cond, List, filter, AllPairs, Option, Some, None, refl, arith}
use Rattle.std.proofs.lemmas.List.Kept.{AllPairs-filter}
use Rattle.std.proofs.lemmas.List.Elements.{All-weaker, All-push, All-filter}
use Rattle.uu_map.specs.Text.{host_of}
use Rattle.uu_core.specs.declared.custody.HandIn.{HandIn}
use Rattle.uu_core.specs.declared.custody.HandIn.TheVariants.{First, Again}
use Rattle.uu_core.specs.declared.job.NewJob.{NewJob}
use Rattle.uu_core.specs.declared.command.Command.{Command}
use Rattle.uu_core.specs.declared.command.Command.TheVariants.{Define, Remove, Queue, QueueOnce, Kill, Regrade, Rejuvenate, Failed, Done, Release, Entry, Forget}
use Rattle.uu_core.specs.declared.refusal.Refusal.{Refusal}
use Rattle.uu_core.specs.declared.system.SystemRow.{SystemRow}
use Rattle.uu_core.specs.State.{State, Job, Link, is_link, link_of, says_nothing, ComesBefore, is_job, is_system, system_at}
use Rattle.uu_core.specs.Verdict.{verdict}
use Rattle.uu_core.specs.After.{after, after_verdict, accept, hand_in, with_job_once, with_job, with_taken, forgotten, put_link, put_by, job_of, is_among, is_released, failed_call, done_call, call_of}
use Rattle.uu_core.specs.Order.{IsInOrder}
use Rattle.uu_core.proofs.WellFormedLemmas.{pairs_push, put_in_order, jobs_changed, jobs_rise, calls_in_order, entries_in_order}

-- a link in its place
link_in_order : (link : Link) (links : List Link) → AllPairs (λ (a b : Link). ComesBefore a.name b.name) links → AllPairs (λ (a b : Link). ComesBefore a.name b.name) (put_link link links)
link_in_order link links h = by-test (says_nothing link)
  where
    by-test : (t : Bool) → AllPairs (λ (a b : Link). ComesBefore a.name b.name) (cond t links (put_by (λ (other : Link). other.name) link links))
    by-test true = h
    by-test false = put_in_order (λ (other : Link). other.name) link links h

order_link : (state : State) → IsInOrder state → (link : Link) → IsInOrder (record state { links = put_link link state.links })
order_link state h link = record { rising = h.rising; below_next = h.below_next; by_name = h.by_name; by_host = h.by_host; by_link = link_in_order link state.links h.by_link }

module _ (state : State) (h : IsInOrder state) where
  order_queue : (job : NewJob) → IsInOrder (with_job job state)
  order_queue job = record {
    rising = pairs_push (λ (a b : Job). a.number < b.number) state.jobs (job_of state.next job) h.below_next h.rising;
    below_next = All-push (λ (j : Job). j.number < state.next + 1) state.jobs (job_of state.next job) (All-weaker (λ (j : Job). j.number < state.next) (λ (j : Job). j.number < state.next + 1) (λ j l. omega (arith, l)) state.jobs h.below_next) (omega arith);
    by_name = h.by_name;
    by_host = h.by_host;
    by_link = h.by_link;
  }

  order_accept : (command : Command) → IsInOrder (accept state command)
  order_accept (Define def) = record { rising = h.rising; below_next = h.below_next; by_name = put_in_order (λ (row : SystemRow). row.def.name) (record { def = def; call = call_of (system_at state def.name) }) state.systems h.by_name; by_host = h.by_host; by_link = h.by_link }
  order_accept (Remove name) = record { rising = h.rising; below_next = h.below_next; by_name = AllPairs-filter (λ (a b : SystemRow). ComesBefore a.def.name b.def.name) (λ (row : SystemRow). not (is_system name row)) state.systems h.by_name; by_host = h.by_host; by_link = AllPairs-filter (λ (a b : Link). ComesBefore a.name b.name) (λ (link : Link). not (is_link name link)) state.links h.by_link }
  order_accept (Queue job) = order_queue job
  order_accept (QueueOnce key job) = order_once (hand_in state key)
    where
      order_once : (comes : HandIn) → IsInOrder (with_job_once comes key job state)
      order_once (First number) = order_link (with_job job state) (order_queue job) (with_taken (record { number = key.number; mark = key.mark; job = number }) (link_of state key.from))
      order_once (Again number) = h
  order_accept (Kill job by) = order_filter (λ (other : Job). not (is_job job other))
    where
      order_filter : (p : Job → Bool) → IsInOrder (record state { jobs = filter p state.jobs })
      order_filter p = record {
        rising = AllPairs-filter (λ (a b : Job). a.number < b.number) p state.jobs h.rising;
        below_next = All-filter p (λ (j : Job). j.number < state.next) state.jobs h.below_next;
        by_name = h.by_name;
        by_host = h.by_host;
        by_link = h.by_link;
      }
  order_accept (Regrade job grade by) = record {
    rising = jobs_rise job (λ other. record other { grade = grade }) state.jobs (λ j. refl) h.rising;
    below_next = jobs_changed (λ (j : Job). j.number < state.next) job (λ other. record other { grade = grade }) state.jobs (λ j l. l) h.below_next;
    by_name = h.by_name;
    by_host = h.by_host;
    by_link = h.by_link;
  }
  order_accept (Rejuvenate job at by) = record {
    rising = jobs_rise job (λ other. record other { queued = at.second }) state.jobs (λ j. refl) h.rising;
    below_next = jobs_changed (λ (j : Job). j.number < state.next) job (λ other. record other { queued = at.second }) state.jobs (λ j l. l) h.below_next;
    by_name = h.by_name;
    by_host = h.by_host;
    by_link = h.by_link;
  }
  order_accept (Failed system at why) = record { rising = h.rising; below_next = h.below_next; by_name = calls_in_order system (λ row. failed_call row at why) state.systems h.by_name; by_host = h.by_host; by_link = h.by_link }
  order_accept (Done system at jobs) = record {
    rising = AllPairs-filter (λ (a b : Job). a.number < b.number) (λ (job : Job). not (is_among jobs job)) state.jobs h.rising;
    below_next = All-filter (λ (job : Job). not (is_among jobs job)) (λ (j : Job). j.number < state.next) state.jobs h.below_next;
    by_name = calls_in_order system (λ row. done_call row at) state.systems h.by_name;
    by_host = h.by_host;
    by_link = h.by_link;
  }
  order_accept (Release system jobs) = record {
    rising = AllPairs-filter (λ (a b : Job). a.number < b.number) (λ (job : Job). not (is_released system jobs job)) state.jobs h.rising;
    below_next = All-filter (λ (job : Job). not (is_released system jobs job)) (λ (j : Job). j.number < state.next) state.jobs h.below_next;
    by_name = h.by_name;
    by_host = h.by_host;
    by_link = h.by_link;
  }
  order_accept (Entry bytes) = record { rising = h.rising; below_next = h.below_next; by_name = h.by_name; by_host = entries_in_order (host_of bytes) bytes state.entries h.by_host; by_link = h.by_link }
  order_accept (Forget system below) = order_link state h (forgotten below (link_of state system))

pub still_in_order : (state : State) (command : Command) → IsInOrder state → IsInOrder (after state command).0
still_in_order state command h = by_verdict (verdict state command)
  where
    by_verdict : (v : Option Refusal) → IsInOrder (after_verdict v state command).0
    by_verdict None = order_accept state h command
    by_verdict (Some refusal) = h
