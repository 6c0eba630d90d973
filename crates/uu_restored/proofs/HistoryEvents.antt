-- Each event keeps what always holds.
use Rattle.std.proofs.Common.{◌≡◌, ℕ, ◌<◌, ◌≤◌, max, Bool, true, false, nat_lt, nat_le, ◌&&◌, List, [], ◌∷◌, ◌++◌, All, Contains, refl, ap, sym, ◌∙◌, subst, arith, inl, inr, ◌⊎◌}
use Rattle.std.proofs.lemmas.Bool.Decides.{nat_tests}
use Rattle.std.proofs.lemmas.List.Elements.{All-nil, All-weaker, All-contains, Contains-append_left, Contains-append_right, Contains-append_cases, Contains-push_cases}
use Rattle.uu_names.proofs.Basics.{first_or_later, in_filter, and_first, and_second}
use Rattle.uu_core.specs.declared.command.Command.{Command}
use Rattle.uu_core.specs.declared.command.Command.TheVariants.{Define, Remove, Queue, QueueOnce, Kill, Regrade, Rejuvenate, Failed, Done, Release, Entry, Forget}
use Rattle.uu_core.specs.declared.job.NewJob.{NewJob}
use Rattle.uu_core.specs.State.{State, Job, Link, link_of}
use Rattle.uu_core.specs.Order.{IsInOrder}
use Rattle.uu_core.specs.After.{after}
use Rattle.uu_core.specs.Laws.{IsAmong, accepted_of}
use Rattle.uu_core.proofs.RunLemmas.{next-after}
use Rattle.uu_core.proofs.JobLemmas.{handed_in}
use Rattle.uu_renumber.specs.Renumbered.{renumbered}
use Rattle.uu_handover.specs.Custody.{Parcel, parcel_of, Crossing, key_of, Handed, World, IsLeast, MayRun, MayGo, was_said, kills_in, go, IsQueued, IsNotLost}
use Rattle.uu_handover.specs.Custody.Step.{SenderRuns, SenderShows, SenderSays, ReceiverTakes, ReceiverRuns, ReceiverTells}
use Rattle.uu_handover.proofs.CustodyLemmas.{same_parcel, handed_number, link_after, LinkAfter}
use Rattle.uu_handover.proofs.CustodyInvariant.{Holds, kept_of, said_above}
use Rattle.uu_handover.proofs.CustodyRuns.{holds_after}
use Rattle.uu_handover.proofs.CustodyLaws.{waits_on, carried_back, still_queued}
use Rattle.uu_restored.specs.Restored.{Copy, History, present, MayPutBack, is_the_newest, put_back, IsSpool, IsDone, IsKnown}
use Rattle.uu_restored.proofs.SpoolLemmas.{turned, followed, each_passes, kills_there, below_taken}
use Rattle.uu_restored.proofs.HistoryInvariant.{silent, AreAlike, AreShown, Knows, AreBehind, IsBelowSaid, Lives, alike_within, own_known, the_present, a_copy, by_spool, by_two, done_on, known_on, done_back, known_back}

module _ (crossing : Crossing) (history : History) (h : Lives crossing history) where
  abbrev world : World
  world = history.world

  abbrev sender : State
  sender = history.world.sender

  -- ---- the receiver's steps

  received : (receiver : State) (answered : List ℕ) (handed : List Handed) (heard : Bool)
      → Holds crossing (silent (record world { receiver = receiver; answered = answered; handed = handed; is_heard = heard }))
      → ((parcel : Parcel) → IsQueued crossing world parcel → IsQueued crossing (record world { receiver = receiver; answered = answered; handed = handed; is_heard = heard }) parcel)
      → (heard ≡ true → IsBelowSaid world.said (link_of receiver crossing.from).below)
      → Lives crossing (record history { world = record world { receiver = receiver; answered = answered; handed = handed; is_heard = heard } })
  received receiver answered handed heard holds queued below = record {
    holds = holds;
    one = h.one;
    order = h.order;
    next = h.next;
    alike = h.alike;
    shown = h.shown;
    killed = h.killed;
    said = h.said;
    heard = below;
    known = λ e copy other there inside job it own given. known_on crossing world then job other (queued (parcel_of job)) (h.known e copy other there inside job it own given);
    behind = λ e copy there job low it own said less. done job (h.behind e copy there job low it own said less);
  }
    where
      then : World
      then = record world { receiver = receiver; answered = answered; handed = handed; is_heard = heard }

      done : (job : Job) → IsDone crossing history job → IsDone crossing (record history { world = then }) job
      done job = done_on crossing history then job (λ killed. killed) (queued (parcel_of job))

  pub after_take : (parcel : Parcel) (new : NewJob) → MayGo crossing world (ReceiverTakes parcel new) → Lives crossing (record history { world = go crossing world (ReceiverTakes parcel new) })
  after_take parcel new may =
      received (after world.receiver (QueueOnce (key_of crossing parcel) new)).0 (go crossing world (ReceiverTakes parcel new)).answered (go crossing world (ReceiverTakes parcel new)).handed world.is_heard
      (holds_after crossing (silent world) (ReceiverTakes parcel new) h.holds may)
      (λ other it. still_queued crossing world (ReceiverTakes parcel new) other it)
      (λ e. subst (IsBelowSaid world.said) (sym (below_taken world.receiver (key_of crossing parcel) new)) (h.heard e))

  pub after_tell : (number : ℕ) → MayGo crossing world (ReceiverTells number) → Lives crossing (record history { world = go crossing world (ReceiverTells number) })
  after_tell number may =
      received world.receiver (world.answered ++ number ∷ []) world.handed world.is_heard
      (holds_after crossing (silent world) (ReceiverTells number) h.holds may)
      (λ other it. still_queued crossing world (ReceiverTells number) other it)
      h.heard

  pub after_receiver : (command : Command) → MayGo crossing world (ReceiverRuns command) → Lives crossing (record history { world = go crossing world (ReceiverRuns command) })
  after_receiver command may =
      received (after world.receiver command).0 world.answered world.handed (world.is_heard && was_said crossing world command)
      (holds_after crossing (silent world) (ReceiverRuns command) h.holds may)
      (λ other it. still_queued crossing world (ReceiverRuns command) other it)
      (λ e. by_link e (link_after crossing world.receiver command may))
    where
      both : (one other : ℕ) → IsBelowSaid world.said one → (said : ℕ) × Contains world.said said × (other ≤ said) → IsBelowSaid world.said (max one other)
      both one other (inl none) (said, there, most) = inr (said, there, omega (arith, none, most))
      both one other (inr (first, inside, least)) (said, there, most) = by-test (nat_le said first) refl
        where
          by-test : (t : Bool) → nat_le said first ≡ t → IsBelowSaid world.said (max one other)
          by-test true e = inr (first, inside, (let l : said ≤ first = grind (arith, nat_tests) in omega (arith, least, most, l)))
          by-test false e = inr (said, there, (let l : first ≤ said = grind (arith, nat_tests) in omega (arith, least, most, l)))

      by_link : world.is_heard && was_said crossing world command ≡ true → LinkAfter crossing.from world.receiver command (link_of (after world.receiver command).0 crossing.from)
          → IsBelowSaid world.said (link_of (after world.receiver command).0 crossing.from).below
      by_link e (inl same) = subst (λ (l : Link). IsBelowSaid world.said l.below) (sym same) (h.heard (and_first world.is_heard (was_said crossing world command) e))
      by_link e (inr (below, system, is, own, same)) = subst (λ (l : Link). IsBelowSaid world.said l.below) (sym same)
          (both (kept_of crossing world).below below (h.heard (and_first world.is_heard (was_said crossing world command) e))
          (said_above crossing world system below own (subst (λ c. was_said crossing world c ≡ true) is (and_second world.is_heard (was_said crossing world command) e))))

  -- ---- the sender's steps

  pub after_show : (job : Job) → MayGo crossing world (SenderShows job) → Lives crossing (record history { world = go crossing world (SenderShows job) })
  after_show job may = record {
    holds = holds_after crossing (silent world) (SenderShows job) h.holds may;
    one = λ parcel other there inside number. elim (Contains-push_cases world.shown (parcel_of job) parcel there) [
      | inl before ↦ (elim (Contains-push_cases world.shown (parcel_of job) other inside) [
        | inl also ↦ h.one parcel other before also number
        | inr new ↦ (sym (own parcel before (number ∙ sym (ap (λ (p : Parcel). p.number) new))) ∙ new)
      ])
      | inr new ↦ (elim (Contains-push_cases world.shown (parcel_of job) other inside) [
        | inl before ↦ (sym new ∙ own other before (sym number ∙ sym (ap (λ (p : Parcel). p.number) new)))
        | inr also ↦ (sym new ∙ also)
      ])
    ];
    order = h.order;
    next = h.next;
    alike = h.alike;
    shown = λ spool there parcel other inside it number. elim (Contains-push_cases world.shown (parcel_of job) parcel inside) [
      | inl before ↦ h.shown spool there parcel other before it number
      | inr new ↦ (same_parcel job other (h.alike (present history) spool (the_present history) there job other may.0 it (ap (λ (p : Parcel). p.number) new ∙ sym number)) ∙ new)
    ];
    killed = h.killed;
    said = h.said;
    heard = h.heard;
    known = λ e copy other there inside twin it own given. known_on crossing world then twin other (queued_on (parcel_of twin)) (h.known e copy other there inside twin it own given);
    behind = λ e copy there twin low it own said less. done twin (h.behind e copy there twin low it own said less);
  }
    where
      then : World
      then = go crossing world (SenderShows job)

      queued_on : (parcel : Parcel) → IsQueued crossing world parcel → IsQueued crossing then parcel
      queued_on = still_queued crossing world (SenderShows job)

      done : (twin : Job) → IsDone crossing history twin → IsDone crossing (record history { world = then }) twin
      done twin = done_on crossing history then twin (λ killed. killed) (queued_on (parcel_of twin))

      own : (parcel : Parcel) → Contains world.shown parcel → parcel.number ≡ job.number → parcel_of job ≡ parcel
      own parcel there number = h.shown (present history) (the_present history) parcel job there may.0 (sym number)

  pub after_say : (below : ℕ) → MayGo crossing world (SenderSays below) → Lives crossing (record history { world = go crossing world (SenderSays below) })
  after_say below may = record {
    holds = h.holds;
    one = h.one;
    order = h.order;
    next = h.next;
    alike = h.alike;
    shown = h.shown;
    killed = h.killed;
    said = λ said there. elim (Contains-push_cases world.said below said there) [
      | inl before ↦ h.said said before
      | inr same ↦ subst (λ n. n ≤ sender.next) same may.later
    ];
    heard = λ e. more (h.heard e);
    known = λ e copy other there inside job it own given. known_on crossing world then job other (queued_on (parcel_of job)) (h.known e copy other there inside job it own given);
    behind = λ e copy there job low it own said less. elim (Contains-push_cases world.said below low said) [
      | inl before ↦ done job (h.behind e copy there job low it own before less)
      | inr same ↦ done job (by_spool history (λ (one : Copy). Contains one.spool.jobs job → IsDone crossing history job)
          (λ inside. absurd (waits job inside own (subst (λ n. job.number < n) (sym same) less)))
          (λ one kept inside. gone e one kept job inside own (subst (λ n. job.number < n) (sym same) less))
          copy there it)
    ];
  }
    where
      then : World
      then = go crossing world (SenderSays below)

      queued_on : (parcel : Parcel) → IsQueued crossing world parcel → IsQueued crossing then parcel
      queued_on = still_queued crossing world (SenderSays below)

      done : (job : Job) → IsDone crossing history job → IsDone crossing (record history { world = then }) job
      done job = done_on crossing history then job (λ killed. killed) (queued_on (parcel_of job))

      more : {n : ℕ} → IsBelowSaid world.said n → IsBelowSaid (world.said ++ below ∷ []) n
      more (inl none) = inl none
      more (inr (one, there, most)) = inr (one, Contains-append_left world.said (below ∷ []) one there, most)

      waits : (job : Job) → Contains sender.jobs job → job.system ≡ crossing.to → job.number < below → ⊥
      waits job inside own less = let l = All-contains (λ (j : Job). j.system ≡ crossing.to → below ≤ j.number) sender.jobs job may.now inside own in omega (arith, l, less)

      gone : history.is_newest ≡ true → (copy : Copy) → Contains history.copies copy → (job : Job) → Contains copy.spool.jobs job → job.system ≡ crossing.to → job.number < below → IsDone crossing history job
      gone e copy kept job inside own less = elim (h.known e copy (present history) (a_copy history copy kept) (the_present history) job inside own (let l = may.later in omega (arith, l, less))).has [
        | inl among ↦ absurd (waits among.later among.there (among.same.system ∙ own) (subst (λ n. n < below) (sym among.same.number) less))
        | inr rest ↦ (elim rest [
          | inl killed ↦ inl killed
          | inr queued ↦ inr (inr queued)
        ])
      ]

  -- what the sender may run doesn't depend on what was said
  may_run : (command : Command) → MayRun crossing world command → MayRun crossing (silent world) command
  may_run (Done system at jobs) may = may
  may_run (Release system jobs) may = may
  may_run (Define def) may = may
  may_run (Remove name) may = may
  may_run (Queue new) may = may
  may_run (QueueOnce key new) may = may
  may_run (Kill job by) may = may
  may_run (Regrade job grade by) may = may
  may_run (Rejuvenate job at by) may = may
  may_run (Failed system at why) may = may
  may_run (Entry bytes) may = may
  may_run (Forget system below) may = may

  module _ (command : Command) (may : MayGo crossing world (SenderRuns command)) where
    abbrev ran : World
    ran = go crossing world (SenderRuns command)

    abbrev pub spool : State
    spool = (after history.world.sender command).0

    up : sender.next ≤ spool.next
    up = next-after sender command

    abbrev pub ran_from : Copy
    ran_from = record { spool = (after history.world.sender command).0; killed = history.world.killed ++ kills_in (accepted_of history.world.sender (command ∷ [])) }

    queued_on : (parcel : Parcel) → IsQueued crossing world parcel → IsQueued crossing ran parcel
    queued_on = still_queued crossing world (SenderRuns command)

    killed_on : (number : ℕ) → Contains world.killed number → Contains ran.killed number
    killed_on = Contains-append_left world.killed (kills_in (accepted_of world.sender (command ∷ [])))

    done_run : (job : Job) → IsDone crossing history job → IsDone crossing (record history { world = go crossing world (SenderRuns command) }) job
    done_run job = done_on crossing history ran job (killed_on job.number) (queued_on (parcel_of job))

    -- a job that the spool has now was there before, or has the number that was the next
    was_there : (job : Job) → Contains spool.jobs job → IsAmong sender.jobs job ⊎ (job.number ≡ sender.next)
    was_there job there = elim (handed_in sender command job there) [
      | inl among ↦ inl among
      | inr made ↦ inr (handed_number sender command job made)
    ]

    pub known_run : (job : Job) → job.system ≡ crossing.to → IsKnown crossing world job (present history) → IsKnown crossing ran job ran_from
    known_run job own it = record {
      given = omega (arith, up, it.given);
      has = elim it.has [
        | inl among ↦ by_case (carried_back crossing (go crossing (silent world) (SenderRuns command)) job among.later among.same (waits_on crossing (silent world) (SenderRuns command) among.later h.holds (may_run command may) among.there (among.same.system ∙ own)))
        | inr rest ↦ (elim rest [
          | inl killed ↦ inr (inl (killed_on job.number killed))
          | inr queued ↦ inr (inr (queued_on (parcel_of job) queued))
        ])
      ];
    }
      where
        by_case : IsNotLost crossing (go crossing (silent world) (SenderRuns command)) job → IsAmong spool.jobs job ⊎ Contains ran.killed job.number ⊎ IsQueued crossing ran (parcel_of job)
        by_case (inl among) = inl among
        by_case (inr (inl killed)) = inr (inl killed)
        by_case (inr (inr queued)) = inr (inr (record { handed = queued.handed; there = queued.there; of = queued.of }))

    low : (copy : Copy) → Contains history.copies copy → (job : Job) → Contains copy.spool.jobs job → job.number < sender.next
    low copy kept job there =
        let l = All-contains (λ (j : Job). j.number < copy.spool.next) copy.spool.jobs job (h.order copy kept).below_next there in let m = h.next copy kept in omega (arith, l, m)

    alike_copy : (copy : Copy) → Contains history.copies copy → AreAlike spool copy.spool
    alike_copy copy kept job twin there inside number = elim (was_there job there) [
      | inl among ↦ followed job among.later twin among.same (h.alike (present history) copy (the_present history) (a_copy history copy kept) among.later twin among.there inside (among.same.number ∙ number))
      | inr new ↦ absurd (let l = low copy kept twin inside in omega (arith, l, number, new))
    ]

    pub after_run : Lives crossing (record history { world = go crossing world (SenderRuns command) })
    after_run = record {
      holds = holds;
      one = h.one;
      order = h.order;
      next = λ copy kept. let l = h.next copy kept in omega (arith, l, up);
      alike = by_two then (λ (copy other : Copy). AreAlike copy.spool other.spool)
          (alike_within spool holds.sender_order)
          alike_copy
          (λ copy kept job twin there inside number. turned twin job (alike_copy copy kept twin job inside there (sym number)))
          (λ copy other kept also. h.alike copy other (a_copy history copy kept) (a_copy history other also));
      shown = by_spool then (λ (copy : Copy). AreShown world.shown copy.spool)
          (λ parcel job there inside number. (holds.shown parcel there).same job inside number)
          (λ copy kept. h.shown copy (a_copy history copy kept));
      killed = by_spool then (λ (copy : Copy). (number : ℕ) → Contains copy.killed number → number < copy.spool.next)
          (λ number there. elim (Contains-append_cases world.killed (kills_in (accepted_of world.sender (command ∷ []))) number there) [
            | inl before ↦ (let l = h.killed (present history) (the_present history) number before in omega (arith, l, up))
            | inr now ↦ (let l = kills_there sender command number h.holds.sender_order now in omega (arith, l, up))
          ])
          (λ copy kept. h.killed copy (a_copy history copy kept));
      said = λ below there. let l = h.said below there in omega (arith, l, up);
      heard = h.heard;
      known = λ e. by_two then (Knows crossing ran)
          (own_known crossing ran ran_from)
          (λ copy kept job there own given. from_sender e copy kept job own given (was_there job there))
          (λ copy kept job there own given. known_run job own (h.known e copy (present history) (a_copy history copy kept) (the_present history) job there own (low copy kept job there)))
          (λ copy other kept also job there own given. known_on crossing world ran job other (queued_on (parcel_of job)) (h.known e copy other (a_copy history copy kept) (a_copy history other also) job there own given));
      behind = λ e. by_spool then (AreBehind crossing then)
          (λ job below there own said less. of_sender e job below own said less (was_there job there))
          (λ copy kept job below there own said less. done_run job (h.behind e copy (a_copy history copy kept) job below there own said less));
    }
      where
        then : History
        then = record history { world = go crossing world (SenderRuns command) }

        holds : Holds crossing (silent (go crossing world (SenderRuns command)))
        holds = holds_after crossing (silent world) (SenderRuns command) h.holds (may_run command may)

        from_sender : history.is_newest ≡ true → (copy : Copy) → Contains history.copies copy → (job : Job) → job.system ≡ crossing.to → job.number < copy.spool.next → IsAmong sender.jobs job ⊎ (job.number ≡ sender.next) → IsKnown crossing ran job copy
        from_sender e copy kept job own given (inl among) =
            known_on crossing world ran job copy (queued_on (parcel_of job)) (known_back crossing world job among.later copy among.same
            (h.known e (present history) copy (the_present history) (a_copy history copy kept) among.later among.there (among.same.system ∙ own) (subst (λ n. n < copy.spool.next) (sym among.same.number) given)))
        from_sender e copy kept job own given (inr new) = absurd (let m = h.next copy kept in omega (arith, m, given, new))

        of_sender : history.is_newest ≡ true → (job : Job) (below : ℕ) → job.system ≡ crossing.to → Contains world.said below → job.number < below → IsAmong sender.jobs job ⊎ (job.number ≡ sender.next)
            → IsDone crossing (record history { world = go crossing world (SenderRuns command) }) job
        of_sender e job below own said less (inl among) =
            done_run job (done_back crossing history job among.later among.same (h.behind e (present history) (the_present history) among.later below among.there (among.same.system ∙ own) said (subst (λ n. n < below) (sym among.same.number) less)))
        of_sender e job below own said less (inr new) = absurd (let l = h.said below said in omega (arith, l, less, new))

  -- ---- copies

  pub after_copy : Lives crossing (record history { copies = present history ∷ history.copies })
  after_copy = record {
    holds = h.holds;
    one = h.one;
    order = λ copy there. by_spool history (λ (one : Copy). IsInOrder one.spool) h.holds.sender_order h.order copy there;
    next = λ copy there. by_spool history (λ (one : Copy). one.spool.next ≤ sender.next) (omega arith) h.next copy there;
    alike = λ one other there inside. h.alike one other (was one there) (was other inside);
    shown = λ one there. h.shown one (was one there);
    killed = λ one there. h.killed one (was one there);
    said = h.said;
    heard = h.heard;
    known = λ e one other there inside. h.known e one other (was one there) (was other inside);
    behind = λ e one there. h.behind e one (was one there);
  }
    where
      was : (one : Copy) → Contains (present history ∷ present history ∷ history.copies) one → IsSpool history one
      was one there = elim (first_or_later (present history) one (present history ∷ history.copies) there) [
        | inl same ↦ subst (IsSpool history) same (the_present history)
        | inr later ↦ later
      ]

  pub after_leave : (copies : List Copy) → All (Contains history.copies) copies → Lives crossing (record history { copies = copies })
  after_leave copies all = record {
    holds = h.holds;
    one = h.one;
    order = λ copy there. h.order copy (still copy there);
    next = λ copy there. h.next copy (still copy there);
    alike = λ one other there inside. h.alike one other (was one there) (was other inside);
    shown = λ one there. h.shown one (was one there);
    killed = λ one there. h.killed one (was one there);
    said = h.said;
    heard = h.heard;
    known = λ e one other there inside. h.known e one other (was one there) (was other inside);
    behind = λ e one there. h.behind e one (was one there);
  }
    where
      still : (copy : Copy) → Contains copies copy → Contains history.copies copy
      still copy there = All-contains (Contains history.copies) copies copy all there

      was : (one : Copy) → Contains (present history ∷ copies) one → IsSpool history one
      was one there = elim (first_or_later (present history) one copies there) [
        | inl same ↦ subst (IsSpool history) same (the_present history)
        | inr later ↦ a_copy history one (still one later)
      ]

  module _ (copy : Copy) (number : ℕ) (may : MayPutBack history copy number) where
    abbrev pub back : State
    back = renumbered number copy.spool

    abbrev pub restored : History
    restored = put_back number copy history

    abbrev kept : IsSpool history copy
    kept = a_copy history copy may.kept

    not_below : (other : Copy) → Contains history.copies other → other.spool.next ≤ back.next
    not_below other there = All-contains (λ (one : Copy). one.spool.next ≤ (renumbered number copy.spool).next) history.copies other may.copies there

    queued_back : (parcel : Parcel) → IsQueued crossing world parcel → IsQueued crossing restored.world parcel
    queued_back parcel queued = record { handed = queued.handed; there = queued.there; of = queued.of }

    -- what is done stays so, if its number isn't given again
    done_restored : (job : Job) → job.number < back.next → IsDone crossing history job → IsDone crossing restored job
    done_restored job less (inl killed) = inr (inl (in_filter (λ n. nat_lt n (renumbered number copy.spool).next) (world.killed ++ history.given_up) job.number
        (Contains-append_left world.killed history.given_up job.number killed) (grind (arith, nat_tests))))
    done_restored job less (inr (inl killed)) = inr (inl (in_filter (λ n. nat_lt n (renumbered number copy.spool).next) (world.killed ++ history.given_up) job.number
        (Contains-append_right world.killed history.given_up job.number killed) (grind (arith, nat_tests))))
    done_restored job less (inr (inr queued)) = inr (inr (queued_back (parcel_of job) queued))

    pub known_copy : (job : Job) (other : Copy) → IsKnown crossing world job other → IsKnown crossing restored.world job other
    known_copy job other it = known_on crossing world restored.world job other (queued_back (parcel_of job)) it

    -- what is known to the copy is known to what is put back
    pub known_restored : (job : Job) → IsKnown crossing world job copy → IsKnown crossing restored.world job (present restored)
    known_restored job it = let on = known_copy job copy it in record { given = omega (arith, it.given); has = on.has }

    low_in : (other : Copy) → Contains history.copies other → (job : Job) → Contains other.spool.jobs job → job.number < other.spool.next
    low_in other there job inside = All-contains (λ (j : Job). j.number < other.spool.next) other.spool.jobs job (h.order other there).below_next inside

    order_back : IsInOrder back
    order_back = let o = h.order copy may.kept in record {
      rising = o.rising;
      below_next = All-weaker (λ (j : Job). j.number < copy.spool.next) (λ (j : Job). j.number < (renumbered number copy.spool).next) (λ j l. omega (arith, l)) copy.spool.jobs o.below_next;
      by_name = o.by_name;
      by_host = o.by_host;
      by_link = o.by_link;
    }

    holds_back : Holds crossing (silent restored.world)
    holds_back = record {
      sender_order = order_back;
      receiver_order = h.holds.receiver_order;
      shown = λ parcel there. record {
        used = All-contains (λ (p : Parcel). p.number < (renumbered number copy.spool).next) world.shown parcel may.above there;
        same = λ job inside same. h.shown copy kept parcel job there inside same;
      };
      taken = λ row there. let was = h.holds.taken row there in record { number = was.number; parcel = was.parcel; shown = was.shown; of = was.of; mark = was.mark };
      handed = h.holds.handed;
      made = h.holds.made;
      once = h.holds.once;
      rising = h.holds.rising;
      below_next = h.holds.below_next;
      answered = h.holds.answered;
      said = All-nil (IsLeast crossing back);
      heard = λ e. absurd (cc);
    }

    newest : history.is_newest && is_the_newest history.copies copy ≡ true → (other : Copy) → Contains history.copies other → other.spool.next ≤ copy.spool.next
    newest e other there =
        let t : nat_le other.spool.next copy.spool.next ≡ true = each_passes (λ (one : Copy). nat_le one.spool.next copy.spool.next) history.copies (and_second history.is_newest (is_the_newest history.copies copy) e) other there in
        grind (arith, nat_tests)

    pub after_back : Lives crossing (put_back number copy history)
    after_back = record {
      holds = holds_back;
      one = h.one;
      order = h.order;
      next = not_below;
      alike = by_two restored (λ (one other : Copy). AreAlike one.spool other.spool)
          (h.alike copy copy kept kept)
          (λ other there. h.alike copy other kept (a_copy history other there))
          (λ other there. h.alike other copy (a_copy history other there) kept)
          (λ one other there inside. h.alike one other (a_copy history one there) (a_copy history other inside));
      shown = by_spool restored (λ (one : Copy). AreShown world.shown one.spool) (h.shown copy kept) (λ other there. h.shown other (a_copy history other there));
      killed = by_spool restored (λ (one : Copy). (killed : ℕ) → Contains one.killed killed → killed < one.spool.next)
          (λ n there. let l = h.killed copy kept n there in omega (arith, l))
          (λ other there. h.killed other (a_copy history other there));
      said = λ below there. All-contains (λ b. b ≤ (renumbered number copy.spool).next) world.said below may.said there;
      heard = h.heard;
      known = λ e. by_two restored (Knows crossing restored.world)
          (own_known crossing restored.world (present restored))
          (λ other there job inside own given. known_copy job other (h.known (was e) copy other kept (a_copy history other there) job inside own given))
          (λ other there job inside own given. known_restored job (h.known (was e) other copy (a_copy history other there) kept job inside own (let l = low_in other there job inside in let m = newest e other there in omega (arith, l, m))))
          (λ one other there also job inside own given. known_copy job other (h.known (was e) one other (a_copy history one there) (a_copy history other also) job inside own given));
      behind = λ e. by_spool restored (AreBehind crossing restored)
          (λ job below inside own said less. done_restored job (let l = low_in copy may.kept job inside in omega (arith, l)) (h.behind (was e) copy kept job below inside own said less))
          (λ other there job below inside own said less. done_restored job (let l = low_in other there job inside in let m = not_below other there in omega (arith, l, m))
          (h.behind (was e) other (a_copy history other there) job below inside own said less));
    }
      where
        was : history.is_newest && is_the_newest history.copies copy ≡ true → history.is_newest ≡ true
        was e = and_first history.is_newest (is_the_newest history.copies copy) e
