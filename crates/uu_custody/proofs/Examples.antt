-- A letter that crosses, as computed. Its receiver is stopped with the letter in hand, the sender
-- asks again, and the sender is stopped too.
use Rattle.std.proofs.Common.{◌≡◌, inl, inr, ℕ, ◌+◌, ◌==◌, cond, List, [], ◌∷◌, length, codes, Some, None, Contains, refl, arith}
use Rattle.std.proofs.lemmas.List.Elements.{All-nil, All-cons}
use Rattle.uu_times.specs.declared.moment.Moment.{Moment}
use Rattle.uu_times.specs.System.{System}
use Rattle.uu_core.specs.declared.command.Command.{Command}
use Rattle.uu_core.specs.declared.command.Command.TheVariants.{Define, Remove, Queue, QueueOnce, Done, Forget}
use Rattle.uu_core.specs.declared.command.Reply.TheVariants.{Done as Carried, Number}
use Rattle.uu_core.specs.declared.job.Kind.TheVariants.{Execute}
use Rattle.uu_core.specs.declared.job.NewJob.{NewJob}
use Rattle.uu_core.specs.State.{State, empty, link_of, new_link, same_text}
use Rattle.uu_core.specs.After.{job_of}
use Rattle.uu_core.specs.Laws.{IsSameJob}
use Rattle.uu_core.specs.Run.{state_after}
use Rattle.uu_handover.specs.Custody.{Crossing, Parcel, parcel_of, key_of}
use Rattle.uu_handover.specs.Network.{Chart}
use Rattle.uu_schema.specs.declared.fault.StoreFault.TheVariants.{Store}
use Rattle.uu_schema.specs.declared.fault.StoreKind.TheVariants.{Disk}
use Rattle.uu_store.specs.Exchanges.{given, Passes}
use Rattle.uu_custody.specs.Events.{Event, sender, receiver, waits, no_more, answered, stopped, noticed, Wire, Noted, IsTrueOf, sessions_at, exchanges_at, PassesTruly, MayBeGiven, KeepsToWire, nothing_sent, ForgetsWhatWasSaid}
use Rattle.uu_custody.specs.Handovers.{handed_in}
use Rattle.uu_custody.specs.Routes.{Course, IsOnItsWay}

module _ (monday tuesday : Moment) where
  abbrev system : List ℕ → System
  system name = record { name = name; lines = []; max_retries = 26; success_wait = 0 }

  -- a letter to joe at unc, and what duke makes of it
  abbrev pub letter : NewJob
  letter = record { system = codes "duke"; grade = 23; user = codes "ann"; kind = Execute (codes "rmail") (codes "unc!joe" ∷ []); bytes = codes "Hello"; at = monday }

  abbrev pub forwarded : Moment → NewJob
  forwarded at = record { system = codes "unc"; grade = 23; user = codes "ann"; kind = Execute (codes "rmail") (codes "joe" ∷ []); bytes = codes "Hello"; at = at }

  abbrev pub mysite : State
  mysite = state_after empty (Define (system (codes "duke")) ∷ Queue letter ∷ [])

  abbrev pub duke : State
  duke = state_after empty (Define (system (codes "mysite")) ∷ Define (system (codes "unc")) ∷ [])

  abbrev pub crossing : Crossing
  crossing = record { from = codes "mysite"; to = codes "duke"; mark = λ parcel. length parcel.bytes; makes = λ parcel new. same_text new.bytes parcel.bytes }

  abbrev pub parcel : Parcel
  parcel = parcel_of (job_of 1 letter)

  abbrev pub handing : Moment → Command
  handing at = QueueOnce (key_of crossing parcel) (forwarded at)

  abbrev pub report : Command
  report = Done (codes "duke") tuesday (1 ∷ [])

  -- duke's store fails while the letter is in hand, and mysite's as it is to report it as gone
  abbrev events : List Event
  events =
      noticed (waits parcel) ∷ stopped receiver 1 (handing monday ∷ []) (given (Some (Store Disk))) ∷ answered receiver (handing tuesday) (Number 1)
      ∷ stopped sender 1 (report ∷ []) (given (Some (Store Disk))) ∷ answered sender report Carried ∷ stopped sender 1 [] (given None) ∷ stopped receiver 1 [] (given None) ∷ []

  abbrev IsTrueThen : Noted → Type 0
  IsTrueThen note = IsTrueOf crossing (state_after mysite note.answered) note.notice

  -- the notice was true, and duke carried out what it had in hand, while mysite did not
  true_and_counted : PassesTruly crossing mysite (sessions_at sender events) (report ∷ [])
  true_and_counted = (
    [],
    report ∷ [],
    refl,
    record { rest = report ∷ []; prefix = refl; unheard = []; whole = inl refl; settled = λ loose. refl; answers = refl },
    All-cons IsTrueThen (record { answered = []; notice = waits parcel }) [] (record { job = job_of 1 letter; there = (0, omega arith, refl); system = refl; is = refl }) (All-nil IsTrueThen),
    (report ∷ [], [], refl, record { rest = []; prefix = refl; unheard = []; whole = inl refl; settled = λ settled. refl; answers = refl }, All-nil IsTrueThen, refl),
  )

  counted : Passes duke (exchanges_at receiver events) (handing monday ∷ handing tuesday ∷ [])
  counted = (
    handing monday ∷ [],
    handing tuesday ∷ [],
    refl,
    record { rest = []; prefix = refl; unheard = Number 1 ∷ []; whole = inr refl; settled = λ settled. absurd settled; answers = refl },
    (handing tuesday ∷ [], [], refl, record { rest = []; prefix = refl; unheard = []; whole = inl refl; settled = λ settled. refl; answers = refl }, refl),
  )

  abbrev shown : Wire
  shown = record { parcels = parcel ∷ []; answers = []; said = [] }

  abbrev told : Wire
  told = record { parcels = parcel ∷ []; answers = 1 ∷ []; said = [] }

  from_wire : (at : Moment) → MayBeGiven crossing shown receiver (handing at)
  from_wire at = λ own. record { parcel = parcel; there = (0, omega arith, refl); key_is = refl; made = refl }

  was_answered : MayBeGiven crossing told sender report
  was_answered = λ own. All-cons (Contains (1 ∷ [])) 1 [] (0, omega arith, refl) (All-nil (Contains (1 ∷ [])))

  keeps : KeepsToWire crossing nothing_sent events
  keeps = (
    tt,
    (
      All-cons (MayBeGiven crossing shown receiver) (handing monday) [] (from_wire monday) (All-nil (MayBeGiven crossing shown receiver)),
      (
        from_wire tuesday,
        (
          All-cons (MayBeGiven crossing told sender) report [] was_answered (All-nil (MayBeGiven crossing told sender)),
          (
            was_answered,
            (All-nil (MayBeGiven crossing told sender), (All-nil (MayBeGiven crossing told receiver), tt)),
          ),
        ),
      ),
    ),
  )

  -- once mysite has said that it asks for none below 2, duke may forget these, and no sooner
  abbrev forgetting : Event
  forgetting = answered receiver (Forget (codes "mysite") 2) Carried

  it_was_said : ForgetsWhatWasSaid crossing told (noticed (no_more 2) ∷ forgetting ∷ [])
  it_was_said = (tt, (λ own. (2, (0, omega arith, refl), omega arith), tt))

  it_was_not_said : ForgetsWhatWasSaid crossing told (forgetting ∷ []) → ⊥
  it_was_not_said heard = omega (arith, (heard.0 refl).1.1)

  nothing_kept : link_of duke (codes "mysite") ≡ new_link (codes "mysite")
  nothing_kept = refl

  -- so it came once: duke queued it on Monday, and only answered on Tuesday
  it_came_once : (state_after duke (handing monday ∷ handing tuesday ∷ [])).jobs ≡ job_of 1 (forwarded monday) ∷ []
  it_came_once = refl

  it_was_handed_in_once : handed_in crossing duke (handing monday ∷ handing tuesday ∷ []) ≡ record { number = 1; job = job_of 1 (forwarded monday) } ∷ []
  it_was_handed_in_once = refl

  it_went : (state_after mysite (report ∷ [])).jobs ≡ []
  it_went = refl

  -- ---- histories that are refused

  -- a job is handed in only once it was shown
  it_was_never_shown : MayBeGiven crossing nothing_sent receiver (handing monday) → ⊥
  it_was_never_shown may = omega (arith, (may refl).there.1)

  -- and reported as gone only once it was answered, even if the report was in hand at a stop
  it_was_not_answered : MayBeGiven crossing shown sender report → ⊥
  it_was_not_answered may = omega (arith, (may refl 0 0 (omega arith)).1)

  it_was_in_hand : KeepsToWire crossing shown (stopped sender 1 (report ∷ []) (given (Some (Store Disk))) ∷ []) → ⊥
  it_was_in_hand keeps_to = it_was_not_answered (keeps_to.0 0 report (omega arith))

  -- the receiver doesn't drop the sender
  it_was_dropped : MayBeGiven crossing told receiver (Remove (codes "mysite")) → ⊥
  it_was_dropped may = may refl

  -- A job without a key is no job of the sender's, whatever it is made of: it comes as often as it is
  -- queued.
  it_had_no_key : handed_in crossing duke (Queue (forwarded monday) ∷ Queue (forwarded monday) ∷ []) ≡ []
  it_had_no_key = refl

  it_came_twice : (state_after duke (Queue (forwarded monday) ∷ Queue (forwarded monday) ∷ [])).jobs ≡ job_of 1 (forwarded monday) ∷ job_of 2 (forwarded monday) ∷ []
  it_came_twice = refl

  -- ---- a letter over two lines

  -- The first goes to duke, and the second from there to decvax.
  abbrev lines : Chart
  lines = record {
    begins = λ line. line;
    ends = λ line. line + 1;
    crossing = λ line. cond (line == 0) crossing (record { from = codes "duke"; to = codes "decvax"; mark = crossing.mark; makes = crossing.makes });
  }

  abbrev course : Course
  course = record { first = λ site. cond (site == 0) mysite duke; counted = λ site. cond (site == 0) (report ∷ []) (handing monday ∷ []) }

  -- duke queued the letter for unc, so it stays there
  it_stays : IsOnItsWay lines course 0 (0 ∷ 1 ∷ []) (job_of 1 letter)
  it_stays = inr (inr (inr (
    record { number = 1; job = job_of 1 (forwarded monday) },
    (0, omega arith, refl),
    record { number = refl; new = forwarded monday; made = refl; job_is = refl },
    inr (inr (inl ((λ same. cc), inl (record { later = job_of 1 (forwarded monday); there = (0, omega arith, refl); same = unchanged })))),
  )))
    where
      unchanged : IsSameJob (job_of 1 (forwarded monday)) (job_of 1 (forwarded monday))
      unchanged = record { number = refl; system = refl; user = refl; kind = refl; bytes = refl }
