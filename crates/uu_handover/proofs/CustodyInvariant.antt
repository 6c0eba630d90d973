-- The invariant of two spools and a wire.
use Rattle.std.proofs.Common.{◌≡◌, ℕ, ◌+◌, ◌<◌, ◌≤◌, Bool, true, false, not, cond, leb, ltb, ◌&&◌, ◌||◌, List, [], ◌∷◌, ◌++◌, map, filter, All, AllPairs, Contains, refl, ap, sym, ◌∙◌, subst, arith, inl, inr, ◌⊎◌}
use Rattle.std.specs.List.{list_any}
use Rattle.std.specs.Cmp.Lexicographic.{bytes_decides}
use Rattle.std.proofs.lemmas.Bool.{leb-true, le-leb}
use Rattle.std.proofs.lemmas.Bool.Decides.{nat_tests}
use Rattle.std.proofs.lemmas.List.{append-nil}
use Rattle.std.proofs.lemmas.List.Elements.{All-push, All-weaker, All-contains, Contains-append_left, Contains-append_right, Contains-append_cases, Contains-push_cases, filter-append}
use Rattle.uu_names.proofs.Basics.{first_of, later_of, first_or_later, in_filter, from_filter, passing_one, filter_none, and_first, and_second, all_from}
use Rattle.uu_core.proofs.RunLemmas.{next-after}
use Rattle.uu_core.specs.declared.command.Command.{Command}
use Rattle.uu_core.specs.declared.command.Command.TheVariants.{Forget}
use Rattle.uu_core.specs.declared.command.Reply.{Reply}
use Rattle.uu_core.specs.declared.command.Reply.TheVariants.{Number, Refused}
use Rattle.uu_core.specs.declared.custody.HandIn.TheVariants.{First}
use Rattle.uu_core.specs.declared.custody.Taken.{Taken}
use Rattle.uu_core.specs.declared.job.NewJob.{NewJob}
use Rattle.uu_core.specs.declared.refusal.Refusal.{Refusal}
use Rattle.uu_core.specs.State.{State, Job, Link, same_text, link_of}
use Rattle.uu_core.specs.After.{after, job_of, with_job, with_taken, forgotten, with_job_once}
use Rattle.uu_core.specs.Order.{IsInOrder}
use Rattle.uu_handover.specs.Custody.{Parcel, parcel_of, Crossing, key_of, Handed, World, IsLeast, HasTaken, is_of_others, handed_for, added, answer_to, was_said, go, IsHandedFor}
use Rattle.uu_handover.specs.Custody.Step.{SenderRuns, SenderShows, SenderSays, ReceiverRuns, ReceiverTells}
use Rattle.uu_core.proofs.LinkLemmas.{link_own, taken_says, name_is}
use Rattle.uu_core.proofs.WellFormedLemmas.{pairs_push}
use Rattle.uu_core.proofs.OrderLemmas.{still_in_order}
use Rattle.uu_handover.proofs.CustodyLemmas.{IsShown, LinkAfter, still_shown, shown_now, still_least, least_below, least_both, link_after}

-- ---- the invariant

-- what is kept of the sender
abbrev pub kept_of : Crossing → World → Link
kept_of crossing world = link_of world.receiver crossing.from

-- a number was handed in
pub record IsIn (handed : List Handed) (number : ℕ) : Type 0 where
  pub it : Handed
  pub there : Contains handed it
  pub is : it.number ≡ number

-- what was taken was handed in, for a parcel with its mark
pub record IsTakenRightly (crossing : Crossing) (world : World) (row : Taken) : Type 0 where
  pub number : IsIn world.handed row.number
  pub parcel : Parcel
  pub shown : Contains world.shown parcel
  pub of : parcel.number ≡ row.number
  pub mark : row.mark ≡ crossing.mark parcel

-- what was handed in is kept as taken, or the sender won't ask for it again
abbrev pub IsRemembered : Link → Handed → Type 0
IsRemembered link it = (it.number < link.below) ⊎ ((row : Taken) × Contains link.taken row × (row.number ≡ it.number))

-- it was handed in for a parcel that was shown
abbrev pub IsMade : Crossing → List Parcel → Handed → Type 0
IsMade crossing shown it = (parcel : Parcel) × Contains shown parcel × IsHandedFor crossing parcel it

pub record Holds (crossing : Crossing) (world : World) : Type 0 where
  pub sender_order : IsInOrder world.sender
  pub receiver_order : IsInOrder world.receiver
  pub shown : (parcel : Parcel) → Contains world.shown parcel → IsShown world.sender parcel
  pub taken : (row : Taken) → Contains (kept_of crossing world).taken row → IsTakenRightly crossing world row
  pub handed : (it : Handed) → Contains world.handed it → IsRemembered (kept_of crossing world) it
  pub made : (it : Handed) → Contains world.handed it → IsMade crossing world.shown it
  pub once : AllPairs (λ (one other : Handed). ¬ (one.number ≡ other.number)) world.handed
  pub rising : AllPairs (λ (one other : Handed). one.job.number < other.job.number) world.handed
  pub below_next : All (λ (it : Handed). it.job.number < world.receiver.next) world.handed
  pub answered : (number : ℕ) → Contains world.answered number → IsIn world.handed number
  pub said : All (IsLeast crossing world.sender) world.said
  pub heard : world.is_heard ≡ true → IsLeast crossing world.sender (kept_of crossing world).below

-- ---- what the receiver may forget

-- what it forgets of the sender is not above everything that the sender said
pub said_above : (crossing : Crossing) (world : World) (system : List ℕ) (below : ℕ) → system ≡ crossing.from → was_said crossing world (Forget system below) ≡ true → (said : ℕ) × Contains world.said said × (below ≤ said)
said_above crossing world system below own e =
    let one = passing_one (λ said. leb below said) world.said (second (same_text system crossing.from) (list_any (λ said. leb below said) world.said) ((bytes_decides system crossing.from).1 own) e) in
    (one.0, one.1, leb-true below one.0 one.2)
  where
    second : (a b : Bool) → a ≡ true → not a || b ≡ true → b ≡ true
    second true b e f = f
    second false b e f = absurd (cc)

-- ---- the sender's steps

module _ (crossing : Crossing) (world : World) (h : Holds crossing world) where
  pub after_sender : (command : Command) → Holds crossing (go crossing world (SenderRuns command))
  after_sender command = record {
    sender_order = still_in_order world.sender command h.sender_order;
    receiver_order = h.receiver_order;
    shown = λ parcel there. still_shown world.sender command parcel (h.shown parcel there);
    taken = λ row there. let was = h.taken row there in record { number = was.number; parcel = was.parcel; shown = was.shown; of = was.of; mark = was.mark };
    handed = h.handed;
    made = h.made;
    once = h.once;
    rising = h.rising;
    below_next = h.below_next;
    answered = h.answered;
    said = All-weaker (IsLeast crossing world.sender) (IsLeast crossing (after world.sender command).0) (λ below l. still_least crossing world.sender command below l) world.said h.said;
    heard = λ e. still_least crossing world.sender command (kept_of crossing world).below (h.heard e);
  }

  pub after_show : (job : Job) → Contains world.sender.jobs job → Holds crossing (go crossing world (SenderShows job))
  after_show job inside = record {
    sender_order = h.sender_order;
    receiver_order = h.receiver_order;
    shown = λ parcel there. elim (Contains-push_cases world.shown (parcel_of job) parcel there) [
      | inl before ↦ h.shown parcel before
      | inr new ↦ subst (IsShown world.sender) new (shown_now world.sender job h.sender_order inside)
    ];
    taken = λ row there. let was = h.taken row there in record { number = was.number; parcel = was.parcel; shown = Contains-append_left world.shown (parcel_of job ∷ []) was.parcel was.shown; of = was.of; mark = was.mark };
    handed = h.handed;
    made = λ it there. let m = h.made it there in (m.0, Contains-append_left world.shown (parcel_of job ∷ []) m.0 m.1, m.2);
    once = h.once;
    rising = h.rising;
    below_next = h.below_next;
    answered = h.answered;
    said = h.said;
    heard = h.heard;
  }

  pub after_say : (below : ℕ) → IsLeast crossing world.sender below → Holds crossing (go crossing world (SenderSays below))
  after_say below least = record {
    sender_order = h.sender_order;
    receiver_order = h.receiver_order;
    shown = h.shown;
    taken = λ row there. let was = h.taken row there in record { number = was.number; parcel = was.parcel; shown = was.shown; of = was.of; mark = was.mark };
    handed = h.handed;
    made = h.made;
    once = h.once;
    rising = h.rising;
    below_next = h.below_next;
    answered = h.answered;
    said = All-push (IsLeast crossing world.sender) world.said below h.said least;
    heard = h.heard;
  }

  -- ---- the receiver's other commands

  -- the receiver's spool changes, and its link keeps what it has to
  moved : (receiver : State) (heard : Bool) → IsInOrder receiver → world.receiver.next ≤ receiver.next
      → ((row : Taken) → Contains (link_of receiver crossing.from).taken row → Contains (kept_of crossing world).taken row)
      → ((it : Handed) → IsRemembered (kept_of crossing world) it → IsRemembered (link_of receiver crossing.from) it)
      → (heard ≡ true → IsLeast crossing world.sender (link_of receiver crossing.from).below)
      → Holds crossing (record world { receiver = receiver; is_heard = heard })
  moved receiver heard order up fewer still least = record {
    sender_order = h.sender_order;
    receiver_order = order;
    shown = h.shown;
    taken = λ row there. let was = h.taken row (fewer row there) in record { number = was.number; parcel = was.parcel; shown = was.shown; of = was.of; mark = was.mark };
    handed = λ it there. still it (h.handed it there);
    made = h.made;
    once = h.once;
    rising = h.rising;
    below_next = All-weaker (λ (it : Handed). it.job.number < world.receiver.next) (λ (it : Handed). it.job.number < receiver.next) (λ it l. omega (arith, l, up)) world.handed h.below_next;
    answered = h.answered;
    said = h.said;
    heard = least;
  }

  pub after_receiver : (command : Command) → is_of_others crossing command ≡ true → Holds crossing (go crossing world (ReceiverRuns command))
  after_receiver command free = by-link (link_after crossing world.receiver command free)
    where
      order : IsInOrder (after world.receiver command).0
      order = still_in_order world.receiver command h.receiver_order

      by-link : LinkAfter crossing.from world.receiver command (link_of (after world.receiver command).0 crossing.from) → Holds crossing (go crossing world (ReceiverRuns command))
      by-link (inl same) = moved (after world.receiver command).0 (world.is_heard && was_said crossing world command) order (next-after world.receiver command)
          (λ row there. subst (λ (l : Link). Contains l.taken row) same there)
          (λ it was. subst (λ (l : Link). IsRemembered l it) (sym same) was)
          (λ e. subst (λ (l : Link). IsLeast crossing world.sender l.below) (sym same) (h.heard (and_first world.is_heard (was_said crossing world command) e)))
      by-link (inr (below, system, is, own, same)) = moved (after world.receiver command).0 (world.is_heard && was_said crossing world command) order (next-after world.receiver command)
          (λ row there. (from_filter (λ (r : Taken). leb below r.number) (kept_of crossing world).taken row (subst (λ (l : Link). Contains l.taken row) same there)).0)
          (λ it was. subst (λ (l : Link). IsRemembered l it) (sym same) (less it was))
          (λ e. subst (λ (l : Link). IsLeast crossing world.sender l.below) (sym same) (least_both crossing world.sender (kept_of crossing world).below below (h.heard (and_first world.is_heard (was_said crossing world command) e)) (told (and_second world.is_heard (was_said crossing world command) e))))
        where
          less : (it : Handed) → IsRemembered (kept_of crossing world) it → IsRemembered (forgotten below (kept_of crossing world)) it
          less it (inl small) = inl (omega (arith, small))
          less it (inr (row, there, number)) = by-test (leb below row.number) refl
            where
              by-test : (t : Bool) → leb below row.number ≡ t → IsRemembered (forgotten below (kept_of crossing world)) it
              by-test true e = inr (row, in_filter (λ (r : Taken). leb below r.number) (kept_of crossing world).taken row there e, number)
              by-test false e = inl (let l : row.number < below = grind (arith, nat_tests) in omega (arith, l, number))

          told : was_said crossing world command ≡ true → IsLeast crossing world.sender below
          told e =
              let one = said_above crossing world system below own (subst (λ c. was_said crossing world c ≡ true) is e) in
              least_below crossing world.sender below one.0 one.2 (All-contains (IsLeast crossing world.sender) world.said one.0 h.said one.1)

  -- ---- the receiver tells what it has

  -- what is kept as taken was handed in
  pub was_in : (number : ℕ) → HasTaken crossing world.receiver number → IsIn world.handed number
  was_in number has = subst (IsIn world.handed) has.is (h.taken has.row has.there).number

  pub after_tell : (number : ℕ) → HasTaken crossing world.receiver number → Holds crossing (go crossing world (ReceiverTells number))
  after_tell number has = record {
    sender_order = h.sender_order;
    receiver_order = h.receiver_order;
    shown = h.shown;
    taken = λ row there. let was = h.taken row there in record { number = was.number; parcel = was.parcel; shown = was.shown; of = was.of; mark = was.mark };
    handed = h.handed;
    made = h.made;
    once = h.once;
    rising = h.rising;
    below_next = h.below_next;
    answered = λ n there. elim (Contains-push_cases world.answered number n there) [
      | inl before ↦ h.answered n before
      | inr same ↦ subst (IsIn world.handed) same (was_in number has)
    ];
    said = h.said;
    heard = h.heard;
  }

  -- ---- the receiver takes a parcel

  -- what an answer makes of the world
  abbrev pub answering : Parcel → State × Reply → World
  answering parcel then =
      record world {
        receiver = then.0;
        answered = world.answered ++ answer_to parcel then.1;
        handed = world.handed ++ map (handed_for parcel) (added world.receiver then.0);
      }

  -- no job of a state has a number that it hasn't used
  none-added : added world.receiver world.receiver ≡ []
  none-added = filter_none (λ (job : Job). leb world.receiver.next job.number) world.receiver.jobs
      (All-weaker (λ (job : Job). job.number < world.receiver.next) (λ (job : Job). leb world.receiver.next job.number ≡ false) (λ job l. below job.number l) world.receiver.jobs h.receiver_order.below_next)
    where
      below : (n : ℕ) → n < world.receiver.next → leb world.receiver.next n ≡ false
      below n l = grind (arith, nat_tests)

  pub one_added : (new : NewJob) → added world.receiver (with_job new world.receiver) ≡ job_of world.receiver.next new ∷ []
  one_added new =
      filter-append (λ (job : Job). leb world.receiver.next job.number) world.receiver.jobs (job_of world.receiver.next new ∷ [])
      ∙ ap (λ l. l ++ filter (λ (job : Job). leb world.receiver.next job.number) (job_of world.receiver.next new ∷ [])) none-added
      ∙ ap (λ t. cond t (job_of world.receiver.next new ∷ []) []) (le-leb world.receiver.next world.receiver.next (omega arith))

  nothing-more : (parcel : Parcel) → world.handed ++ map (handed_for parcel) (added world.receiver world.receiver) ≡ world.handed
  nothing-more parcel =
      ap (λ (l : List Job). world.handed ++ map (handed_for parcel) l) none-added ∙ append-nil world.handed

  -- refused: nothing changes
  pub take_refused : (parcel : Parcel) (refusal : Refusal) → answering parcel (world.receiver, Refused refusal) ≡ world
  take_refused parcel refusal = ap (λ a. record world { answered = a; handed = world.handed ++ map (handed_for parcel) (added world.receiver world.receiver) }) (append-nil world.answered)
      ∙ ap (λ l. record world { handed = l }) (nothing-more parcel)

  -- again: the number is answered that it got
  pub take_again : (parcel : Parcel) (number : ℕ) → IsIn world.handed parcel.number → Holds crossing (answering parcel (world.receiver, Number number))
  take_again parcel number known = subst (Holds crossing) (sym (ap (λ l. record world { answered = world.answered ++ parcel.number ∷ []; handed = l }) (nothing-more parcel))) (record {
    sender_order = h.sender_order;
    receiver_order = h.receiver_order;
    shown = h.shown;
    taken = λ row there. let was = h.taken row there in record { number = was.number; parcel = was.parcel; shown = was.shown; of = was.of; mark = was.mark };
    handed = h.handed;
    made = h.made;
    once = h.once;
    rising = h.rising;
    below_next = h.below_next;
    answered = λ n there. elim (Contains-push_cases world.answered parcel.number n there) [
      | inl before ↦ h.answered n before
      | inr same ↦ subst (IsIn world.handed) same known
    ];
    said = h.said;
    heard = h.heard;
  })

  -- for the first time: it is queued, and its key is kept
  module _ (parcel : Parcel) (new : NewJob) (inside : Contains world.shown parcel) (made : crossing.makes parcel new ≡ true) where
    abbrev pub row : Taken
    row = record { number = parcel.number; mark = crossing.mark parcel; job = world.receiver.next }

    abbrev pub item : Handed
    item = record { number = parcel.number; job = job_of world.receiver.next new }

    abbrev pub then : State
    then = with_job_once (First world.receiver.next) (key_of crossing parcel) new world.receiver

    abbrev pub world-then : World
    world-then = record world { receiver = then; answered = world.answered ++ parcel.number ∷ []; handed = world.handed ++ item ∷ [] }

    link_then : link_of then crossing.from ≡ with_taken row (kept_of crossing world)
    link_then =
        link_own (with_job new world.receiver) crossing.from (with_taken row (kept_of crossing world)) (name_is world.receiver crossing.from)
        (λ silent. absurd (taken_says row (kept_of crossing world) silent))

    -- what is taken then: this one, and what was
    in_taken : (other : Taken) → Contains (with_taken row (kept_of crossing world)).taken other → (other ≡ row) ⊎ Contains (kept_of crossing world).taken other
    in_taken other there = elim (Contains-append_cases before (row ∷ behind) other there) [
      | inl first ↦ inr (from_filter (λ (r : Taken). ltb r.number row.number) (kept_of crossing world).taken other first).0
      | inr rest ↦ (elim (first_or_later row other behind rest) [
        | inl same ↦ inl (sym same)
        | inr later ↦ inr (from_filter (λ (r : Taken). ltb row.number r.number) (kept_of crossing world).taken other later).0
      ])
    ]
      where
        before : List Taken
        before = filter (λ (r : Taken). ltb r.number row.number) (kept_of crossing world).taken

        behind : List Taken
        behind = filter (λ (r : Taken). ltb row.number r.number) (kept_of crossing world).taken

    abbrev pub more : List Handed
    more = world.handed ++ item ∷ []

    still_in : (number : ℕ) → IsIn world.handed number → IsIn more number
    still_in number was = record { it = was.it; there = Contains-append_left world.handed (item ∷ []) was.it was.there; is = was.is }

    now_in : IsIn more parcel.number
    now_in = record { it = item; there = Contains-append_right world.handed (item ∷ []) item (first_of item []); is = refl }

    module _ (order : IsInOrder then) (low : (kept_of crossing world).below ≤ parcel.number) (fresh : (other : Taken) → Contains (kept_of crossing world).taken other → other.number ≡ parcel.number → ⊥) where
      -- what was taken stays so
      still_taken : (other : Taken) → Contains (kept_of crossing world).taken other → Contains (with_taken row (kept_of crossing world)).taken other
      still_taken other there = by-test (ltb other.number row.number) (ltb row.number other.number) refl refl
        where
          before : List Taken
          before = filter (λ (r : Taken). ltb r.number row.number) (kept_of crossing world).taken

          behind : List Taken
          behind = filter (λ (r : Taken). ltb row.number r.number) (kept_of crossing world).taken

          by-test : (s t : Bool) → ltb other.number row.number ≡ s → ltb row.number other.number ≡ t → Contains (before ++ row ∷ behind) other
          by-test true t e f = Contains-append_left before (row ∷ behind) other (in_filter (λ (r : Taken). ltb r.number row.number) (kept_of crossing world).taken other there e)
          by-test false true e f = Contains-append_right before (row ∷ behind) other (later_of row other behind (in_filter (λ (r : Taken). ltb row.number r.number) (kept_of crossing world).taken other there f))
          by-test false false e f = absurd (fresh other there (same other.number row.number e f))
            where
              same : (a b : ℕ) → ltb a b ≡ false → ltb b a ≡ false → a ≡ b
              same a b e f = grind (arith, nat_tests)

      still_remembered : (it : Handed) → IsRemembered (kept_of crossing world) it → IsRemembered (with_taken row (kept_of crossing world)) it
      still_remembered it (inl small) = inl small
      still_remembered it (inr (other, there, number)) = inr (other, still_taken other there, number)

      now_remembered : IsRemembered (with_taken row (kept_of crossing world)) item
      now_remembered = inr (
        row,
        Contains-append_right (filter (λ (r : Taken). ltb r.number row.number) (kept_of crossing world).taken) (row ∷ filter (λ (r : Taken). ltb row.number r.number) (kept_of crossing world).taken) row (first_of row _),
        refl,
      )

      new_number : (it : Handed) → Contains world.handed it → ¬ (it.number ≡ item.number)
      new_number it there = by_remembered (h.handed it there)
        where
          by_remembered : IsRemembered (kept_of crossing world) it → ¬ (it.number ≡ item.number)
          by_remembered (inl small) = λ same. omega (arith, small, low, same)
          by_remembered (inr (other, taken, number)) = λ same. fresh other taken (number ∙ same)

      rightly : (other : Taken) → (other ≡ row) ⊎ Contains (kept_of crossing world).taken other → IsTakenRightly crossing world-then other
      rightly other (inl same) = subst (IsTakenRightly crossing world-then) (sym same) (record { number = now_in; parcel = parcel; shown = inside; of = refl; mark = refl })
      rightly other (inr was_there) = let was = h.taken other was_there in record { number = still_in other.number was.number; parcel = was.parcel; shown = was.shown; of = was.of; mark = was.mark }

      pub take-first : Holds crossing world-then
      take-first = record {
        sender_order = h.sender_order;
        receiver_order = order;
        shown = h.shown;
        taken = λ other there. rightly other (in_taken other (subst (λ (l : Link). Contains l.taken other) link_then there));
        handed = λ it there. subst (λ (l : Link). IsRemembered l it) (sym link_then) (elim (Contains-push_cases world.handed item it there) [
          | inl before ↦ still_remembered it (h.handed it before)
          | inr same ↦ subst (IsRemembered (with_taken row (kept_of crossing world))) same now_remembered
        ]);
        made = λ it there. elim (Contains-push_cases world.handed item it there) [
          | inl before ↦ h.made it before
          | inr same ↦ subst (IsMade crossing world.shown) same (parcel, inside, record { number = refl; new = new; made = made; job_is = refl })
        ];
        once = pairs_push (λ (one other : Handed). ¬ (one.number ≡ other.number)) world.handed item (all_from (λ (it : Handed). ¬ (it.number ≡ item.number)) world.handed new_number) h.once;
        rising = pairs_push (λ (one other : Handed). one.job.number < other.job.number) world.handed item h.below_next h.rising;
        below_next = All-push (λ (it : Handed). it.job.number < world.receiver.next + 1) world.handed item (All-weaker (λ (it : Handed). it.job.number < world.receiver.next) (λ (it : Handed). it.job.number < world.receiver.next + 1) (λ it l. omega (arith, l)) world.handed h.below_next) (omega arith);
        answered = λ n there. elim (Contains-push_cases world.answered parcel.number n there) [
          | inl before ↦ still_in n (h.answered n before)
          | inr same ↦ subst (IsIn more) same now_in
        ];
        said = h.said;
        heard = λ e. subst (λ (l : Link). IsLeast crossing world.sender l.below) (sym link_then) (h.heard e);
      }
