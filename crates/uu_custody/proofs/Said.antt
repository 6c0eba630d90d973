-- What sites say in bundles is true of what their files keep.
use Rattle.std.proofs.Common.{◌≡◌, inl, inr, ℕ, Bool, true, false, cond, List, [], ◌∷◌, ◌++◌, map, All, Contains, refl, sym, ap, subst, ◌∙◌}
use Rattle.std.specs.Prelude.{⊤}
use Rattle.std.specs.Cmp.Lexicographic.{bytes_decides}
use Rattle.std.proofs.lemmas.List.Elements.{All-contains}
use Rattle.uu_names.proofs.Basics.{first_of, later_of, first_or_later, none_in, from_map, all_from, in_map}
use Rattle.sqlite.specs.Held.{state}
use Rattle.sqlite_wal.specs.Recovery.{Image}
use Rattle.uu_core.specs.declared.command.Command.{Command}
use Rattle.uu_core.specs.declared.command.Reply.{Reply}
use Rattle.uu_core.specs.State.{State, Job, IsWellFormed, empty, same_text}
use Rattle.uu_core.specs.Run.{state_after}
use Rattle.uu_handover.specs.Bundles.{Bundle, Told, Packed, packed_of, IsSaid}
use Rattle.uu_handover.specs.Custody.{Parcel, Crossing, World, MayGo, start}
use Rattle.uu_handover.specs.Custody.Step.{SenderShows, SenderSays, ReceiverTells}
use Rattle.uu_store.specs.Files.{FileStretch}
use Rattle.uu_custody.specs.Events.{Side, sender, receiver, is_at, Notice, waits, no_more, has, side_of, Event, noticed, Noted, Session, with_first, begin_answered, begin_noticed, ended, sessions_at, IsTrueOf, AreTrue}
use Rattle.uu_custody.specs.Spools.{WereShownInFiles}
use Rattle.uu_custody.specs.Carried.{Deed, runs, stops, says, notices_of, events_of, Saying, after_answer, sayings_at, IsSaidBy, WereSaidInFiles}
use Rattle.uu_custody.specs.Carried.{with_first as with_first_said}
use Rattle.uu_custody.proofs.Spools.{good_kept}

-- ---- the notices of a bundle

-- what the core says of bundles
abbrev pub MaySay : Type 0
MaySay = (crossing : Crossing) (world : World) (mark : Parcel → ℕ) (bundle : Bundle) (first : State) (commands : List Command) → IsWellFormed first → world.sender ≡ state_after first commands
    → IsSaid crossing.from crossing.to mark world.sender bundle → MayGo crossing world (SenderSays bundle.below)

abbrev pub MayShow : Type 0
MayShow = (crossing : Crossing) (world : World) (mark : Parcel → ℕ) (bundle : Bundle) (packed : Packed) → IsSaid crossing.from crossing.to mark world.sender bundle
    → Contains bundle.jobs packed → (job : Job) × MayGo crossing world (SenderShows job) × (packed ≡ packed_of mark job)

abbrev pub MayTell : Type 0
MayTell = (crossing : Crossing) (world : World) (mark : Parcel → ℕ) (bundle : Bundle) (told : Told) → IsSaid crossing.to crossing.from mark world.receiver bundle
    → Contains bundle.has told → MayGo crossing world (ReceiverTells told.number)

-- the name under which a site says its bundles
abbrev pub own_of : Crossing → Side → List ℕ
own_of crossing sender = crossing.from
own_of crossing receiver = crossing.to

module _ (may_say : MaySay) (may_show : MayShow) (may_tell : MayTell) where
  sender_true : (crossing : Crossing) (first : State) (commands : List Command) (bundle : Bundle) (notice : Notice) → IsWellFormed first → IsSaidBy crossing.from (state_after first commands) bundle
      → Contains (notices_of crossing sender bundle) notice → IsTrueOf crossing (state_after first commands) notice
  sender_true crossing first commands bundle notice good (mark, said) = by-test (same_text bundle.to crossing.to) refl
    where
      by-test : (t : Bool) → same_text bundle.to crossing.to ≡ t → Contains (cond t (no_more bundle.below ∷ map (λ (packed : Packed). waits packed.parcel) bundle.jobs) []) notice → IsTrueOf crossing (state_after first commands) notice
      by-test false e there = absurd (none_in notice there)
      by-test true e there =
          let own = subst (λ to. IsSaid crossing.from to mark (state_after first commands) bundle) ((bytes_decides bundle.to crossing.to).0 e) said in
          elim (first_or_later (no_more bundle.below) notice (map (λ (packed : Packed). waits packed.parcel) bundle.jobs) there) [
            | inl same ↦ subst (IsTrueOf crossing (state_after first commands)) same (may_say crossing (start (state_after first commands) (state_after first commands)) mark bundle first commands good refl own)
            | inr later ↦
                (let one = from_map (λ (packed : Packed). waits packed.parcel) bundle.jobs notice later in
                let it = may_show crossing (start (state_after first commands) (state_after first commands)) mark bundle one.0 own one.1 in
                subst (IsTrueOf crossing (state_after first commands)) one.2 (record { job = it.0; there = it.1.0; system = it.1.1; is = ap (λ (packed : Packed). packed.parcel) (sym it.2) }))
          ]

  receiver_true : (crossing : Crossing) (state : State) (bundle : Bundle) (notice : Notice) → IsSaidBy crossing.to state bundle → Contains (notices_of crossing receiver bundle) notice → IsTrueOf crossing state notice
  receiver_true crossing state bundle notice (mark, said) = by-test (same_text bundle.to crossing.from) refl
    where
      by-test : (t : Bool) → same_text bundle.to crossing.from ≡ t → Contains (cond t (map (λ (told : Told). has told.number) bundle.has) []) notice → IsTrueOf crossing state notice
      by-test false e there = absurd (none_in notice there)
      by-test true e there =
          let own = subst (λ to. IsSaid crossing.to to mark state bundle) ((bytes_decides bundle.to crossing.from).0 e) said in
          let one = from_map (λ (told : Told). has told.number) bundle.has notice there in
          subst (IsTrueOf crossing state) one.2 (may_tell crossing (start state state) mark bundle one.0 own one.1)

  pub notices_true : (crossing : Crossing) (site : Side) (first : State) (commands : List Command) (bundle : Bundle) (notice : Notice) → IsWellFormed first → IsSaidBy (own_of crossing site) (state_after first commands) bundle
      → Contains (notices_of crossing site bundle) notice → IsTrueOf crossing (state_after first commands) notice
  notices_true crossing sender first commands bundle notice good said there = sender_true crossing first commands bundle notice good said there
  notices_true crossing receiver first commands bundle notice good said there = receiver_true crossing (state_after first commands) bundle notice said there

-- ---- what is noted in a session was said in it

-- each note is of a bundle that was said then
abbrev AreOf : Crossing → Side → List Noted → List Saying → Type 0
AreOf crossing site noted sayings = (note : Noted) → Contains noted note → (saying : Saying) × Contains sayings saying × (note.answered ≡ saying.answered) × Contains (notices_of crossing site saying.bundle) note.notice

-- so is that of each session
abbrev Follow : Crossing → Side → List Session → List (List Saying) → Type 0
Follow crossing site [] said = ⊤
Follow crossing site (session ∷ sessions) [] = ⊥
Follow crossing site (session ∷ sessions) (sayings ∷ more) = AreOf crossing site session.noted sayings × Follow crossing site sessions more

module _ (crossing : Crossing) (site : Side) where
  abbrev Goes : List Session → List (List Saying) → Type 0
  Goes sessions said = Follow crossing site sessions said

  none-of : (sayings : List Saying) → AreOf crossing site [] sayings
  none-of sayings note there = absurd (none_in note there)

  follow_answer : (command : Command) (reply : Reply) (sessions : List Session) (said : List (List Saying)) → Goes sessions said → Goes (with_first (begin_answered command reply) sessions) (with_first_said (map (after_answer command)) said)
  follow_answer command reply [] [] f = (none-of [], tt)
  follow_answer command reply [] (sayings ∷ more) f = (none-of (map (after_answer command) sayings), tt)
  follow_answer command reply (session ∷ sessions) [] f = absurd f
  follow_answer command reply (session ∷ sessions) (sayings ∷ more) f = (later, f.1)
    where
      later : AreOf crossing site (map (λ (note : Noted). record note { answered = command ∷ note.answered }) session.noted) (map (after_answer command) sayings)
      later note there =
          let one = from_map (λ (n : Noted). record n { answered = command ∷ n.answered }) session.noted note there in
          let was = f.0 one.0 one.1 in (
            after_answer command was.0,
            in_map (after_answer command) sayings was.0 was.1,
            sym (ap (λ (n : Noted). n.answered) one.2) ∙ ap (λ l. command ∷ l) was.2,
            subst (λ (n : Noted). Contains (notices_of crossing site was.0.bundle) n.notice) one.2 was.3,
          )

  -- what a bundle tells may be noted, as often as you like
  module _ (bundle : Bundle) where
    abbrev saying : Saying
    saying = record { answered = []; bundle = bundle }

    abbrev behind : List Saying → List Saying
    behind sayings = record { answered = []; bundle = bundle } ∷ sayings

    one-more : (noted : List Noted) (sayings : List Saying) → AreOf crossing site noted sayings → AreOf crossing site noted (behind sayings)
    one-more noted sayings f note there = let was = f note there in (was.0, later_of saying was.0 sayings was.1, was.2, was.3)

    follow_saying : (sessions : List Session) (said : List (List Saying)) → Goes sessions said → Goes sessions (with_first_said behind said)
    follow_saying [] said f = tt
    follow_saying (session ∷ sessions) [] f = absurd f
    follow_saying (session ∷ sessions) (sayings ∷ more) f = (one-more session.noted sayings f.0, f.1)

    with_note : (notice : Notice) → Contains (notices_of crossing site bundle) notice → (noted : List Noted) (sayings : List Saying) → AreOf crossing site noted (behind sayings) → AreOf crossing site (record { answered = []; notice = notice } ∷ noted) (behind sayings)
    with_note notice told noted sayings f note there = elim (first_or_later (record { answered = []; notice = notice }) note noted there) [
      | inl same ↦ (saying, first_of saying sayings, sym (ap (λ (n : Noted). n.answered) same), subst (λ (n : Noted). Contains (notices_of crossing site bundle) n.notice) same told)
      | inr later ↦ f note later
    ]

    follow_notice : (notice : Notice) → Contains (notices_of crossing site bundle) notice → (sessions : List Session) (said : List (List Saying)) → Goes sessions (with_first_said behind said) → Goes (with_first (begin_noticed notice) sessions) (with_first_said behind said)
    follow_notice notice told [] [] f = (with_note notice told [] [] (none-of (behind [])), tt)
    follow_notice notice told [] (sayings ∷ more) f = (with_note notice told [] sayings (none-of (behind sayings)), tt)
    follow_notice notice told (session ∷ sessions) [] f = (with_note notice told session.noted [] f.0, f.1)
    follow_notice notice told (session ∷ sessions) (sayings ∷ more) f = (with_note notice told session.noted sayings f.0, f.1)

    follow_notices : (notices : List Notice) (events : List Event) (said : List (List Saying)) → ((notice : Notice) → Contains notices notice → Contains (notices_of crossing site bundle) notice)
        → Goes (sessions_at site events) (with_first_said behind said) → Goes (sessions_at site (map noticed notices ++ events)) (with_first_said behind said)
    follow_notices [] events said told f = f
    follow_notices (notice ∷ notices) events said told f = by_side (is_at site (side_of notice)) (follow_notices notices events said (λ other there. told other (later_of notice other notices there)) f)
      where
        by_side : (t : Bool) → Goes (sessions_at site (map noticed notices ++ events)) (with_first_said behind said)
            → Goes (cond t (with_first (begin_noticed notice) (sessions_at site (map noticed notices ++ events))) (sessions_at site (map noticed notices ++ events))) (with_first_said behind said)
        by_side true g = follow_notice notice (told notice (first_of notice notices)) (sessions_at site (map noticed notices ++ events)) said g
        by_side false g = g

-- the notices of the other site's bundles aren't this one's
pub sides : (crossing : Crossing) (site : Side) (bundle : Bundle) (notice : Notice) → Contains (notices_of crossing site bundle) notice → side_of notice ≡ site
sides crossing sender bundle notice = by-test (same_text bundle.to crossing.to)
  where
    by-test : (t : Bool) → Contains (cond t (no_more bundle.below ∷ map (λ (packed : Packed). waits packed.parcel) bundle.jobs) []) notice → side_of notice ≡ sender
    by-test false there = absurd (none_in notice there)
    by-test true there = elim (first_or_later (no_more bundle.below) notice (map (λ (packed : Packed). waits packed.parcel) bundle.jobs) there) [
      | inl same ↦ ap side_of (sym same)
      | inr later ↦ (let one = from_map (λ (packed : Packed). waits packed.parcel) bundle.jobs notice later in ap side_of (sym one.2))
    ]
sides crossing receiver bundle notice = by-test (same_text bundle.to crossing.from)
  where
    by-test : (t : Bool) → Contains (cond t (map (λ (told : Told). has told.number) bundle.has) []) notice → side_of notice ≡ receiver
    by-test false there = absurd (none_in notice there)
    by-test true there = let one = from_map (λ (told : Told). has told.number) bundle.has notice there in ap side_of (sym one.2)

pub not_here : (site : Side) (notices : List Notice) (events : List Event) → ((notice : Notice) → Contains notices notice → is_at site (side_of notice) ≡ false) → sessions_at site (map noticed notices ++ events) ≡ sessions_at site events
not_here site [] events other = refl
not_here site (notice ∷ notices) events other =
    ap (λ t. cond t (with_first (begin_noticed notice) (sessions_at site (map noticed notices ++ events))) (sessions_at site (map noticed notices ++ events))) (other notice (first_of notice notices))
    ∙ not_here site notices events (λ one there. other one (later_of notice one notices there))

is_site : (site there : Side) → is_at site there ≡ true → there ≡ site
is_site sender sender e = refl
is_site sender receiver e = absurd (cc)
is_site receiver sender e = absurd (cc)
is_site receiver receiver e = refl

follow : (crossing : Crossing) (site : Side) (deeds : List (Deed Side)) → Follow crossing site (sessions_at site (events_of crossing deeds)) (sayings_at (is_at site) deeds)
follow crossing site [] = tt
follow crossing site (runs there command reply ∷ deeds) = by-test (is_at site there) (follow crossing site deeds)
  where
    by-test : (t : Bool) → Follow crossing site (sessions_at site (events_of crossing deeds)) (sayings_at (is_at site) deeds)
        → Follow crossing site (cond t (with_first (begin_answered command reply) (sessions_at site (events_of crossing deeds))) (sessions_at site (events_of crossing deeds))) (cond t (with_first_said (map (after_answer command)) (sayings_at (is_at site) deeds)) (sayings_at (is_at site) deeds))
    by-test true f = follow_answer crossing site command reply (sessions_at site (events_of crossing deeds)) (sayings_at (is_at site) deeds) f
    by-test false f = f
follow crossing site (stops there in_hand unanswered ending ∷ deeds) = by-test (is_at site there) (follow crossing site deeds)
  where
    by-test : (t : Bool) → Follow crossing site (sessions_at site (events_of crossing deeds)) (sayings_at (is_at site) deeds)
        → Follow crossing site (cond t (ended in_hand unanswered ending ∷ sessions_at site (events_of crossing deeds)) (sessions_at site (events_of crossing deeds))) (cond t ([] ∷ sayings_at (is_at site) deeds) (sayings_at (is_at site) deeds))
    by-test true f = (none-of crossing site [], f)
    by-test false f = f
follow crossing site (says there bundle ∷ deeds) = by-test (is_at site there) refl (follow crossing site deeds)
  where
    by-test : (t : Bool) → is_at site there ≡ t → Follow crossing site (sessions_at site (events_of crossing deeds)) (sayings_at (is_at site) deeds)
        → Follow crossing site (sessions_at site (map noticed (notices_of crossing there bundle) ++ events_of crossing deeds)) (cond t (with_first_said (λ sayings. record { answered = []; bundle = bundle } ∷ sayings) (sayings_at (is_at site) deeds)) (sayings_at (is_at site) deeds))
    by-test true e f =
        follow_notices crossing site bundle (notices_of crossing there bundle) (events_of crossing deeds) (sayings_at (is_at site) deeds)
        (λ notice inside. subst (λ (s : Side). Contains (notices_of crossing s bundle) notice) (is_site site there e) inside) (follow_saying crossing site bundle (sessions_at site (events_of crossing deeds)) (sayings_at (is_at site) deeds) f)
    by-test false e f = subst (λ l. Follow crossing site l (sayings_at (is_at site) deeds))
        (sym (not_here site (notices_of crossing there bundle) (events_of crossing deeds) (λ notice inside. ap (is_at site) (sides crossing there bundle notice inside) ∙ e))) f

-- ---- so the notices were shown

module _ (may_say : MaySay) (may_show : MayShow) (may_tell : MayTell) (none : IsWellFormed empty) where
  -- those of a session that begins at a state in which its bundles were said
  all_true : (crossing : Crossing) (site : Side) (noted : List Noted) (sayings : List Saying) (s : State) → IsWellFormed s → AreOf crossing site noted sayings
      → All (λ (saying : Saying). IsSaidBy (own_of crossing site) (state_after s saying.answered) saying.bundle) sayings → AreTrue crossing s noted
  all_true crossing site noted sayings s good of said = all_from (λ (note : Noted). IsTrueOf crossing (state_after s note.answered) note.notice) noted one
    where
      one : (note : Noted) → Contains noted note → IsTrueOf crossing (state_after s note.answered) note.notice
      one note there =
          let was = of note there in
          let said_then = All-contains (λ (saying : Saying). IsSaidBy (own_of crossing site) (state_after s saying.answered) saying.bundle) sayings was.0 said was.1 in
          subst (λ l. IsTrueOf crossing (state_after s l) note.notice) (sym was.2) (notices_true may_say may_show may_tell crossing site s was.0.answered was.0.bundle note.notice good said_then was.3)

  shown_as : (crossing : Crossing) (site : Side) (before : Image) (sessions : List Session) (said : List (List Saying)) (stretches : List FileStretch) → Follow crossing site sessions said → WereSaidInFiles (own_of crossing site) before said stretches → WereShownInFiles crossing before sessions stretches
  shown_as crossing site before [] said stretches f were = tt
  shown_as crossing site before (session ∷ sessions) [] stretches f were = absurd f
  shown_as crossing site before (session ∷ sessions) (sayings ∷ more) [] f were = tt
  shown_as crossing site before (session ∷ sessions) (sayings ∷ more) (it ∷ stretches) f were =
      (λ s keeps. all_true crossing site session.noted sayings s (good_kept none before s keeps) f.0 (were.0 s keeps), shown_as crossing site it.left sessions more stretches f.1 were.1)

  pub were_shown : (crossing : Crossing) (site : Side) (before : Image) (deeds : List (Deed Side)) (stretches : List FileStretch) → WereSaidInFiles (own_of crossing site) before (sayings_at (is_at site) deeds) stretches → WereShownInFiles crossing before (sessions_at site (events_of crossing deeds)) stretches
  were_shown crossing site before deeds stretches were = shown_as crossing site before (sessions_at site (events_of crossing deeds)) (sayings_at (is_at site) deeds) stretches (follow crossing site deeds) were
