-- A letter that crosses in bundles, as computed. mysite's bundle is brought to duke cut off, and
-- once more whole. duke is stopped with that bundle in hand, which it carried out whole, and nobody
-- knows. Then duke says that it has the letter, so mysite removes it. The old bundle is brought
-- again. There are also histories that break the rules: with a bundle that nobody said; with a
-- letter that wasn't in it; mysite removes what duke didn't say; duke says what it hasn't taken
-- yet; and duke took half of the bundle.
use Rattle.std.proofs.Common.{◌≡◌, ℕ, ◌≤◌, true, List, [], ◌∷◌, codes, Some, None, Contains, refl, ap, arith, ◌+◌, length, inl, inr}
use Rattle.std.proofs.lemmas.List.Elements.{All-nil, All-cons, All-head}
use Rattle.uu_names.proofs.Basics.{first_or_later, none_in}
use Rattle.uu_times.specs.declared.moment.Moment.{Moment}
use Rattle.uu_core.specs.declared.command.Command.{Command}
use Rattle.uu_core.specs.declared.command.Command.TheVariants.{Forget, QueueOnce, Release}
use Rattle.uu_core.specs.declared.command.Reply.TheVariants.{Done as Carried, Number}
use Rattle.uu_core.specs.declared.custody.Key.{Key}
use Rattle.uu_core.specs.declared.job.NewJob.{NewJob}
use Rattle.uu_core.specs.State.{Job, same_text}
use Rattle.uu_core.specs.After.{job_of}
use Rattle.uu_core.specs.Run.{state_after}
use Rattle.uu_handover.specs.Bundles.{Bundle, Packed, has_of}
use Rattle.uu_handover.specs.Custody.{IsLeast, Parcel}
use Rattle.uu_handover.specs.Network.{Chart}
use Rattle.uu_schema.specs.declared.fault.StoreFault.TheVariants.{Store}
use Rattle.uu_schema.specs.declared.fault.StoreKind.TheVariants.{Disk}
use Rattle.uu_store.specs.Exchanges.{given, Exchange, Counts}
use Rattle.uu_custody.specs.Events.{Side, sender, receiver, waits, no_more, has, Event, Noted, IsTrueOf, sessions_at, exchanges_at, PassesTruly, KeepsToWire, nothing_sent, ForgetsWhatWasSaid}
use Rattle.uu_custody.specs.Carried.{Deed, runs, stops, says, events_of, IsSaidBy, unpack, settle, Bundles, nothing_said, IsOfLine, GoesByBundles}
use Rattle.uu_custody.specs.AmongSites.{AreNamed, GoAround, GoOn, seen_by}
use Rattle.uu_custody.proofs.Carried.{keeps_to_wire}
use Rattle.uu_custody.proofs.AmongSites.{goes_by_bundles}
use Rattle.uu_custody.proofs.Examples.{letter, forwarded, mysite, duke, crossing, parcel, handing}

module _ (monday tuesday : Moment) where
  abbrev packed : Packed
  packed = record { parcel = parcel monday tuesday; mark = 5; grade = 23 }

  abbrev out : Bundle
  out = record { from = codes "mysite"; to = codes "duke"; below = 1; grade = 61; has = []; refused = []; jobs = packed ∷ [] }

  abbrev cut : Bundle
  cut = record { from = codes "mysite"; to = codes "duke"; below = 1; grade = 61; has = []; refused = []; jobs = [] }

  abbrev back : Bundle
  back = record { from = codes "duke"; to = codes "mysite"; below = 2; grade = 61; has = record { number = 1; mark = 5 } ∷ []; refused = []; jobs = [] }

  abbrev make : Packed → NewJob
  make it = forwarded monday tuesday monday

  abbrev forgetting : Command
  forgetting = Forget (codes "mysite") 1

  abbrev hand_in : Command
  hand_in = handing monday tuesday monday

  abbrev settling : Command
  settling = Release (codes "duke") (1 ∷ [])

  abbrev deeds : List (Deed Side)
  deeds =
      says sender out ∷ runs receiver forgetting Carried ∷ stops receiver 2 (forgetting ∷ hand_in ∷ []) (given (Some (Store Disk))) ∷ says receiver back
      ∷ runs sender settling Carried ∷ runs receiver forgetting Carried ∷ runs receiver hand_in (Number 1) ∷ stops sender 1 [] (given None) ∷ stops receiver 2 [] (given None) ∷ []

  -- each command is of a line
  abbrev said : Bundles
  said = record { out = out ∷ []; back = [] }

  abbrev told : Bundles
  told = record { out = out ∷ []; back = back ∷ [] }

  of_cut : IsOfLine (crossing monday tuesday) said receiver forgetting
  of_cut = (
    unpack cut make,
    λ own. ((out, (0, omega arith, refl), record { from = refl; to = refl; below = refl; grade = refl; has = record { rest = []; is = refl }; refused = record { rest = []; is = refl }; jobs = record { rest = packed ∷ []; is = refl } }), refl, All-nil _),
    (0, omega arith, refl),
  )

  of_out : (command : Command) → Contains (forgetting ∷ hand_in ∷ []) command → IsOfLine (crossing monday tuesday) said receiver command
  of_out command there = (
    unpack out make,
    λ own. (
      (out, (0, omega arith, refl), record { from = refl; to = refl; below = refl; grade = refl; has = record { rest = []; is = refl }; refused = record { rest = []; is = refl }; jobs = record { rest = []; is = refl } }),
      refl,
      All-cons (λ (it : Packed). (crossing monday tuesday).makes it.parcel (make it) ≡ true) packed [] refl (All-nil _),
    ),
    there,
  )

  of_back : IsOfLine (crossing monday tuesday) told sender settling
  of_back = (
    settle back (1 ∷ []),
    λ own. (
      (back, (0, omega arith, refl), record { from = refl; to = refl; below = refl; grade = refl; has = record { rest = []; is = refl }; refused = record { rest = []; is = refl }; jobs = record { rest = []; is = refl } }),
      refl,
      All-cons (Contains (1 ∷ [])) 1 [] (0, omega arith, refl) (All-nil _),
    ),
    (0, omega arith, refl),
  )

  of_later : (command : Command) → Contains (forgetting ∷ hand_in ∷ []) command → IsOfLine (crossing monday tuesday) told receiver command
  of_later command there = of_out command there

  goes : GoesByBundles (crossing monday tuesday) nothing_said deeds
  goes = (
    λ own. All-cons (λ (it : Packed). it.mark ≡ (crossing monday tuesday).mark it.parcel) packed [] refl (All-nil _),
    (
      of_cut,
      (
        All-cons (IsOfLine (crossing monday tuesday) said receiver) forgetting (hand_in ∷ []) (of_out forgetting (0, omega arith, refl))
            (All-cons (IsOfLine (crossing monday tuesday) said receiver) hand_in [] (of_out hand_in (1, omega arith, refl)) (All-nil _)),
        (
          tt,
          (
            of_back,
            (
              of_later forgetting (0, omega arith, refl),
              (of_later hand_in (1, omega arith, refl), (All-nil _, (All-nil _, tt))),
            ),
          ),
        ),
      ),
    ),
  )

  abbrev events : List Event
  events = events_of (crossing monday tuesday) deeds

  it_keeps : KeepsToWire (crossing monday tuesday) nothing_sent events
  it_keeps = (keeps_to_wire (crossing monday tuesday) deeds goes).0

  it_forgets : ForgetsWhatWasSaid (crossing monday tuesday) nothing_sent events
  it_forgets = (keeps_to_wire (crossing monday tuesday) deeds goes).1

  -- what the bundles told was true, and duke carried out the bundle that it had in hand
  abbrev job : Job
  job = job_of 1 (letter monday tuesday)

  least : IsLeast (crossing monday tuesday) (mysite monday tuesday) 1
  least = record { now = All-cons (λ (other : Job). other.system ≡ codes "duke" → 1 ≤ other.number) job [] (λ own. omega arith) (All-nil _); later = omega arith }

  abbrev IsTrueThere : Noted → Type 0
  IsTrueThere note = IsTrueOf (crossing monday tuesday) (state_after (mysite monday tuesday) note.answered) note.notice

  sender_counts : PassesTruly (crossing monday tuesday) (mysite monday tuesday) (sessions_at sender events) (settling ∷ [])
  sender_counts = (
    settling ∷ [],
    [],
    refl,
    record { rest = []; prefix = refl; unheard = []; whole = inl refl; settled = λ settled. refl; answers = refl },
    All-cons IsTrueThere (record { answered = []; notice = no_more 1 }) (record { answered = []; notice = waits (parcel monday tuesday) } ∷ []) least
        (All-cons IsTrueThere (record { answered = []; notice = waits (parcel monday tuesday) }) [] (record { job = job; there = (0, omega arith, refl); system = refl; is = refl }) (All-nil _)),
    refl,
  )

  abbrev IsTrueHere : Noted → Type 0
  IsTrueHere note = IsTrueOf (crossing monday tuesday) (state_after (state_after (duke monday tuesday) (forgetting ∷ forgetting ∷ hand_in ∷ [])) note.answered) note.notice

  receiver_counts : PassesTruly (crossing monday tuesday) (duke monday tuesday) (sessions_at receiver events) (forgetting ∷ forgetting ∷ hand_in ∷ forgetting ∷ hand_in ∷ [])
  receiver_counts = (
    forgetting ∷ forgetting ∷ hand_in ∷ [],
    forgetting ∷ hand_in ∷ [],
    refl,
    record { rest = []; prefix = refl; unheard = Carried ∷ Number 1 ∷ []; whole = inr refl; settled = λ settled. absurd settled; answers = refl },
    All-nil _,
    (
      forgetting ∷ hand_in ∷ [],
      [],
      refl,
      record { rest = []; prefix = refl; unheard = []; whole = inl refl; settled = λ settled. refl; answers = refl },
      All-cons IsTrueHere (record { answered = []; notice = has 1 }) [] (record { row = record { number = 1; mark = 5; job = 1 }; there = (0, omega arith, refl); is = refl }) (All-nil _),
      refl,
    ),
  )

  it_came_once : (state_after (duke monday tuesday) (forgetting ∷ forgetting ∷ hand_in ∷ forgetting ∷ hand_in ∷ [])).jobs ≡ job_of 1 (forwarded monday tuesday monday) ∷ []
  it_came_once = refl

  it_went : (state_after (mysite monday tuesday) (settling ∷ [])).jobs ≡ []
  it_went = refl

  -- ---- histories that break the rules

  abbrev unsaid : List (Deed Side)
  unsaid = runs receiver hand_in (Number 1) ∷ []

  nobody_said_it : GoesByBundles (crossing monday tuesday) nothing_said unsaid → ⊥
  nobody_said_it by = let from = (keeps_to_wire (crossing monday tuesday) unsaid by).0.0 refl in none_in from.parcel from.there

  -- another number than that of the letter
  abbrev another : Command
  another = QueueOnce (record { from = codes "mysite"; number = 2; mark = 5 }) (forwarded monday tuesday monday)

  abbrev not_in_it : List (Deed Side)
  not_in_it = says sender out ∷ runs receiver another (Number 1) ∷ []

  it_was_not_in_it : GoesByBundles (crossing monday tuesday) nothing_said not_in_it → ⊥
  it_was_not_in_it by =
      let from = (keeps_to_wire (crossing monday tuesday) not_in_it by).0.1.1.0 refl in
      let number : 2 ≡ from.parcel.number = ap (λ (k : Key). k.number) from.key_is in
      elim (first_or_later (parcel monday tuesday) from.parcel [] from.there) [
        | inl same ↦ (let one = ap (λ (p : Parcel). p.number) same in omega (arith, number, one))
        | inr later ↦ none_in from.parcel later
      ]

  -- duke says that it has nothing
  abbrev empty_back : Bundle
  empty_back = record { from = codes "duke"; to = codes "mysite"; below = 2; grade = 61; has = []; refused = []; jobs = [] }

  abbrev not_told : List (Deed Side)
  not_told = says sender out ∷ says receiver empty_back ∷ runs sender settling Carried ∷ []

  nobody_told_it : GoesByBundles (crossing monday tuesday) nothing_said not_told → ⊥
  nobody_told_it by = none_in 1 (All-head (Contains []) 1 [] ((keeps_to_wire (crossing monday tuesday) not_told by).0.1.1.0 refl))

  -- before it has taken the letter, duke can't say so
  it_is_not_true_yet : IsSaidBy (codes "duke") (duke monday tuesday) back → ⊥
  it_is_not_true_yet (mark, said) = none_in (record { number = 1; mark = 5 }) (All-head (Contains (has_of (codes "mysite") (duke monday tuesday))) (record { number = 1; mark = 5 }) [] said.has)

  -- The bundle in hand is carried out whole or not at all: not what it forgets without the letter.
  abbrev in_hand_then : Exchange
  in_hand_then = record { commands = forgetting ∷ forgetting ∷ hand_in ∷ []; replies = Carried ∷ []; in_hand = 2; ending = given (Some (Store Disk)) }

  it_was_in_hand : exchanges_at receiver events ≡ in_hand_then ∷ record { commands = forgetting ∷ hand_in ∷ []; replies = Carried ∷ Number 1 ∷ []; in_hand = 2; ending = given None } ∷ []
  it_was_in_hand = refl

  not_by_halves : Counts in_hand_then (duke monday tuesday) (forgetting ∷ forgetting ∷ []) → ⊥
  not_by_halves counts = let heard = ap length counts.answers in elim counts.whole [
    | inl none ↦ (let no = ap length none in omega (arith, heard, no))
    | inr all ↦ omega (arith, heard, all)
  ]

-- ---- sites in a row, each with a number for its name, and a bundle of the first for the second

abbrev name : ℕ → List ℕ
name site = site ∷ []

abbrev row : Chart
row = record {
  begins = λ line. line;
  ends = λ line. line + 1;
  crossing = λ line. record { from = line ∷ []; to = (line + 1) ∷ []; mark = λ parcel. length parcel.bytes; makes = λ parcel new. same_text new.bytes parcel.bytes };
}

named : AreNamed row name
named = record { own = same; from = λ line. refl; to = λ line. refl; apart = λ line e. omega (arith, e) }
  where
    same : (one other : ℕ) → one ∷ [] ≡ other ∷ [] → one ≡ other
    same one other e = cc

module _ (monday tuesday : Moment) where
  abbrev first_out : Bundle
  first_out = record { from = 0 ∷ []; to = 1 ∷ []; below = 1; grade = 61; has = []; refused = []; jobs = packed monday tuesday ∷ [] }

  abbrev forget_first : Command
  forget_first = Forget (0 ∷ []) 1

  abbrev among : List (Deed ℕ)
  among = says 0 first_out ∷ runs 1 forget_first Carried ∷ stops 0 1 [] (given None) ∷ stops 1 1 [] (given None) ∷ []

  goes_around : GoAround row name [] among
  goes_around = (
    (refl, λ line here own. All-cons (λ (it : Packed). it.mark ≡ (row.crossing line).mark it.parcel) (packed monday tuesday) [] refl (All-nil _)),
    (
      (
        unpack first_out (make monday tuesday),
        (
          (first_out, (0, omega arith, refl), record { from = refl; to = refl; below = refl; grade = refl; has = record { rest = []; is = refl }; refused = record { rest = []; is = refl }; jobs = record { rest = []; is = refl } }),
          refl,
          λ line end from. All-cons (λ (it : Packed). (row.crossing line).makes it.parcel (make monday tuesday it) ≡ true) (packed monday tuesday) [] refl (All-nil _),
        ),
        (0, omega arith, refl),
      ),
      (All-nil _, (All-nil _, tt)),
    ),
  )

  it_goes_on : GoOn among
  it_goes_on = (λ none. cc, tt)

  -- so the first line sees a history in bundles
  over_the_first : GoesByBundles (row.crossing 0) nothing_said (seen_by row 0 among)
  over_the_first = goes_by_bundles row name named 0 among goes_around
