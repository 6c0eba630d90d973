-- What goes around among several sites in bundles goes by bundles over each line.
use Rattle.std.proofs.Common.{◌≡◌, ◌<◌, ℕ, Bool, true, false, cond, ◌==◌, List, [], ◌∷◌, ◌++◌, map, take, Contains, refl, sym, ap, subst, ◌∙◌, inl, inr}
use Rattle.std.proofs.lemmas.List.{append-nil}
use Rattle.std.proofs.lemmas.List.Elements.{All-weaker, Contains-append_left, Contains-append_right, Contains-push_cases}
use Rattle.std.proofs.lemmas.Bool.{eqb-true, eqb-false}
use Rattle.uu_names.proofs.Basics.{first_of, none_in, not_both_equal}
use Rattle.sqlite_wal.specs.Recovery.{Image}
use Rattle.uu_core.specs.declared.command.Command.{Command}
use Rattle.uu_core.specs.declared.command.Reply.{Reply}
use Rattle.uu_core.specs.State.{State, IsWellFormed, empty, link_of, new_link}
use Rattle.uu_handover.specs.Bundles.{Bundle}
use Rattle.uu_handover.specs.Custody.{Crossing}
use Rattle.uu_handover.specs.Network.{Chart}
use Rattle.uu_store.specs.Exchanges.{Exchange}
use Rattle.uu_store.specs.Files.{FileStretch}
use Rattle.uu_custody.specs.Events.{Event, Side, sender, receiver, is_at, Notice, side_of, noticed, Session, after_answer, begin_answered, begin_noticed, sessions_at, exchanges_at, nothing_sent, KeepsToWire, ForgetsWhatWasSaid}
use Rattle.uu_custody.specs.Events.{with_first as with_first_session}
use Rattle.uu_custody.specs.Routes.{Course}
use Rattle.uu_custody.specs.Sites.{HandsOver, AllHandOver, AllAreFree}
use Rattle.uu_custody.specs.Carried.{Deed, runs, stops, says, notices_of, events_of, Saying, sayings_at, WereSaidInFiles, BundleLine, unpack, settle, other, Bundles, nothing_said, MayBeLine, IsOfLine, GoesByBundles}
use Rattle.uu_custody.specs.Carried.{with_first as with_first_said, after_answer as after_command}
use Rattle.uu_custody.specs.AmongSites.{AreNamed, MayBeLineAt, IsOfLineAt, GoAround, seen_by, with_first, exchanges_in, GoOn, IsInFiles, AreAmong, AreFreeOverAll}
use Rattle.uu_custody.proofs.Said.{MaySay, MayShow, MayTell, sides, not_here, were_shown}

-- what the sites of a line said is among the line's bundles
record Knows (said : List Bundle) (one other : List ℕ) (bundles : Bundles) : Type 0 where
  out : (bundle : Bundle) → Contains said bundle → bundle.from ≡ one → Contains bundles.out bundle
  back : (bundle : Bundle) → Contains said bundle → bundle.from ≡ other → Contains bundles.back bundle

module _ (chart : Chart) (name : ℕ → List ℕ) (named : AreNamed chart name) (line : ℕ) where
  abbrev agreed : Crossing
  agreed = chart.crossing line

  abbrev one : ℕ
  one = chart.begins line

  abbrev KnowsHere : List Bundle → Bundles → Type 0
  KnowsHere said bundles = Knows said (name (chart.begins line)) (name (chart.ends line)) bundles

  module _ (said : List Bundle) (bundles : Bundles) (knows : KnowsHere said bundles) where
    -- a line that is given at the beginning, and one at the end
    sent_line : (site : ℕ) → chart.begins line ≡ site → (given : BundleLine) → MayBeLineAt chart name said site given → MayBeLine agreed bundles sender given
    sent_line site here (unpack bundle make) may = tt
    sent_line site here (settle bundle numbers) may = λ own. (
      (may.0.0, knows.back may.0.0 may.0.1 (sym may.0.2.from ∙ own ∙ named.to line), may.0.2),
      may.1 ∙ ap name (sym here) ∙ sym (named.from line),
      may.2,
    )
    sent_line site here (other command) may = (may line).0 here

    received_line : (site : ℕ) → chart.ends line ≡ site → (given : BundleLine) → MayBeLineAt chart name said site given → MayBeLine agreed bundles receiver given
    received_line site here (unpack bundle make) may = λ own. (
      (may.0.0, knows.out may.0.0 may.0.1 (sym may.0.2.from ∙ own ∙ named.from line), may.0.2),
      may.1 ∙ ap name (sym here) ∙ sym (named.to line),
      may.2 line here (sym own),
    )
    received_line site here (settle bundle numbers) may = tt
    received_line site here (other command) may = (may line).1 here

    sent : (site : ℕ) (command : Command) → chart.begins line ≡ site → IsOfLineAt chart name said site command → IsOfLine agreed bundles sender command
    sent site command here of = (of.0, sent_line site here of.0 of.1, of.2)

    received : (site : ℕ) (command : Command) → chart.ends line ≡ site → IsOfLineAt chart name said site command → IsOfLine agreed bundles receiver command
    received site command here of = (of.0, received_line site here of.0 of.1, of.2)

    -- what is said next
    said_there : (site : ℕ) (bundle : Bundle) → bundle.from ≡ name site → chart.begins line ≡ site → KnowsHere (said ++ bundle ∷ []) (record bundles { out = bundles.out ++ bundle ∷ [] })
    said_there site bundle own here = record {
      out = λ it there from. elim (Contains-push_cases said bundle it there) [
        | inl was ↦ Contains-append_left bundles.out (bundle ∷ []) it (knows.out it was from)
        | inr same ↦ subst (Contains (bundles.out ++ bundle ∷ [])) same (Contains-append_right bundles.out (bundle ∷ []) bundle (first_of bundle []))
      ];
      back = λ it there from. elim (Contains-push_cases said bundle it there) [
        | inl was ↦ knows.back it was from
        | inr same ↦ absurd (named.apart line (here ∙ named.own site (chart.ends line) (sym own ∙ ap (λ (b : Bundle). b.from) same ∙ from)))
      ];
    }

    said-back : (site : ℕ) (bundle : Bundle) → bundle.from ≡ name site → chart.ends line ≡ site → KnowsHere (said ++ bundle ∷ []) (record bundles { back = bundles.back ++ bundle ∷ [] })
    said-back site bundle own here = record {
      out = λ it there from. elim (Contains-push_cases said bundle it there) [
        | inl was ↦ knows.out it was from
        | inr same ↦ absurd (named.apart line (sym (here ∙ named.own site (chart.begins line) (sym own ∙ ap (λ (b : Bundle). b.from) same ∙ from))))
      ];
      back = λ it there from. elim (Contains-push_cases said bundle it there) [
        | inl was ↦ Contains-append_left bundles.back (bundle ∷ []) it (knows.back it was from)
        | inr same ↦ subst (Contains (bundles.back ++ bundle ∷ [])) same (Contains-append_right bundles.back (bundle ∷ []) bundle (first_of bundle []))
      ];
    }

    said_elsewhere : (site : ℕ) (bundle : Bundle) → bundle.from ≡ name site → ¬ (chart.begins line ≡ site) → ¬ (chart.ends line ≡ site) → KnowsHere (said ++ bundle ∷ []) bundles
    said_elsewhere site bundle own not_one not_end = record {
      out = λ it there from. elim (Contains-push_cases said bundle it there) [
        | inl was ↦ knows.out it was from
        | inr same ↦ absurd (not_one (sym (named.own site (chart.begins line) (sym own ∙ ap (λ (b : Bundle). b.from) same ∙ from))))
      ];
      back = λ it there from. elim (Contains-push_cases said bundle it there) [
        | inl was ↦ knows.back it was from
        | inr same ↦ absurd (not_end (sym (named.own site (chart.ends line) (sym own ∙ ap (λ (b : Bundle). b.from) same ∙ from))))
      ];
    }

  unsaid : (said : List Bundle) (bundles : Bundles) → KnowsHere said bundles → KnowsHere (said ++ []) bundles
  unsaid said bundles knows = subst (λ l. KnowsHere l bundles) (sym (append-nil said)) knows

  goes : (said : List Bundle) (bundles : Bundles) (deeds : List (Deed ℕ)) → KnowsHere said bundles → GoAround chart name said deeds → GoesByBundles agreed bundles (seen_by chart line deeds)
  goes said bundles [] knows around = tt
  goes said bundles (runs site command reply ∷ deeds) knows around =
      by_ends (chart.begins line == site) (chart.ends line == site) refl refl (goes (said ++ []) bundles deeds (unsaid said bundles knows) around.1)
    where
      by_ends : (s t : Bool) → chart.begins line == site ≡ s → chart.ends line == site ≡ t → GoesByBundles agreed bundles (seen_by chart line deeds)
          → GoesByBundles agreed bundles (map (λ side. runs side command reply) (cond s (sender ∷ []) (cond t (receiver ∷ []) [])) ++ seen_by chart line deeds)
      by_ends true t e f rest = (sent said bundles knows site command (eqb-true (chart.begins line) site e) around.0, rest)
      by_ends false true e f rest = (received said bundles knows site command (eqb-true (chart.ends line) site f) around.0, rest)
      by_ends false false e f rest = rest
  goes said bundles (stops site in_hand unanswered ending ∷ deeds) knows around =
      by_ends (chart.begins line == site) (chart.ends line == site) refl refl (goes (said ++ []) bundles deeds (unsaid said bundles knows) around.1)
    where
      by_ends : (s t : Bool) → chart.begins line == site ≡ s → chart.ends line == site ≡ t → GoesByBundles agreed bundles (seen_by chart line deeds)
          → GoesByBundles agreed bundles (map (λ side. stops side in_hand unanswered ending) (cond s (sender ∷ []) (cond t (receiver ∷ []) [])) ++ seen_by chart line deeds)
      by_ends true t e f rest =
          (All-weaker (IsOfLineAt chart name said site) (IsOfLine agreed bundles sender) (λ command of. sent said bundles knows site command (eqb-true (chart.begins line) site e) of) (take in_hand unanswered) around.0, rest)
      by_ends false true e f rest =
          (All-weaker (IsOfLineAt chart name said site) (IsOfLine agreed bundles receiver) (λ command of. received said bundles knows site command (eqb-true (chart.ends line) site f) of) (take in_hand unanswered) around.0, rest)
      by_ends false false e f rest = rest
  goes said bundles (says site bundle ∷ deeds) knows around =
      by_ends (chart.begins line == site) (chart.ends line == site) refl refl (λ then now. goes (said ++ bundle ∷ []) then deeds now around.1)
    where
      by_ends : (s t : Bool) → chart.begins line == site ≡ s → chart.ends line == site ≡ t
          → ((then : Bundles) → KnowsHere (said ++ bundle ∷ []) then → GoesByBundles agreed then (seen_by chart line deeds))
          → GoesByBundles agreed bundles (map (λ side. says side bundle) (cond s (sender ∷ []) (cond t (receiver ∷ []) [])) ++ seen_by chart line deeds)
      by_ends true t e f rest =
          let here = eqb-true (chart.begins line) site e in
          (around.0.1 line here, rest (record bundles { out = bundles.out ++ bundle ∷ [] }) (said_there said bundles knows site bundle around.0.0 here))
      by_ends false true e f rest = (tt, rest (record bundles { back = bundles.back ++ bundle ∷ [] }) (said-back said bundles knows site bundle around.0.0 (eqb-true (chart.ends line) site f)))
      by_ends false false e f rest = rest bundles (said_elsewhere said bundles knows site bundle around.0.0 (eqb-false (chart.begins line) site e) (eqb-false (chart.ends line) site f))

  pub goes_by_bundles : (deeds : List (Deed ℕ)) → GoAround chart name [] deeds → GoesByBundles (chart.crossing line) nothing_said (seen_by chart line deeds)
  goes_by_bundles deeds around = goes [] nothing_said deeds (record { out = λ bundle there. absurd (none_in bundle there); back = λ bundle there. absurd (none_in bundle there) }) around

-- ---- both sites' part of what a line sees is that of all

-- sessions of an answer, and of notices
first_answer : (command : Command) (reply : Reply) (sessions : List Session) → map (λ (session : Session). session.exchange) (with_first_session (begin_answered command reply) sessions) ≡ with_first (after_answer command reply) (map (λ (session : Session). session.exchange) sessions)
first_answer command reply [] = refl
first_answer command reply (session ∷ sessions) = refl

first_notice : (notice : Notice) (sessions : List Session) → ¬ (map (λ (session : Session). session.exchange) sessions ≡ []) → map (λ (session : Session). session.exchange) (with_first_session (begin_noticed notice) sessions) ≡ map (λ (session : Session). session.exchange) sessions
first_notice notice [] some = absurd (some refl)
first_notice notice (session ∷ sessions) some = refl

of_notices : (site : Side) (notices : List Notice) (events : List Event) → ¬ (exchanges_at site events ≡ []) → exchanges_at site (map noticed notices ++ events) ≡ exchanges_at site events
of_notices site [] events some = refl
of_notices site (notice ∷ notices) events some = by_side (is_at site (side_of notice)) (of_notices site notices events some)
  where
    by_side : (t : Bool) → exchanges_at site (map noticed notices ++ events) ≡ exchanges_at site events
        → map (λ (session : Session). session.exchange) (cond t (with_first_session (begin_noticed notice) (sessions_at site (map noticed notices ++ events))) (sessions_at site (map noticed notices ++ events))) ≡ exchanges_at site events
    by_side true same = first_notice notice (sessions_at site (map noticed notices ++ events)) (λ none. some (sym same ∙ none)) ∙ same
    by_side false same = same

module _ (chart : Chart) (line : ℕ) (far : ¬ (chart.begins line ≡ chart.ends line)) where
  abbrev crossing : Crossing
  crossing = chart.crossing line

  abbrev told : Side → List (Deed ℕ) → List Exchange
  told side deeds = exchanges_at side (events_of (chart.crossing line) (seen_by chart line deeds))

  sender_sees : (deeds : List (Deed ℕ)) → GoOn deeds → told sender deeds ≡ exchanges_in (chart.begins line) deeds
  sender_sees [] on = refl
  sender_sees (runs site command reply ∷ deeds) on = by_ends (chart.begins line == site) (chart.ends line == site) (sender_sees deeds on)
    where
      by_ends : (s t : Bool) → told sender deeds ≡ exchanges_in (chart.begins line) deeds
          → exchanges_at sender (events_of crossing (map (λ side. runs side command reply) (cond s (sender ∷ []) (cond t (receiver ∷ []) [])) ++ seen_by chart line deeds))
          ≡ cond s (with_first (after_answer command reply) (exchanges_in (chart.begins line) deeds)) (exchanges_in (chart.begins line) deeds)
      by_ends true t same = first_answer command reply (sessions_at sender (events_of crossing (seen_by chart line deeds))) ∙ ap (with_first (after_answer command reply)) same
      by_ends false true same = same
      by_ends false false same = same
  sender_sees (stops site in_hand unanswered ending ∷ deeds) on = by_ends (chart.begins line == site) (chart.ends line == site) (sender_sees deeds on)
    where
      by_ends : (s t : Bool) → told sender deeds ≡ exchanges_in (chart.begins line) deeds
          → exchanges_at sender (events_of crossing (map (λ side. stops side in_hand unanswered ending) (cond s (sender ∷ []) (cond t (receiver ∷ []) [])) ++ seen_by chart line deeds))
          ≡ cond s (record { commands = unanswered; replies = []; in_hand = in_hand; ending = ending } ∷ exchanges_in (chart.begins line) deeds) (exchanges_in (chart.begins line) deeds)
      by_ends true t same = ap (λ l. record { commands = unanswered; replies = []; in_hand = in_hand; ending = ending } ∷ l) same
      by_ends false true same = same
      by_ends false false same = same
  sender_sees (says site bundle ∷ deeds) on = by_ends (chart.begins line == site) (chart.ends line == site) refl (sender_sees deeds on.1)
    where
      by_ends : (s t : Bool) → chart.begins line == site ≡ s → told sender deeds ≡ exchanges_in (chart.begins line) deeds
          → exchanges_at sender (events_of crossing (map (λ side. says side bundle) (cond s (sender ∷ []) (cond t (receiver ∷ []) [])) ++ seen_by chart line deeds)) ≡ exchanges_in (chart.begins line) deeds
      by_ends true t e same =
          of_notices sender (notices_of crossing sender bundle) (events_of crossing (seen_by chart line deeds))
          (λ none. on.0 (subst (λ (n : ℕ). exchanges_in n deeds ≡ []) (eqb-true (chart.begins line) site e) (sym same ∙ none))) ∙ same
      by_ends false true e same =
          ap (map (λ (session : Session). session.exchange)) (not_here sender (notices_of crossing receiver bundle) (events_of crossing (seen_by chart line deeds)) (λ notice inside. ap (is_at sender) (sides crossing receiver bundle notice inside))) ∙ same
      by_ends false false e same = same

  receiver_sees : (deeds : List (Deed ℕ)) → GoOn deeds → told receiver deeds ≡ exchanges_in (chart.ends line) deeds
  receiver_sees [] on = refl
  receiver_sees (runs site command reply ∷ deeds) on = by_ends (chart.begins line == site) (chart.ends line == site) refl refl (receiver_sees deeds on)
    where
      by_ends : (s t : Bool) → chart.begins line == site ≡ s → chart.ends line == site ≡ t → told receiver deeds ≡ exchanges_in (chart.ends line) deeds
          → exchanges_at receiver (events_of crossing (map (λ side. runs side command reply) (cond s (sender ∷ []) (cond t (receiver ∷ []) [])) ++ seen_by chart line deeds))
          ≡ cond t (with_first (after_answer command reply) (exchanges_in (chart.ends line) deeds)) (exchanges_in (chart.ends line) deeds)
      by_ends true true e f same = absurd (not_both_equal (chart.begins line) (chart.ends line) site far e f)
      by_ends true false e f same = same
      by_ends false true e f same = first_answer command reply (sessions_at receiver (events_of crossing (seen_by chart line deeds))) ∙ ap (with_first (after_answer command reply)) same
      by_ends false false e f same = same
  receiver_sees (stops site in_hand unanswered ending ∷ deeds) on = by_ends (chart.begins line == site) (chart.ends line == site) refl refl (receiver_sees deeds on)
    where
      by_ends : (s t : Bool) → chart.begins line == site ≡ s → chart.ends line == site ≡ t → told receiver deeds ≡ exchanges_in (chart.ends line) deeds
          → exchanges_at receiver (events_of crossing (map (λ side. stops side in_hand unanswered ending) (cond s (sender ∷ []) (cond t (receiver ∷ []) [])) ++ seen_by chart line deeds))
          ≡ cond t (record { commands = unanswered; replies = []; in_hand = in_hand; ending = ending } ∷ exchanges_in (chart.ends line) deeds) (exchanges_in (chart.ends line) deeds)
      by_ends true true e f same = absurd (not_both_equal (chart.begins line) (chart.ends line) site far e f)
      by_ends true false e f same = same
      by_ends false true e f same = ap (λ l. record { commands = unanswered; replies = []; in_hand = in_hand; ending = ending } ∷ l) same
      by_ends false false e f same = same
  receiver_sees (says site bundle ∷ deeds) on = by_ends (chart.begins line == site) (chart.ends line == site) refl (receiver_sees deeds on.1)
    where
      by_ends : (s t : Bool) → chart.ends line == site ≡ t → told receiver deeds ≡ exchanges_in (chart.ends line) deeds
          → exchanges_at receiver (events_of crossing (map (λ side. says side bundle) (cond s (sender ∷ []) (cond t (receiver ∷ []) [])) ++ seen_by chart line deeds)) ≡ exchanges_in (chart.ends line) deeds
      by_ends true t f same =
          ap (map (λ (session : Session). session.exchange)) (not_here receiver (notices_of crossing sender bundle) (events_of crossing (seen_by chart line deeds)) (λ notice inside. ap (is_at receiver) (sides crossing sender bundle notice inside))) ∙ same
      by_ends false true f same =
          of_notices receiver (notices_of crossing receiver bundle) (events_of crossing (seen_by chart line deeds))
          (λ none. on.0 (subst (λ (n : ℕ). exchanges_in n deeds ≡ []) (eqb-true (chart.ends line) site f) (sym same ∙ none))) ∙ same
      by_ends false false f same = same

  abbrev said_in : ℕ → List (Deed ℕ) → List (List Saying)
  said_in site deeds = sayings_at (λ there. site == there) deeds

  sender_said : (deeds : List (Deed ℕ)) → sayings_at (is_at sender) (seen_by chart line deeds) ≡ said_in (chart.begins line) deeds
  sender_said [] = refl
  sender_said (runs site command reply ∷ deeds) = by_ends (chart.begins line == site) (chart.ends line == site) (sender_said deeds)
    where
      by_ends : (s t : Bool) → sayings_at (is_at sender) (seen_by chart line deeds) ≡ said_in (chart.begins line) deeds
          → sayings_at (is_at sender) (map (λ side. runs side command reply) (cond s (sender ∷ []) (cond t (receiver ∷ []) [])) ++ seen_by chart line deeds)
          ≡ cond s (with_first_said (map (after_command command)) (said_in (chart.begins line) deeds)) (said_in (chart.begins line) deeds)
      by_ends true t same = ap (with_first_said (map (after_command command))) same
      by_ends false true same = same
      by_ends false false same = same
  sender_said (stops site in_hand unanswered ending ∷ deeds) = by_ends (chart.begins line == site) (chart.ends line == site) (sender_said deeds)
    where
      by_ends : (s t : Bool) → sayings_at (is_at sender) (seen_by chart line deeds) ≡ said_in (chart.begins line) deeds
          → sayings_at (is_at sender) (map (λ side. stops side in_hand unanswered ending) (cond s (sender ∷ []) (cond t (receiver ∷ []) [])) ++ seen_by chart line deeds)
          ≡ cond s ([] ∷ said_in (chart.begins line) deeds) (said_in (chart.begins line) deeds)
      by_ends true t same = ap (λ l. [] ∷ l) same
      by_ends false true same = same
      by_ends false false same = same
  sender_said (says site bundle ∷ deeds) = by_ends (chart.begins line == site) (chart.ends line == site) (sender_said deeds)
    where
      by_ends : (s t : Bool) → sayings_at (is_at sender) (seen_by chart line deeds) ≡ said_in (chart.begins line) deeds
          → sayings_at (is_at sender) (map (λ side. says side bundle) (cond s (sender ∷ []) (cond t (receiver ∷ []) [])) ++ seen_by chart line deeds)
          ≡ cond s (with_first_said (λ sayings. record { answered = []; bundle = bundle } ∷ sayings) (said_in (chart.begins line) deeds)) (said_in (chart.begins line) deeds)
      by_ends true t same = ap (with_first_said (λ sayings. record { answered = []; bundle = bundle } ∷ sayings)) same
      by_ends false true same = same
      by_ends false false same = same

  receiver_said : (deeds : List (Deed ℕ)) → sayings_at (is_at receiver) (seen_by chart line deeds) ≡ said_in (chart.ends line) deeds
  receiver_said [] = refl
  receiver_said (runs site command reply ∷ deeds) = by_ends (chart.begins line == site) (chart.ends line == site) refl refl (receiver_said deeds)
    where
      by_ends : (s t : Bool) → chart.begins line == site ≡ s → chart.ends line == site ≡ t → sayings_at (is_at receiver) (seen_by chart line deeds) ≡ said_in (chart.ends line) deeds
          → sayings_at (is_at receiver) (map (λ side. runs side command reply) (cond s (sender ∷ []) (cond t (receiver ∷ []) [])) ++ seen_by chart line deeds)
          ≡ cond t (with_first_said (map (after_command command)) (said_in (chart.ends line) deeds)) (said_in (chart.ends line) deeds)
      by_ends true true e f same = absurd (not_both_equal (chart.begins line) (chart.ends line) site far e f)
      by_ends true false e f same = same
      by_ends false true e f same = ap (with_first_said (map (after_command command))) same
      by_ends false false e f same = same
  receiver_said (stops site in_hand unanswered ending ∷ deeds) = by_ends (chart.begins line == site) (chart.ends line == site) refl refl (receiver_said deeds)
    where
      by_ends : (s t : Bool) → chart.begins line == site ≡ s → chart.ends line == site ≡ t → sayings_at (is_at receiver) (seen_by chart line deeds) ≡ said_in (chart.ends line) deeds
          → sayings_at (is_at receiver) (map (λ side. stops side in_hand unanswered ending) (cond s (sender ∷ []) (cond t (receiver ∷ []) [])) ++ seen_by chart line deeds)
          ≡ cond t ([] ∷ said_in (chart.ends line) deeds) (said_in (chart.ends line) deeds)
      by_ends true true e f same = absurd (not_both_equal (chart.begins line) (chart.ends line) site far e f)
      by_ends true false e f same = same
      by_ends false true e f same = ap (λ l. [] ∷ l) same
      by_ends false false e f same = same
  receiver_said (says site bundle ∷ deeds) = by_ends (chart.begins line == site) (chart.ends line == site) refl refl (receiver_said deeds)
    where
      by_ends : (s t : Bool) → chart.begins line == site ≡ s → chart.ends line == site ≡ t → sayings_at (is_at receiver) (seen_by chart line deeds) ≡ said_in (chart.ends line) deeds
          → sayings_at (is_at receiver) (map (λ side. says side bundle) (cond s (sender ∷ []) (cond t (receiver ∷ []) [])) ++ seen_by chart line deeds)
          ≡ cond t (with_first_said (λ sayings. record { answered = []; bundle = bundle } ∷ sayings) (said_in (chart.ends line) deeds)) (said_in (chart.ends line) deeds)
      by_ends true true e f same = absurd (not_both_equal (chart.begins line) (chart.ends line) site far e f)
      by_ends true false e f same = same
      by_ends false true e f same = ap (with_first_said (λ sayings. record { answered = []; bundle = bundle } ∷ sayings)) same
      by_ends false false e f same = same

-- ---- over all lines

module _
    (may_say : MaySay) (may_show : MayShow) (may_tell : MayTell) (none : IsWellFormed empty)
    (keeps : (crossing : Crossing) (deeds : List (Deed Side)) → GoesByBundles crossing nothing_said deeds → KeepsToWire crossing nothing_sent (events_of crossing deeds))
    (forgets : (crossing : Crossing) (deeds : List (Deed Side)) → GoesByBundles crossing nothing_said deeds → ForgetsWhatWasSaid crossing nothing_sent (events_of crossing deeds))
    (chart : Chart) (name : ℕ → List ℕ) (named : AreNamed chart name) (count : ℕ) (first : ℕ → State) (before : ℕ → Image) (stretches : ℕ → List FileStretch) (deeds : List (Deed ℕ)) (around : GoAround chart name [] deeds) (on : GoOn deeds)
    (files : (site : ℕ) → site < count → IsInFiles (name site) (first site) (before site) (stretches site) deeds site)
  where
    one_line : (line : ℕ) → chart.begins line < count → chart.ends line < count → link_of (first (chart.ends line)) (chart.crossing line).from ≡ new_link (chart.crossing line).from
        → HandsOver chart count first before stretches line (events_of (chart.crossing line) (seen_by chart line deeds))
    one_line line l m nothing =
        let sends = files (chart.begins line) l in
        let takes = files (chart.ends line) m in
        let far = named.apart line in
        record {
          begins = l;
          ends = m;
          sent = sends.told ∙ sym (sender_sees chart line far deeds on);
          received = takes.told ∙ sym (receiver_sees chart line far deeds on);
          shown = were_shown may_say may_show may_tell none (chart.crossing line) sender (before (chart.begins line)) (seen_by chart line deeds) (stretches (chart.begins line))
              (subst (λ l. WereSaidInFiles (chart.crossing line).from (before (chart.begins line)) l (stretches (chart.begins line))) (sym (sender_said chart line far deeds))
              (subst (λ n. WereSaidInFiles n (before (chart.begins line)) (sayings_at (λ there. chart.begins line == there) deeds) (stretches (chart.begins line))) (sym (named.from line)) sends.said));
          told = were_shown may_say may_show may_tell none (chart.crossing line) receiver (before (chart.ends line)) (seen_by chart line deeds) (stretches (chart.ends line))
              (subst (λ l. WereSaidInFiles (chart.crossing line).to (before (chart.ends line)) l (stretches (chart.ends line))) (sym (receiver_said chart line far deeds))
              (subst (λ n. WereSaidInFiles n (before (chart.ends line)) (sayings_at (λ there. chart.ends line == there) deeds) (stretches (chart.ends line))) (sym (named.to line)) takes.said));
          handover = record { nothing_kept = nothing; keeps = keeps (chart.crossing line) (seen_by chart line deeds) (goes_by_bundles chart name named line deeds around) };
        }

    pub all_over : (lines : List ℕ) → AreAmong chart count first lines → AllHandOver chart count first before stretches (λ line. events_of (chart.crossing line) (seen_by chart line deeds)) lines
    all_over [] among = tt
    all_over (line ∷ lines) (l, m, nothing, more) = (one_line line l m nothing, all_over lines more)

    pub all_free : (course : Course) (lines : List ℕ) → AllAreFree chart course (λ line. events_of (chart.crossing line) (seen_by chart line deeds)) lines → AreFreeOverAll chart course lines
    all_free course [] free = tt
    all_free course (line ∷ lines) free = (free.0 (forgets (chart.crossing line) (seen_by chart line deeds) (goes_by_bundles chart name named line deeds around)), all_free course lines free.1)
