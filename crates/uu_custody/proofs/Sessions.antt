-- Sessions of a site, event by event: what counts of them.
use Rattle.std.proofs.Common.{◌≡◌, inl, inr, ℕ, List, [], ◌∷◌, ◌++◌, map, length, take, refl, sym, ap, ap₂, subst, ◌∙◌}
use Rattle.std.proofs.Math.Seq.{take-append_seam}
use Rattle.std.proofs.lemmas.List.Elements.{All-head, All-tail, All-nil, All-cons}
use Rattle.std.proofs.lemmas.List.{nil_from_length}
use Rattle.uu_store.proofs.Running.{replies_length}
use Rattle.uu_core.specs.declared.command.Command.{Command}
use Rattle.uu_core.specs.declared.command.Reply.{Reply}
use Rattle.uu_core.specs.State.{State}
use Rattle.uu_core.specs.After.{after}
use Rattle.uu_core.specs.Run.{state_after, replies_to}
use Rattle.uu_handover.specs.Custody.{Crossing}
use Rattle.uu_store.specs.Exchanges.{Ending, Exchange, Counts, Passes}
use Rattle.uu_custody.specs.Events.{Notice, Noted, Session, just_opened, with_first, after_answer, begin_answered, begin_noticed, ended, IsTrueOf, AreTrue, PassesTruly}

-- ---- one exchange

pub heads : {X : Type 0} {x y : X} {xs ys : List X} → x ∷ xs ≡ y ∷ ys → x ≡ y
heads e = cc

pub tails : {X : Type 0} {x y : X} {xs ys : List X} → x ∷ xs ≡ y ∷ ys → xs ≡ ys
tails e = cc

-- a first command that was answered counts, and the rest counts from the state after it
record FirstCounts (exchange : Exchange) (s : State) (command : Command) (reply : Reply) (counted : List Command) : Type 0 where
  later : List Command
  counted_is : counted ≡ command ∷ later
  told : (after s command).1 ≡ reply
  counts : Counts exchange (after s command).0 later

first_counts : (command : Command) (reply : Reply) (exchange : Exchange) (s : State) (here : List Command) → Counts (after_answer command reply exchange) s here → FirstCounts exchange s command reply here
first_counts command reply exchange s [] counts = absurd (no_reply counts.answers)
  where
    no_reply : {l : List Reply} → [] ≡ reply ∷ l → ⊥
    no_reply e = cc
first_counts command reply exchange s (given ∷ later) counts = record {
  later = later;
  counted_is = ap (λ c. c ∷ later) (sym same);
  told = ap (λ c. (after s c).1) same ∙ own;
  counts = record {
    rest = counts.rest;
    prefix = behind;
    unheard = counts.unheard;
    whole = counts.whole;
    settled = counts.settled;
    answers = ap (λ c. replies_to (after s c).0 later) same ∙ others;
  };
}
  where
    same : command ≡ given
    same = heads counts.prefix

    behind : exchange.commands ≡ later ++ counts.rest
    behind = tails counts.prefix

    own : (after s given).1 ≡ reply
    own = heads counts.answers

    others : replies_to (after s given).0 later ≡ exchange.replies ++ counts.unheard
    others = tails counts.answers

-- nothing counts if nothing was given
none_counts : (s : State) (here : List Command) → Counts just_opened.exchange s here → here ≡ []
none_counts s [] counts = refl
none_counts s (command ∷ here) counts = absurd (none counts.prefix)
  where
    none : {l : List Command} → [] ≡ command ∷ l → ⊥
    none e = cc

-- at a stop nothing more counts, or the request in hand, whole
pub data LastCounts (in_hand : ℕ) (unanswered here : List Command) : Type 0 where
  nothing : here ≡ [] → LastCounts in_hand unanswered here
  whole : here ≡ take in_hand unanswered → LastCounts in_hand unanswered here

-- if the request counts, it is the first commands, as many as there are replies to them
first_are : (s : State) (here rest unanswered : List Command) (unheard : List Reply) → replies_to s here ≡ unheard → unanswered ≡ here ++ rest → here ≡ take (length unheard) unanswered
first_are s here rest unanswered unheard answers is = sym (ap₂ take (sym (ap length answers) ∙ replies_length s here) is ∙ take-append_seam here rest)

last_counts : (in_hand : ℕ) (unanswered : List Command) (ending : Ending) (s : State) (here : List Command) → Counts (ended in_hand unanswered ending).exchange s here → LastCounts in_hand unanswered here
last_counts in_hand unanswered ending s here counts = elim counts.whole [
  | inl none ↦ nothing (nil_from_length here (sym (replies_length s here) ∙ ap length (counts.answers ∙ none)))
  | inr all ↦ whole (subst (λ n. here ≡ take n unanswered) all (first_are s here counts.rest unanswered counts.unheard counts.answers counts.prefix))
]

-- ---- the sessions of a site

-- the first command was answered so, and the rest passes from the state after it
pub record FirstPasses (crossing : Crossing) (s : State) (command : Command) (reply : Reply) (sessions : List Session) (counted : List Command) : Type 0 where
  pub later : List Command
  pub counted_is : counted ≡ command ∷ later
  pub told : (after s command).1 ≡ reply
  pub passes : PassesTruly crossing (after s command).0 sessions later

true_behind : (crossing : Crossing) (s : State) (command : Command) (noted : List Noted) → AreTrue crossing s (map (λ (note : Noted). record note { answered = command ∷ note.answered }) noted) → AreTrue crossing (after s command).0 noted
true_behind crossing s command [] true = All-nil (λ (note : Noted). IsTrueOf crossing (state_after (after s command).0 note.answered) note.notice)
true_behind crossing s command (note ∷ noted) true =
    All-cons (λ (note : Noted). IsTrueOf crossing (state_after (after s command).0 note.answered) note.notice) note noted
    (All-head (λ (note : Noted). IsTrueOf crossing (state_after s note.answered) note.notice) (record note { answered = command ∷ note.answered }) _ true)
    (true_behind crossing s command noted (All-tail (λ (note : Noted). IsTrueOf crossing (state_after s note.answered) note.notice) (record note { answered = command ∷ note.answered }) _ true))

pub first_passes : (crossing : Crossing) (s : State) (command : Command) (reply : Reply) (sessions : List Session) (counted : List Command) → PassesTruly crossing s (with_first (begin_answered command reply) sessions) counted → FirstPasses crossing s command reply sessions counted
first_passes crossing s command reply [] counted (here, later, is, counts, true, none) =
    let one = first_counts command reply just_opened.exchange s here counts in
    record { later = []; counted_is = is ∙ ap (λ l. here ++ l) none ∙ ap (λ l. l ++ []) one.counted_is ∙ ap (λ l. command ∷ l ++ []) (none_counts (after s command).0 one.later one.counts); told = one.told; passes = refl }
first_passes crossing s command reply (session ∷ sessions) counted (here, later, is, counts, true, passes) =
    let one = first_counts command reply session.exchange s here counts in
    record {
      later = one.later ++ later;
      counted_is = is ∙ ap (λ l. l ++ later) one.counted_is;
      told = one.told;
      passes = (one.later, later, refl, one.counts, true_behind crossing s command session.noted true, subst (λ l. PassesTruly crossing (state_after s l) sessions later) one.counted_is passes);
    }

-- the notice was true, and the rest passes
pub noticed_passes : (crossing : Crossing) (s : State) (notice : Notice) (sessions : List Session) (counted : List Command) → PassesTruly crossing s (with_first (begin_noticed notice) sessions) counted → IsTrueOf crossing s notice × PassesTruly crossing s sessions counted
noticed_passes crossing s notice [] counted (here, later, is, counts, true, none) =
    (All-head (λ (note : Noted). IsTrueOf crossing (state_after s note.answered) note.notice) (record { answered = []; notice = notice }) [] true, is ∙ ap (λ l. here ++ l) none ∙ ap (λ l. l ++ []) (none_counts s here counts))
noticed_passes crossing s notice (session ∷ sessions) counted (here, later, is, counts, true, passes) = (
  All-head (λ (note : Noted). IsTrueOf crossing (state_after s note.answered) note.notice) (record { answered = []; notice = notice }) session.noted true,
  (here, later, is, counts, All-tail (λ (note : Noted). IsTrueOf crossing (state_after s note.answered) note.notice) (record { answered = []; notice = notice }) session.noted true, passes),
)

-- what counts at a stop, and the rest passes from the state after it
pub record LastPasses (crossing : Crossing) (s : State) (in_hand : ℕ) (unanswered : List Command) (sessions : List Session) (counted : List Command) : Type 0 where
  pub here : List Command
  pub later : List Command
  pub counted_is : counted ≡ here ++ later
  pub last : LastCounts in_hand unanswered here
  pub passes : PassesTruly crossing (state_after s here) sessions later

pub last_passes : (crossing : Crossing) (s : State) (in_hand : ℕ) (unanswered : List Command) (ending : Ending) (sessions : List Session) (counted : List Command) → PassesTruly crossing s (ended in_hand unanswered ending ∷ sessions) counted → LastPasses crossing s in_hand unanswered sessions counted
last_passes crossing s in_hand unanswered ending sessions counted (here, later, is, counts, true, passes) =
    record { here = here; later = later; counted_is = is; last = last_counts in_hand unanswered ending s here counts; passes = passes }

-- ---- its exchanges

abbrev pub exchanges_of : List Session → List Exchange
exchanges_of sessions = map (λ (session : Session). session.exchange) sessions

-- what passes so passes as exchanges
pub plainly : (crossing : Crossing) (s : State) (sessions : List Session) (counted : List Command) → PassesTruly crossing s sessions counted → Passes s (exchanges_of sessions) counted
plainly crossing s [] counted passes = passes
plainly crossing s (session ∷ sessions) counted (here, later, is, counts, true, passes) = (here, later, is, counts, plainly crossing (state_after s here) sessions later passes)
