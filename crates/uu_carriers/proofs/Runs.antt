-- What a line gives a spool, as acts of a history in texts.
use Rattle.std.proofs.Common.{◌≡◌, ◌⊎◌, ◌≤◌, ◌++◌, ℕ, Bool, true, false, cond, ◌==◌, List, [], ◌∷◌, length, drop, map, All, Contains, refl, sym, ap, subst, ◌∙◌, arith, inl, inr, append-nil, append_assoc, true≢false, Option}
use Rattle.std.specs.Prelude.{⊤}
use Rattle.std.proofs.lemmas.List.{drop_all}
use Rattle.std.proofs.lemmas.List.Elements.{All-nil, All-cons, All-contains}
use Rattle.std.proofs.lemmas.Bool.{eq-eqb}
use Rattle.uu_names.proofs.Basics.{first_of, later_of, from_map, all_from}
use Rattle.uu_core.specs.declared.command.Command.{Command}
use Rattle.uu_core.specs.declared.command.Reply.{Reply}
use Rattle.uu_core.specs.State.{State}
use Rattle.uu_core.specs.Run.{state_after}
use Rattle.uu_core.specs.After.{after}
use Rattle.uu_store.specs.Exchanges.{Ending, Exchange}
use Rattle.uu_custody.specs.Events.{after_answer}
use Rattle.uu_custody.specs.Carried.{Saying, sayings_at, IsSaidBy}
use Rattle.uu_custody.specs.Carried.{with_first as with_first_said, after_answer as after_command}
use Rattle.uu_custody.specs.AmongSites.{exchanges_in, with_first, GoOn}
use Rattle.uu_bundle.specs.Bundles.{IsBundle}
use Rattle.uu_bundle.specs.declared.bundle.Bundle.{Bundle}
use Rattle.uu_settings.specs.declared.settings.Settings.{Settings}
use Rattle.uu_request.specs.Carried.{said_of}
use Rattle.uuspool.specs.ServedLines.{ServedRequest}
use Rattle.uu_carriers.specs.Texts.{Places, Act, runs, packs, deed_of, IsOfLine, GoInTexts}

-- ---- commands and the replies that came

-- those that were answered, those that weren't, and the replies after theirs
abbrev pub heard : List Command → List Reply → List Command
heard [] replies = []
heard (command ∷ commands) [] = []
heard (command ∷ commands) (reply ∷ replies) = command ∷ heard commands replies

abbrev pub unheard : List Command → List Reply → List Command
unheard [] replies = []
unheard (command ∷ commands) [] = command ∷ commands
unheard (command ∷ commands) (reply ∷ replies) = unheard commands replies

abbrev pub beyond : List Command → List Reply → List Reply
beyond [] replies = replies
beyond (command ∷ commands) [] = []
beyond (command ∷ commands) (reply ∷ replies) = beyond commands replies

pub beyond_is : (commands : List Command) (replies : List Reply) → drop (length commands) replies ≡ beyond commands replies
beyond_is [] replies = refl
beyond_is (command ∷ commands) [] = drop_all (length (command ∷ commands)) [] (omega arith)
beyond_is (command ∷ commands) (reply ∷ replies) = beyond_is commands replies

pub all_heard : (commands : List Command) (replies : List Reply) → length commands ≤ length replies → (unheard commands replies ≡ []) × (heard commands replies ≡ commands)
all_heard [] replies l = (refl, refl)
all_heard (command ∷ commands) [] l = absurd (omega (arith, l))
all_heard (command ∷ commands) (reply ∷ replies) l = let it = all_heard commands replies (omega (arith, l)) in (it.0, ap (λ t. command ∷ t) it.1)

pub heard_or_none : (commands : List Command) (replies : List Reply) → ((unheard commands replies ≡ []) × (heard commands replies ≡ commands)) ⊎ (beyond commands replies ≡ [])
heard_or_none [] replies = inl (refl, refl)
heard_or_none (command ∷ commands) [] = inr refl
heard_or_none (command ∷ commands) (reply ∷ replies) = elim (heard_or_none commands replies) [
  | inl it ↦ inl (it.0, ap (λ t. command ∷ t) it.1)
  | inr none ↦ inr none
]

pub none_beyond : (commands : List Command) → beyond commands [] ≡ []
none_beyond [] = refl
none_beyond (command ∷ commands) = refl

pub in_unheard : (commands : List Command) (replies : List Reply) (command : Command) → Contains (unheard commands replies) command → Contains commands command
in_unheard [] replies command there = there
in_unheard (first ∷ commands) [] command there = there
in_unheard (first ∷ commands) (reply ∷ replies) command there = later_of first command commands (in_unheard commands replies command there)

-- ---- a run, from some line on

-- What a run was given that was not answered yet, what its lines from here on came to, the replies
-- that are left, how many commands of a request may have been in hand as it ended, how it ended, and
-- the state that its spool shows.
pub record RunData : Type 0 where
  pub settings : Settings
  pub is_started : Bool
  pub pending : List Command
  pub asked : List (Option ServedRequest)
  pub replies : List Reply
  pub in_hand : ℕ
  pub ending : Ending
  pub state : State

abbrev made : List Command → List Reply → ℕ → Ending → Exchange
made commands replies in_hand ending = record { commands = commands; replies = replies; in_hand = in_hand; ending = ending }

-- ---- acts

abbrev pub answer_acts : ℕ → List Command → List Reply → List Act → List Act
answer_acts site [] replies acts = acts
answer_acts site (command ∷ commands) [] acts = acts
answer_acts site (command ∷ commands) (reply ∷ replies) acts = runs site command reply ∷ answer_acts site commands replies acts

abbrev pub pack_acts : ℕ → List Bundle → List Act → List Act
pack_acts site [] acts = acts
pack_acts site (bundle ∷ bundles) acts = packs site bundle ∷ pack_acts site bundles acts

abbrev pub before_them : List Command → List Reply → Exchange → Exchange
before_them [] replies exchange = exchange
before_them (command ∷ commands) [] exchange = exchange
before_them (command ∷ commands) (reply ∷ replies) exchange = after_answer command reply (before_them commands replies exchange)

plain_then : (commands behind : List Command) (replies : List Reply) (in_hand : ℕ) (ending : Ending) → before_them commands replies (made (unheard commands replies ++ behind) (beyond commands replies) in_hand ending) ≡ made (commands ++ behind) replies in_hand ending
plain_then [] behind replies in_hand ending = refl
plain_then (command ∷ commands) behind [] in_hand ending = refl
plain_then (command ∷ commands) behind (reply ∷ replies) in_hand ending = ap (after_answer command reply) (plain_then commands behind replies in_hand ending)

late_then : (pending commands behind : List Command) (in_hand : ℕ) (ending : Ending) → before_them commands [] (made ((pending ++ unheard commands []) ++ behind) (beyond commands []) in_hand ending) ≡ made (pending ++ (commands ++ behind)) [] in_hand ending
late_then pending [] behind in_hand ending = ap (λ l. made (l ++ behind) [] in_hand ending) (append-nil pending)
late_then pending (command ∷ commands) behind in_hand ending = ap (λ l. made l [] in_hand ending) (append_assoc pending (command ∷ commands) behind)

-- the exchange of a run from a line on is that from the next line on, after the answers of the line
pub exchange_then : (pending commands behind : List Command) (replies : List Reply) (in_hand : ℕ) (ending : Ending) → (pending ≡ []) ⊎ (replies ≡ [])
    → before_them commands replies (made ((pending ++ unheard commands replies) ++ behind) (beyond commands replies) in_hand ending) ≡ made (pending ++ (commands ++ behind)) replies in_hand ending
exchange_then pending commands behind replies in_hand ending (inl none) =
    subst (λ p. before_them commands replies (made ((p ++ unheard commands replies) ++ behind) (beyond commands replies) in_hand ending) ≡ made (p ++ (commands ++ behind)) replies in_hand ending) (sym none) (plain_then commands behind replies in_hand ending)
exchange_then pending commands behind replies in_hand ending (inr none) =
    subst (λ r. before_them commands r (made ((pending ++ unheard commands r) ++ behind) (beyond commands r) in_hand ending) ≡ made (pending ++ (commands ++ behind)) r in_hand ending) (sym none) (late_then pending commands behind in_hand ending)

-- ---- what each site has of them

abbrev pub exchanges_of : ℕ → List Act → List Exchange
exchanges_of site acts = exchanges_in site (map deed_of acts)

pub exchanges_packs : (other site : ℕ) (bundles : List Bundle) (acts : List Act) → exchanges_of other (pack_acts site bundles acts) ≡ exchanges_of other acts
exchanges_packs other site [] acts = refl
exchanges_packs other site (bundle ∷ bundles) acts = exchanges_packs other site bundles acts

pub exchanges_here : (site : ℕ) (commands : List Command) (replies : List Reply) (acts : List Act) (first : Exchange) (more : List Exchange) → exchanges_of site acts ≡ first ∷ more
    → exchanges_of site (answer_acts site commands replies acts) ≡ before_them commands replies first ∷ more
exchanges_here site [] replies acts first more same = same
exchanges_here site (command ∷ commands) [] acts first more same = same
exchanges_here site (command ∷ commands) (reply ∷ replies) acts first more same =
    ap (λ t. cond t (with_first (after_answer command reply) (exchanges_of site (answer_acts site commands replies acts))) (exchanges_of site (answer_acts site commands replies acts))) (eq-eqb site site refl)
    ∙ ap (with_first (after_answer command reply)) (exchanges_here site commands replies acts first more same)

pub exchanges_there : (other site : ℕ) (commands : List Command) (replies : List Reply) (acts : List Act) → other == site ≡ false → exchanges_of other (answer_acts site commands replies acts) ≡ exchanges_of other acts
exchanges_there other site [] replies acts apart = refl
exchanges_there other site (command ∷ commands) [] acts apart = refl
exchanges_there other site (command ∷ commands) (reply ∷ replies) acts apart =
    ap (λ t. cond t (with_first (after_answer command reply) (exchanges_of other (answer_acts site commands replies acts))) (exchanges_of other (answer_acts site commands replies acts))) apart
    ∙ exchanges_there other site commands replies acts apart

abbrev pub sayings_of : ℕ → List Act → List (List Saying)
sayings_of site acts = sayings_at (λ there. site == there) (map deed_of acts)

packs_there : (other site : ℕ) (bundles : List Bundle) (acts : List Act) → other == site ≡ false → sayings_of other (pack_acts site bundles acts) ≡ sayings_of other acts
packs_there other site [] acts apart = refl
packs_there other site (bundle ∷ bundles) acts apart =
    ap (λ t. cond t (with_first_said (λ sayings. record { answered = []; bundle = said_of bundle } ∷ sayings) (sayings_of other (pack_acts site bundles acts))) (sayings_of other (pack_acts site bundles acts))) apart
    ∙ packs_there other site bundles acts apart

pub sayings_there : (other site : ℕ) (commands : List Command) (replies : List Reply) (bundles : List Bundle) (acts : List Act) → other == site ≡ false → sayings_of other (answer_acts site commands replies (pack_acts site bundles acts)) ≡ sayings_of other acts
sayings_there other site [] replies bundles acts apart = packs_there other site bundles acts apart
sayings_there other site (command ∷ commands) [] bundles acts apart = packs_there other site bundles acts apart
sayings_there other site (command ∷ commands) (reply ∷ replies) bundles acts apart =
    ap (λ t. cond t (with_first_said (map (after_command command)) (sayings_of other (answer_acts site commands replies (pack_acts site bundles acts)))) (sayings_of other (answer_acts site commands replies (pack_acts site bundles acts)))) apart
    ∙ sayings_there other site commands replies bundles acts apart

-- ---- what was said is true

abbrev IsTrueFrom : List ℕ → State → Saying → Type 0
IsTrueFrom own s saying = IsSaidBy own (state_after s saying.answered) saying.bundle

-- in each run, what was said from a line on held in the states that its spool showed; if no spool
-- was started, nothing was said
abbrev pub AreSaid : List ℕ → List RunData → List (List Saying) → Type 0
AreSaid own [] said = ⊤
AreSaid own (run ∷ more) [] = ⊤
AreSaid own (run ∷ more) (sayings ∷ said) =
    ((run.is_started ≡ false → sayings ≡ []) × All (λ (saying : Saying). IsSaidBy own (state_after run.state saying.answered) saying.bundle) sayings) × AreSaid own more said

-- the same of a run that was started and shows this
abbrev pub AreSaidFrom : List ℕ → State → List RunData → List (List Saying) → Type 0
AreSaidFrom own s more [] = ⊤
AreSaidFrom own s more (sayings ∷ said) = All (λ (saying : Saying). IsSaidBy own (state_after s saying.answered) saying.bundle) sayings × AreSaid own more said

none_said : (own : List ℕ) (more : List RunData) → AreSaid own more []
none_said own [] = tt
none_said own (run ∷ more) = tt

pub begin_said : (own : List ℕ) (run : RunData) (more : List RunData) (said : List (List Saying)) → run.is_started ≡ true → AreSaidFrom own run.state more said → AreSaid own (run ∷ more) said
begin_said own run more [] started are = tt
begin_said own run more (sayings ∷ said) started are = ((λ not. absurd (true≢false (sym started ∙ not)), are.0), are.1)

pub go_said : (own : List ℕ) (run : RunData) (more : List RunData) (said : List (List Saying)) → AreSaid own (run ∷ more) said → AreSaidFrom own run.state more said
go_said own run more [] are = tt
go_said own run more (sayings ∷ said) are = (are.0.1, are.1)

later_true : (own : List ℕ) (s : State) (command : Command) (sayings : List Saying) → All (IsTrueFrom own (after s command).0) sayings → All (IsTrueFrom own s) (map (after_command command) sayings)
later_true own s command sayings all = all_from (IsTrueFrom own s) (map (after_command command) sayings) (λ saying there.
    let one = from_map (after_command command) sayings saying there in
    subst (IsTrueFrom own s) one.2 (All-contains (IsTrueFrom own (after s command).0) sayings one.0 all one.1))

pub said_answers : (own : List ℕ) (site : ℕ) (commands : List Command) (replies : List Reply) (acts : List Act) (s : State) (more : List RunData) → AreSaidFrom own (state_after s (heard commands replies)) more (sayings_of site acts)
    → AreSaidFrom own s more (sayings_of site (answer_acts site commands replies acts))
said_answers own site [] replies acts s more are = are
said_answers own site (command ∷ commands) [] acts s more are = are
said_answers own site (command ∷ commands) (reply ∷ replies) acts s more are =
    let rest = said_answers own site commands replies acts (after s command).0 more are in
    subst (λ t. AreSaidFrom own s more (cond t (with_first_said (map (after_command command)) (sayings_of site (answer_acts site commands replies acts))) (sayings_of site (answer_acts site commands replies acts)))) (sym (eq-eqb site site refl))
    (behind (sayings_of site (answer_acts site commands replies acts)) rest)
  where
    behind : (said : List (List Saying)) → AreSaidFrom own (after s command).0 more said → AreSaidFrom own s more (with_first_said (map (after_command command)) said)
    behind [] are = (All-nil (IsTrueFrom own s), none_said own more)
    behind (sayings ∷ said) are = (later_true own s command sayings are.0, are.1)

pub said_packs : (own : List ℕ) (site : ℕ) (bundles : List Bundle) (acts : List Act) (s : State) (more : List RunData) → ((bundle : Bundle) → Contains bundles bundle → IsSaidBy own s (said_of bundle))
    → AreSaidFrom own s more (sayings_of site acts) → AreSaidFrom own s more (sayings_of site (pack_acts site bundles acts))
said_packs own site [] acts s more each are = are
said_packs own site (bundle ∷ bundles) acts s more each are =
    let rest = said_packs own site bundles acts s more (λ one there. each one (later_of bundle one bundles there)) are in
    subst (λ t. AreSaidFrom own s more (cond t (with_first_said (λ sayings. record { answered = []; bundle = said_of bundle } ∷ sayings) (sayings_of site (pack_acts site bundles acts))) (sayings_of site (pack_acts site bundles acts)))) (sym (eq-eqb site site refl))
    (behind (sayings_of site (pack_acts site bundles acts)) rest)
  where
    behind : (said : List (List Saying)) → AreSaidFrom own s more said → AreSaidFrom own s more (with_first_said (λ sayings. record { answered = []; bundle = said_of bundle } ∷ sayings) said)
    behind [] are = (All-cons (IsTrueFrom own s) (record { answered = []; bundle = said_of bundle }) [] (each bundle (first_of bundle bundles)) (All-nil (IsTrueFrom own s)), none_said own more)
    behind (sayings ∷ said) are = (All-cons (IsTrueFrom own s) (record { answered = []; bundle = said_of bundle }) sayings (each bundle (first_of bundle bundles)) are.0, are.1)

-- ---- they go in texts

module _ (places : Places) where
  texts_answers : (packed : List Bundle) (site : ℕ) (commands : List Command) (replies : List Reply) (acts : List Act) → ((command : Command) → Contains commands command → IsOfLine places packed site command)
      → GoInTexts places packed acts → GoInTexts places packed (answer_acts site commands replies acts)
  texts_answers packed site [] replies acts each around = around
  texts_answers packed site (command ∷ commands) [] acts each around = around
  texts_answers packed site (command ∷ commands) (reply ∷ replies) acts each around = (
    each command (first_of command commands),
    subst (λ l. GoInTexts places l (answer_acts site commands replies acts)) (sym (append-nil packed)) (texts_answers packed site commands replies acts (λ one there. each one (later_of command one commands there)) around),
  )

  texts_packs : (packed : List Bundle) (site : ℕ) (bundles : List Bundle) (acts : List Act)
      → ((bundle : Bundle) → Contains bundles bundle → IsBundle bundle × (bundle.from ≡ places.name site) × (bundle.spool ≡ places.word site))
      → GoInTexts places (packed ++ bundles) acts → GoInTexts places packed (pack_acts site bundles acts)
  texts_packs packed site [] acts each around = subst (λ l. GoInTexts places l acts) (append-nil packed) around
  texts_packs packed site (bundle ∷ bundles) acts each around = (
    each bundle (first_of bundle bundles),
    texts_packs (packed ++ bundle ∷ []) site bundles acts (λ one there. each one (later_of bundle one bundles there)) (subst (λ l. GoInTexts places l acts) (sym (append_assoc packed (bundle ∷ []) bundles)) around),
  )

  pub texts_line : (packed : List Bundle) (site : ℕ) (commands : List Command) (replies : List Reply) (bundles : List Bundle) (acts : List Act) → ((command : Command) → Contains commands command → IsOfLine places packed site command)
      → ((bundle : Bundle) → Contains bundles bundle → IsBundle bundle × (bundle.from ≡ places.name site) × (bundle.spool ≡ places.word site))
      → GoInTexts places (packed ++ bundles) acts → GoInTexts places packed (answer_acts site commands replies (pack_acts site bundles acts))
  texts_line packed site commands replies bundles acts each good around = texts_answers packed site commands replies (pack_acts site bundles acts) each (texts_packs packed site bundles acts good around)

-- after each of them comes an answer or a stop of the site
on_packs : (site : ℕ) (bundles : List Bundle) (acts : List Act) → (exchanges_of site acts ≡ [] → ⊥) → GoOn (map deed_of acts) → GoOn (map deed_of (pack_acts site bundles acts))
on_packs site [] acts some on = on
on_packs site (bundle ∷ bundles) acts some on = (λ none. some (sym (exchanges_packs site site bundles acts) ∙ none), on_packs site bundles acts some on)

pub on_line : (site : ℕ) (commands : List Command) (replies : List Reply) (bundles : List Bundle) (acts : List Act) → (exchanges_of site acts ≡ [] → ⊥) → GoOn (map deed_of acts) → GoOn (map deed_of (answer_acts site commands replies (pack_acts site bundles acts)))
on_line site [] replies bundles acts some on = on_packs site bundles acts some on
on_line site (command ∷ commands) [] bundles acts some on = on_packs site bundles acts some on
on_line site (command ∷ commands) (reply ∷ replies) bundles acts some on = on_line site commands replies bundles acts some on
