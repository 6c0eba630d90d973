-- All lines of a history.
use Rattle.std.proofs.Common.{◌≡◌, ◌<◌, ◌++◌, ℕ, Bool, true, false, cond, ◌==◌, List, [], ◌∷◌, map, take, drop, All, Contains, Option, refl, sym, ap, subst, ◌∙◌, inl, inr, append-nil}
use Rattle.std.proofs.lemmas.List.{take-append-drop}
use Rattle.std.proofs.lemmas.List.Elements.{All-nil, Contains-append_left, Contains-push_cases}
use Rattle.std.proofs.lemmas.Bool.{eqb-true, eq-eqb}
use Rattle.uu_names.proofs.Basics.{all_from}
use Rattle.uu_core.specs.declared.command.Command.{Command}
use Rattle.uu_core.specs.declared.command.Reply.{Reply}
use Rattle.uu_core.specs.State.{State}
use Rattle.uu_custody.specs.AmongSites.{GoOn}
use Rattle.uu_bundle.specs.declared.bundle.Bundle.{Bundle}
use Rattle.uu_settings.specs.declared.settings.Settings.{Settings}
use Rattle.uuspool.specs.ServedLines.{AreTold, ServedRequest, ServedLine, commands_asked}
use Rattle.uu_carriers.specs.Texts.{Places, Act, stops, deed_of, IsOfLine, GoInTexts}
use Rattle.uu_carriers.specs.Lines.{Step, serves, ends, with_first, runs_at, AreWithin, AskForBundle, GoInLines, AreSites}
use Rattle.uu_carriers.proofs.Words.{StandsFor, Covers}
use Rattle.uu_carriers.proofs.Printed.{MayPack, MayAnswer}
use Rattle.uu_carriers.proofs.Runs.{RunData, answer_acts, pack_acts, exchanges_of, exchanges_packs, exchanges_here, exchanges_there, sayings_of, sayings_there, AreSaid, AreSaidFrom, begin_said, go_said, said_answers, said_packs, texts_line, on_line}
use Rattle.uu_carriers.proofs.Histories.{stands_later, exchange_of_run, Goes, AllGo, all_go_later, Next, next}

none_go : (places : Places) (packed : List Bundle) (site : ℕ) (runs : List RunData) → AllGo places packed site [] runs → runs ≡ []
none_go places packed site [] all = refl
none_go places packed site (run ∷ runs) all = absurd all

-- the run that goes on, and those after it
record First (places : Places) (packed : List Bundle) (site : ℕ) (lines : List ServedLine) (later : List (List ServedLine)) (runs : List RunData) : Type 0 where
  run : RunData
  more : List RunData
  runs_are : runs ≡ run ∷ more
  goes : Goes places packed site lines run
  rest : AllGo places packed site later more

first_go : (places : Places) (packed : List Bundle) (site : ℕ) (lines : List ServedLine) (later : List (List ServedLine)) (runs : List RunData) → AllGo places packed site (lines ∷ later) runs → First places packed site lines later runs
first_go places packed site lines later [] all = absurd all
first_go places packed site lines later (run ∷ more) all = record { run = run; more = more; runs_are = refl; goes = all.0; rest = all.1 }

-- the lines after the first one of a run
record Behind (line : ServedLine) (before : List (List ServedLine)) : Type 0 where
  lines : List ServedLine
  later : List (List ServedLine)
  are : before ≡ lines ∷ later
  first : with_first line before ≡ (line ∷ lines) ∷ later

behind_first : (line : ServedLine) (before : List (List ServedLine)) → (before ≡ [] → ⊥) → Behind line before
behind_first line [] some = absurd (some refl)
behind_first line (lines ∷ later) some = record { lines = lines; later = later; are = refl; first = refl }

-- after the last line there is no premise
record IsOver (asked : List (Option ServedRequest)) (replies : List Reply) : Type 0 where
  none_asked : asked ≡ []
  none_left : replies ≡ []

is_over : (settings : Settings) (s : State) (asked : List (Option ServedRequest)) (replies : List Reply) → AreTold settings s replies [] asked → IsOver asked replies
is_over settings s [] replies told = record { none_asked = refl; none_left = told }
is_over settings s (it ∷ asked) replies told = absurd told

first_of_lines : (places : Places) (packed : List Bundle) (site in_hand : ℕ) (commands : List Command) → ((command : Command) → Contains commands command → IsOfLine places packed site command) → All (IsOfLine places packed site) (take in_hand commands)
first_of_lines places packed site in_hand commands each =
    all_from (IsOfLine places packed site) (take in_hand commands)
    (λ command there. each command (subst (λ l. Contains l command) (take-append-drop in_hand commands) (Contains-append_left (take in_hand commands) (drop in_hand commands) command there)))

module _ (places : Places) (count : ℕ) (sites : AreSites places count) (may_pack : MayPack) (may_answer : MayAnswer) where
  -- a history in texts of these steps, if the runs at each site go on so
  pub record History (packed : List Bundle) (runs : ℕ → List RunData) : Type 0 where
    pub acts : List Act
    pub around : GoInTexts places packed acts
    pub on : GoOn (map deed_of acts)
    pub told : (site : ℕ) → site < count → exchanges_of site acts ≡ map exchange_of_run (runs site)
    pub said : (site : ℕ) → site < count → AreSaid (places.name site) (runs site) (sayings_of site acts)

  abbrev Go : List Bundle → List Step → (ℕ → List RunData) → Type 0
  Go packed steps runs = (site : ℕ) → site < count → AllGo places packed site (runs_at site steps) (runs site)

  -- the runs at one site become these
  abbrev put : (ℕ → List RunData) → ℕ → List RunData → ℕ → List RunData
  put runs there these other = cond (other == there) these (runs other)

  put_here : (runs : ℕ → List RunData) (there : ℕ) (these : List RunData) → put runs there these there ≡ these
  put_here runs there these = ap (λ t. cond t these (runs there)) (eq-eqb there there refl)

  put_there : (runs : ℕ → List RunData) (there : ℕ) (these : List RunData) (other : ℕ) → other == there ≡ false → put runs there these other ≡ runs other
  put_there runs there these other e = ap (λ t. cond t these (runs other)) e

  -- ---- a line

  module _ (there : ℕ) (line : ServedLine) (steps : List Step) (packed : List Bundle) (lines : List ServedLine) (covers : Covers packed lines) (runs : ℕ → List RunData) (l : there < count)
      (b : Behind line (runs_at there steps)) (f : First places packed there (line ∷ b.lines) b.later (runs there)) (n : Next places may_pack may_answer there (sites.names there l) (sites.words there l) packed lines covers line b.lines f.run) where
    abbrev then_runs : ℕ → List RunData
    then_runs = put runs there (n.then ∷ f.more)

    then_go : Go packed (serves there line ∷ steps) runs → Go (packed ++ n.new) steps then_runs
    then_go all site m = by-test (site == there) refl
      where
        by-test : (t : Bool) → site == there ≡ t → AllGo places (packed ++ n.new) site (runs_at site steps) (cond t (n.then ∷ f.more) (runs site))
        by-test true e =
            subst (λ k. AllGo places (packed ++ n.new) k (runs_at k steps) (n.then ∷ f.more)) (sym (eqb-true site there e))
            (subst (λ r. AllGo places (packed ++ n.new) there r (n.then ∷ f.more)) (sym b.are) (n.goes, all_go_later places packed n.new there b.later f.more f.rest))
        by-test false e = all_go_later places packed n.new site (runs_at site steps) (runs site)
            (subst (λ t. AllGo places packed site (cond t (with_first line (runs_at site steps)) (runs_at site steps)) (runs site)) e (all site m))

    module _ (rest : History (packed ++ n.new) then_runs) where
      abbrev line_acts : List Act
      line_acts = answer_acts there n.commands f.run.replies (pack_acts there n.new rest.acts)

      told_then : exchanges_of there rest.acts ≡ exchange_of_run n.then ∷ map exchange_of_run f.more
      told_then = rest.told there l ∙ ap (map exchange_of_run) (put_here runs there (n.then ∷ f.more))

      told_here : exchanges_of there line_acts ≡ map exchange_of_run (runs there)
      told_here =
          exchanges_here there n.commands f.run.replies (pack_acts there n.new rest.acts) (exchange_of_run n.then) (map exchange_of_run f.more) (exchanges_packs there there n.new rest.acts ∙ told_then)
          ∙ ap (λ e. e ∷ map exchange_of_run f.more) (sym n.exchange_is)
          ∙ ap (map exchange_of_run) (sym f.runs_are)

      told_there : (site : ℕ) → site < count → site == there ≡ false → exchanges_of site line_acts ≡ map exchange_of_run (runs site)
      told_there site m e =
          exchanges_there site there n.commands f.run.replies (pack_acts there n.new rest.acts) e ∙ exchanges_packs site there n.new rest.acts
          ∙ rest.told site m ∙ ap (map exchange_of_run) (put_there runs there (n.then ∷ f.more) site e)

      said_here : f.run.is_started ≡ true → AreSaid (places.name there) (runs there) (sayings_of there line_acts)
      said_here started =
          let later : AreSaid (places.name there) (n.then ∷ f.more) (sayings_of there rest.acts) = subst (λ r. AreSaid (places.name there) r (sayings_of there rest.acts)) (put_here runs there (n.then ∷ f.more)) (rest.said there l) in
          let packs = said_packs (places.name there) there n.new rest.acts n.then.state f.more n.said (go_said (places.name there) n.then f.more (sayings_of there rest.acts) later) in
          let answers = said_answers (places.name there) there n.commands f.run.replies (pack_acts there n.new rest.acts) f.run.state f.more
          (subst (λ (s : State). AreSaidFrom (places.name there) s f.more (sayings_of there (pack_acts there n.new rest.acts))) n.state_is packs) in
          subst (λ r. AreSaid (places.name there) r (sayings_of there line_acts)) (sym f.runs_are) (begin_said (places.name there) f.run f.more (sayings_of there line_acts) started answers)

      said_there : (site : ℕ) → site < count → site == there ≡ false → AreSaid (places.name site) (runs site) (sayings_of site line_acts)
      said_there site m e =
          subst (λ s. AreSaid (places.name site) (runs site) s) (sym (sayings_there site there n.commands f.run.replies n.new rest.acts e))
          (subst (λ r. AreSaid (places.name site) r (sayings_of site rest.acts)) (put_there runs there (n.then ∷ f.more) site e) (rest.said site m))

      with_line : f.run.is_started ≡ true → History packed runs
      with_line started = record {
        acts = line_acts;
        around = texts_line places packed there n.commands f.run.replies n.new rest.acts n.each n.good rest.around;
        on = on_line there n.commands f.run.replies n.new rest.acts (λ none. let some = sym told_then ∙ none in cc) rest.on;
        told = λ site m. by_told site m (site == there) refl;
        said = λ site m. by-said site m (site == there) refl;
      }
        where
          by_told : (site : ℕ) → site < count → (t : Bool) → site == there ≡ t → exchanges_of site line_acts ≡ map exchange_of_run (runs site)
          by_told site m true e = subst (λ k. exchanges_of k line_acts ≡ map exchange_of_run (runs k)) (sym (eqb-true site there e)) told_here
          by_told site m false e = told_there site m e

          by-said : (site : ℕ) → site < count → (t : Bool) → site == there ≡ t → AreSaid (places.name site) (runs site) (sayings_of site line_acts)
          by-said site m true e = subst (λ k. AreSaid (places.name k) (runs k) (sayings_of k line_acts)) (sym (eqb-true site there e)) (said_here started)
          by-said site m false e = said_there site m e

  -- ---- the end of a run

  module _ (there : ℕ) (steps : List Step) (packed : List Bundle) (runs : ℕ → List RunData) (l : there < count) (f : First places packed there [] (runs_at there steps) (runs there)) where
    abbrev later_runs : ℕ → List RunData
    later_runs = put runs there f.more

    later_go : Go packed (ends there ∷ steps) runs → Go packed steps later_runs
    later_go all site m = by-test (site == there) refl
      where
        by-test : (t : Bool) → site == there ≡ t → AllGo places packed site (runs_at site steps) (cond t f.more (runs site))
        by-test true e = subst (λ k. AllGo places packed k (runs_at k steps) f.more) (sym (eqb-true site there e)) f.rest
        by-test false e = subst (λ t. AllGo places packed site (cond t ([] ∷ runs_at site steps) (runs_at site steps)) (runs site)) e (all site m)

    module _ (rest : History packed later_runs) where
      abbrev end_acts : List Act
      end_acts = stops there f.run.in_hand f.run.pending f.run.ending ∷ rest.acts

      over : IsOver f.run.asked f.run.replies
      over = is_over f.run.settings f.goes.from f.run.asked f.run.replies f.goes.told

      end_is : exchange_of_run f.run ≡ record { commands = f.run.pending; replies = []; in_hand = f.run.in_hand; ending = f.run.ending }
      end_is =
          ap (λ a. record { commands = f.run.pending ++ commands_asked a; replies = f.run.replies; in_hand = f.run.in_hand; ending = f.run.ending }) over.none_asked
          ∙ ap (λ c. record { commands = c; replies = f.run.replies; in_hand = f.run.in_hand; ending = f.run.ending }) (append-nil f.run.pending)
          ∙ ap (λ r. record { commands = f.run.pending; replies = r; in_hand = f.run.in_hand; ending = f.run.ending }) over.none_left

      ended_here : exchanges_of there end_acts ≡ map exchange_of_run (runs there)
      ended_here =
          ap (λ t. cond t (record { commands = f.run.pending; replies = []; in_hand = f.run.in_hand; ending = f.run.ending } ∷ exchanges_of there rest.acts) (exchanges_of there rest.acts)) (eq-eqb there there refl)
          ∙ ap (λ l. record { commands = f.run.pending; replies = []; in_hand = f.run.in_hand; ending = f.run.ending } ∷ l) (rest.told there l ∙ ap (map exchange_of_run) (put_here runs there f.more))
          ∙ ap (λ e. e ∷ map exchange_of_run f.more) (sym end_is)
          ∙ ap (map exchange_of_run) (sym f.runs_are)

      ended_there : (site : ℕ) → site < count → site == there ≡ false → exchanges_of site end_acts ≡ map exchange_of_run (runs site)
      ended_there site m e =
          ap (λ t. cond t (record { commands = f.run.pending; replies = []; in_hand = f.run.in_hand; ending = f.run.ending } ∷ exchanges_of site rest.acts) (exchanges_of site rest.acts)) e
          ∙ rest.told site m ∙ ap (map exchange_of_run) (put_there runs there f.more site e)

      silent_here : AreSaid (places.name there) (runs there) (sayings_of there end_acts)
      silent_here =
          subst (λ r. AreSaid (places.name there) r (sayings_of there end_acts)) (sym f.runs_are)
          (subst (λ t. AreSaid (places.name there) (f.run ∷ f.more) (cond t ([] ∷ sayings_of there rest.acts) (sayings_of there rest.acts))) (sym (eq-eqb there there refl))
          ((λ not. refl, All-nil _), subst (λ r. AreSaid (places.name there) r (sayings_of there rest.acts)) (put_here runs there f.more) (rest.said there l)))

      silent_there : (site : ℕ) → site < count → site == there ≡ false → AreSaid (places.name site) (runs site) (sayings_of site end_acts)
      silent_there site m e =
          subst (λ t. AreSaid (places.name site) (runs site) (cond t ([] ∷ sayings_of site rest.acts) (sayings_of site rest.acts))) (sym e)
          (subst (λ r. AreSaid (places.name site) r (sayings_of site rest.acts)) (put_there runs there f.more site e) (rest.said site m))

      with_end : History packed runs
      with_end = record {
        acts = end_acts;
        around = (first_of_lines places packed there f.run.in_hand f.run.pending f.goes.pending, subst (λ p. GoInTexts places p rest.acts) (sym (append-nil packed)) rest.around);
        on = rest.on;
        told = λ site m. by_told site m (site == there) refl;
        said = λ site m. by-said site m (site == there) refl;
      }
        where
          by_told : (site : ℕ) → site < count → (t : Bool) → site == there ≡ t → exchanges_of site end_acts ≡ map exchange_of_run (runs site)
          by_told site m true e = subst (λ k. exchanges_of k end_acts ≡ map exchange_of_run (runs k)) (sym (eqb-true site there e)) ended_here
          by_told site m false e = ended_there site m e

          by-said : (site : ℕ) → site < count → (t : Bool) → site == there ≡ t → AreSaid (places.name site) (runs site) (sayings_of site end_acts)
          by-said site m true e = subst (λ k. AreSaid (places.name k) (runs k) (sayings_of k end_acts)) (sym (eqb-true site there e)) silent_here
          by-said site m false e = silent_there site m e

  -- ---- all of it

  covers_more : (packed new : List Bundle) (lines : List ServedLine) (line : ServedLine) → Covers packed lines → (AskForBundle line → StandsFor (packed ++ new) line.output) → Covers (packed ++ new) (lines ++ line ∷ [])
  covers_more packed new lines line covers stands one there asks = elim (Contains-push_cases lines line one there) [
    | inl was ↦ stands_later packed new one.output (covers one was asks)
    | inr same ↦ subst (λ (o : ServedLine). StandsFor (packed ++ new) o.output) same (stands (subst AskForBundle (sym same) asks))
  ]

  started_run : (t : Bool) (lines : List ServedLine) (line : ServedLine) → (t ≡ false → line ∷ lines ≡ []) → t ≡ true
  started_run true lines line idle = refl
  started_run false lines line idle = absurd (let never = idle refl in cc)

  none_at_all : (packed : List Bundle) (runs : ℕ → List RunData) → Go packed [] runs → History packed runs
  none_at_all packed runs all = record {
    acts = [];
    around = tt;
    on = tt;
    told = λ site m. ap (map exchange_of_run) (sym (none_go places packed site (runs site) (all site m)));
    said = λ site m. subst (λ r. AreSaid (places.name site) r []) (sym (none_go places packed site (runs site) (all site m))) tt;
  }

  pub go_all : (steps : List Step) (lines : List ServedLine) (packed : List Bundle) (runs : ℕ → List RunData) → Covers packed lines → GoInLines places lines steps → AreWithin count steps → Go packed steps runs → History packed runs
  go_all [] lines packed runs covers typed within all = none_at_all packed runs all
  go_all (serves there line ∷ steps) lines packed runs covers typed within all =
      let b = behind_first line (runs_at there steps) within.1 in
      let here : AllGo places packed there ((line ∷ b.lines) ∷ b.later) (runs there) = subst (λ r. AllGo places packed there r (runs there)) (ap (λ t. cond t (with_first line (runs_at there steps)) (runs_at there steps)) (eq-eqb there there refl) ∙ b.first) (all there within.0) in
      let f = first_go places packed there (line ∷ b.lines) b.later (runs there) here in
      let n = next places may_pack may_answer there (sites.names there within.0) (sites.words there within.0) packed lines covers line b.lines f.run typed.0 f.goes in
      with_line there line steps packed lines covers runs within.0 b f n
      (go_all steps (lines ++ line ∷ []) (packed ++ n.new) (then_runs there line steps packed lines covers runs within.0 b f n) (covers_more packed n.new lines line covers n.stands) typed.1 within.2
      (then_go there line steps packed lines covers runs within.0 b f n all))
      (started_run f.run.is_started b.lines line f.goes.idle)
  go_all (ends there ∷ steps) lines packed runs covers typed within all =
      let here : AllGo places packed there ([] ∷ runs_at there steps) (runs there) = subst (λ r. AllGo places packed there r (runs there)) (ap (λ t. cond t ([] ∷ runs_at there steps) (runs_at there steps)) (eq-eqb there there refl)) (all there within.0) in
      let f = first_go places packed there [] (runs_at there steps) (runs there) here in
      with_end there steps packed runs within.0 f (go_all steps lines packed (later_runs there steps packed runs within.0 f) covers typed within.1 (later_go there steps packed runs within.0 f all))
