-- What happened over the files of sites is a history in texts.
use Rattle.std.proofs.Common.{◌≡◌, ◌<◌, ℕ, Bool, true, false, nat_lt, List, [], ◌∷◌, map, All, refl, sym, ap, subst, ◌∙◌, arith, inl}
use Rattle.std.proofs.lemmas.Bool.Decides.{nat_tests}
use Rattle.std.proofs.lemmas.List.Elements.{All-nil}
use Rattle.sqlite_disk.specs.declared.Disk as disk
use Rattle.sqlite_store.specs.declared.store.FileStore.{FileStore}
use Rattle.sqlite_wal.specs.Recovery.{Image}
use Rattle.sqlite.specs.Tree.{Trees}
use Rattle.sqlite.specs.Files.{over_files}
use Rattle.sqlite.specs.State.{HasCleanDisk}
use Rattle.uu_core.specs.State.{State}
use Rattle.uu_core.specs.Run.{state_after}
use Rattle.uu_core.specs.declared.command.Command.{Command}
use Rattle.uu_schema.specs.declared.version.Version.{Version}
use Rattle.uu_schema.specs.declared.version.Version.TheVariants.{Fourth}
use Rattle.uu_schema.specs.Encoded.{HoldsStateAs}
use Rattle.uu_store.specs.declared.spool.Spool.{Spool}
use Rattle.uu_store.specs.Exchanges.{Exchange, given, none_given}
use Rattle.uu_store.specs.Files.{End, not_started, let_go, closed, FileStretch, Ended, AllFilesPassed, file_exchanges, KeepsThroughout}
use Rattle.uu_store.specs.Openings.{ImageKeeps}
use Rattle.uu_store.specs.Spool.{disk as disk_of, Shows}
use Rattle.uu_store.proofs.Opening.{started_shows}
use Rattle.uu_custody.specs.Carried.{Saying, IsSaidBy, WereSaidInFiles}
use Rattle.uu_settings.specs.declared.settings.Settings.{Settings}
use Rattle.uuspool.specs.ServedLines.{AreLeft, AreServed, AreTold, ServedLine, goes_on, in_hand_of}
use Rattle.uu_carriers.specs.Texts.{Places}
use Rattle.uu_carriers.specs.Lines.{AreRuns, EndsSo, IsServedOver}
use Rattle.uu_carriers.proofs.Runs.{RunData, AreSaid}
use Rattle.uu_carriers.proofs.Histories.{AllGo, Goes, LeaveTheRest, exchange_of_run}

-- ---- lines after one that doesn't go on are left

left_rest : (lines : List ServedLine) → AreLeft lines → LeaveTheRest lines
left_rest [] left = tt
left_rest (line ∷ lines) left = (λ off. left.2, left_rest lines left.2)

rest_by_test : {X : Type 0} (line : ServedLine) (lines : List ServedLine) (t : Bool) → goes_on line.result ≡ t → (goes_on line.result ≡ true → LeaveTheRest lines) → (goes_on line.result ≡ false → AreLeft lines × X) → LeaveTheRest (line ∷ lines)
rest_by_test line lines true e rest off = (λ goes. (off goes).0, rest e)
rest_by_test line lines false e rest off = (λ goes. (off goes).0, left_rest lines (off e).0)

leave_rest : {D : Type 0} {g : disk.Ghosts D} (settings : Settings) (lines : List ServedLine) (old new : Spool (FileStore D g) over_files) → AreServed settings lines old new → LeaveTheRest lines
leave_rest settings [] old new served = tt
leave_rest settings (line ∷ lines) old new served = rest_by_test line lines (goes_on line.result) refl (λ goes. leave_rest settings lines served.0 new (served.2 goes)) served.3

-- ---- a run over files

-- a database has one state
abbrev pub OneState : Type 0
OneState = (v w : Version) (trees : Trees) (one other : State) → HoldsStateAs v trees one → HoldsStateAs w trees other → one ≡ other

abbrev WereSaidFrom : List ℕ → State → List Saying → Type 0
WereSaidFrom own s sayings = All (λ (saying : Saying). IsSaidBy own (state_after s saying.answered) saying.bundle) sayings

-- a stretch as a run that goes on from its first line
pub record Opened (places : Places) (site : ℕ) (before : Image) (lines : List ServedLine) (exchange : Exchange) : Type 0 where
  run : RunData
  goes : Goes places [] site lines run
  exchange_is : exchange ≡ exchange_of_run run
  said : (sayings : List Saying) → (run.is_started ≡ false → sayings ≡ []) → WereSaidFrom (places.name site) run.state sayings → (s : State) → ImageKeeps before s → WereSaidFrom (places.name site) s sayings

module _ (one_state : OneState) (places : Places) (site : ℕ) (settings : Settings) (own : settings.name ≡ places.name site) (before : Image) (s : State) (keeps : ImageKeeps before s) (lines : List ServedLine) where
  opened_run : {D : Type 0} {g : disk.Ghosts D} (exchange : Exchange) (Went : Spool (FileStore D g) over_files → Type 0) (it : IsServedOver settings before lines exchange Went) → HasCleanDisk (disk_of it.ended) → Opened places site before lines exchange
  opened_run {D} {g} exchange Went it clean = record {
    run = record { settings = settings; is_started = true; pending = []; asked = it.run.asked; replies = it.run.replies; in_hand = in_hand_of it.run.asked; ending = given it.run.stopped; state = s };
    goes = record {
      own = own;
      idle = λ never. absurd (let apart = never in cc);
      pending = λ command there. absurd (omega (arith, there.1));
      from = s;
      told = it.run.told clean s (shows s keeps);
      rest = leave_rest settings lines it.begun it.ended it.served;
      now = inl (refl, refl);
    };
    exchange_is = it.exchange_is;
    said = λ sayings silent said u kept. subst (λ (n : State). WereSaidFrom (places.name site) n sayings)
        (one_state Fourth Fourth (disk_of it.begun).now.trees s u (shows s keeps).encodes.holds (shows u kept).encodes.holds) said;
  }
    where
      begun_clean : HasCleanDisk (disk_of it.begun)
      begun_clean = omega (arith, it.run.ran.clean, clean)

      shows : (u : State) → ImageKeeps before u → Shows it.begun u
      shows u kept = started_shows over_files before it.started.opened it.started.found it.begun it.started.adopted begun_clean u kept

  -- no spool was started
  idle_run : (exchange : Exchange) → lines ≡ [] → exchange.commands ≡ [] → exchange.replies ≡ [] → exchange.ending ≡ none_given → Opened places site before lines exchange
  idle_run exchange none no_commands no_replies ending = record {
    run = record { settings = settings; is_started = false; pending = []; asked = []; replies = []; in_hand = exchange.in_hand; ending = none_given; state = s };
    goes = record {
      own = own;
      idle = λ started. none;
      pending = λ command there. absurd (omega (arith, there.1));
      from = s;
      told = subst (λ l. AreTold settings s [] l []) (sym none) refl;
      rest = subst LeaveTheRest (sym none) tt;
      now = inl (refl, refl);
    };
    exchange_is = λ i. record { commands = no_commands i; replies = no_replies i; in_hand = exchange.in_hand; ending = ending i };
    said = λ sayings silent said u kept. subst (WereSaidFrom (places.name site) u) (sym (silent refl)) (All-nil _);
  }

  opened_end : (exchange : Exchange) (left : Image) (end : End) → Ended before exchange left end → EndsSo settings before lines exchange end → Opened places site before lines exchange
  opened_end exchange left not_started passed so = idle_run exchange so.0 so.1 passed.0 passed.1
  opened_end exchange left (let_go D g opened stopped) passed so = let clean = passed.passed.clean in let gone = so.goes in opened_run exchange _ so (omega (arith, gone.clean, clean))
  opened_end exchange left (closed D g opened files) passed so = opened_run exchange _ so (so.goes.clean passed.clean)

-- ---- all runs of a site

pub record AllOpened (places : Places) (site : ℕ) (before : Image) (stretches : List FileStretch) (lines : List (List ServedLine)) : Type 0 where
  pub runs : List RunData
  pub go : AllGo places [] site lines runs
  pub told : file_exchanges stretches ≡ map exchange_of_run runs
  pub said : (said : List (List Saying)) → AreSaid (places.name site) runs said → WereSaidInFiles (places.name site) before said stretches

module _ (one_state : OneState) (places : Places) (site : ℕ) where
  none_opened : (before : Image) → AllOpened places site before [] []
  none_opened before = record { runs = []; go = tt; told = refl; said = no_more }
    where
      no_more : (said : List (List Saying)) → AreSaid (places.name site) [] said → WereSaidInFiles (places.name site) before said []
      no_more [] are = tt
      no_more (sayings ∷ said) are = tt

  one_opened : (before : Image) (it : FileStretch) (stretches : List FileStretch) (first : List ServedLine) (lines : List (List ServedLine)) → Opened places site before first it.exchange → AllOpened places site it.left stretches lines
      → AllOpened places site before (it ∷ stretches) (first ∷ lines)
  one_opened before it stretches first lines one rest = record {
    runs = one.run ∷ rest.runs;
    go = (one.goes, rest.go);
    told = ap (λ e. e ∷ file_exchanges stretches) one.exchange_is ∙ ap (λ l. exchange_of_run one.run ∷ l) rest.told;
    said = one_more;
  }
    where
      one_more : (said : List (List Saying)) → AreSaid (places.name site) (one.run ∷ rest.runs) said → WereSaidInFiles (places.name site) before said (it ∷ stretches)
      one_more [] are = tt
      one_more (sayings ∷ said) are = (λ s keeps. one.said sayings are.0.0 are.0.1 s keeps, rest.said said are.1)

  pub all_opened : (stretches : List FileStretch) (lines : List (List ServedLine)) (before : Image) (s : State) (counted : List Command) → KeepsThroughout s before stretches counted → AllFilesPassed before stretches
      → AreRuns (places.name site) before stretches lines → AllOpened places site before stretches lines
  all_opened [] [] before s counted keeps passed are = none_opened before
  all_opened (it ∷ stretches) (first ∷ lines) before s counted (keeps, here, later, is, counts, then) passed are =
      one_opened before it stretches first lines (opened_end one_state places site are.0.0 are.0.1 before s keeps first it.exchange it.left it.end passed.0 are.0.2)
      (all_opened stretches lines it.left (state_after s here) later then passed.1 are.1)
  all_opened [] (first ∷ lines) before s counted keeps passed are = absurd are
  all_opened (it ∷ stretches) [] before s counted keeps passed are = absurd are

-- ---- the runs of each site

-- of the sites below the count
pub record Sited (places : Places) (count site : ℕ) (before : Image) (stretches : List FileStretch) (lines : List (List ServedLine)) : Type 0 where
  pub runs : List RunData
  pub go : site < count → AllGo places [] site lines runs
  pub told : site < count → file_exchanges stretches ≡ map exchange_of_run runs
  pub said : site < count → (said : List (List Saying)) → AreSaid (places.name site) runs said → WereSaidInFiles (places.name site) before said stretches

pub sited : (places : Places) (count site : ℕ) (before : Image) (stretches : List FileStretch) (lines : List (List ServedLine)) → (site < count → AllOpened places site before stretches lines) → Sited places count site before stretches lines
sited places count site before stretches lines each = by-test (nat_lt site count) refl
  where
    below : nat_lt site count ≡ true → site < count
    below e = grind (arith, nat_tests)

    not_below : nat_lt site count ≡ false → site < count → ⊥
    not_below e l = grind (arith, nat_tests)

    by-test : (t : Bool) → nat_lt site count ≡ t → Sited places count site before stretches lines
    by-test true e = let it = each (below e) in record { runs = it.runs; go = λ l. it.go; told = λ l. it.told; said = λ l. it.said }
    by-test false e = record { runs = []; go = λ l. absurd (not_below e l); told = λ l. absurd (not_below e l); said = λ l. absurd (not_below e l) }
