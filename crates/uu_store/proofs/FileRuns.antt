-- Stretches of work over files.
use Rattle.std.proofs.Common.{◌⊎◌, inl, inr, ℕ, List, [], ◌∷◌, ◌++◌, Option, refl, sym, ap, subst, ◌∙◌, arith}
use Rattle.std.proofs.Math.Logic.{∥∥₁_elim, ∥∥₁_map}
use Rattle.std.specs.Prelude.{IsTrue}
use Rattle.sqlite_disk.specs.declared.Disk as disk
use Rattle.sqlite_disk.specs.declared.Files.{Files}
use Rattle.sqlite_store.specs.declared.store.FileStore.{FileStore}
use Rattle.sqlite_store.specs.FileStore.{recovers, view}
use Rattle.sqlite_wal.specs.Recovery.{Image}
use Rattle.sqlite.specs.View.{IsClean}
use Rattle.sqlite.specs.Tree.{Trees}
use Rattle.sqlite.specs.Held.{Held, AreDatabases}
use Rattle.sqlite.specs.Files.{HoldsDatabase, file_state, over_files}
use Rattle.sqlite.proofs.Theorems.{opens_again}
use Rattle.uu_core.specs.declared.command.Command.{Command}
use Rattle.uu_core.specs.declared.command.Reply.{Reply}
use Rattle.uu_core.specs.State.{State, IsWellFormed, empty}
use Rattle.uu_core.specs.Run.{state_after}
use Rattle.uu_schema.specs.declared.fault.StoreFault.{StoreFault}
use Rattle.uu_store.specs.declared.spool.Spool.{Spool}
use Rattle.uu_store.specs.Kept.{Keeps, KeepsEither}
use Rattle.uu_store.specs.Spool.{connection_of}
use Rattle.uu_store.specs.Runs.{Ran}
use Rattle.uu_store.specs.Exchanges.{Exchange, exchange_of, Counts, Passes}
use Rattle.uu_store.specs.Stretches.{Stretch, IsLetGo, stretch}
use Rattle.uu_store.specs.Openings.{ImageKeeps, Started}
use Rattle.uu_store.specs.Closing.{IsClosed}
use Rattle.uu_store.specs.Files.{End, not_started, let_go, closed, FileStretch, IsOverFiles, IsOverClosed, Ended, AllFilesPassed, last_left, file_exchanges, KeepsThroughout, AllKeep, KeepsAfter, IsStretch, IsClosedStretch}
use Rattle.uu_store.proofs.Running.{StatesFollow, RepliesFollow}
use Rattle.uu_store.proofs.Reopening.{LeavesTwo, leaves_two}
use Rattle.uu_store.proofs.Accounting.{good_of}
use Rattle.uu_store.proofs.Opening.{keeps_sound, found_stores}

databases : (could_leave : Trees → Type 0) (s t : State) → KeepsEither could_leave s t → AreDatabases could_leave
databases could_leave s t keeps trees may = elim (keeps trees may) [ inl it ↦ keeps_sound s trees it | inr it ↦ keeps_sound t trees it ]

-- commands of one exchange that count, and the state after them is kept
abbrev OneCounts : Exchange → State → Image → Type 0
OneCounts exchange s left = (here : List Command) × Counts exchange s here × ImageKeeps left (state_after s here)

-- what is left holds one of the two databases that a stretch could leave
of_two : (it : Stretch) (s : State) (l : LeavesTwo it s) (left : Image) (trees : Trees) → HoldsDatabase left trees → Keeps trees (state_after s l.one) ⊎ Keeps trees (state_after s l.other) → OneCounts it.exchange s left
of_two it s l left trees held (inl kept) = (l.one, l.counts_one, inl (trees, held, kept))
of_two it s l left trees held (inr kept) = (l.other, l.counts_other, inl (trees, held, kept))

module _ (answers : RepliesFollow) where
  over_them : {D : Type 0} {g : disk.Ghosts D} (before : Image) (exchange : Exchange) (opened : Held (FileStore D g)) (stopped : FileStore D g) (left : Image) (s : State) → ImageKeeps before s
      → IsOverFiles before exchange opened stopped left → ∥ OneCounts exchange s left ∥₁
  over_them before exchange opened stopped left s keeps is =
      let found = found_stores before s (file_state opened) is.found keeps in
      let l = leaves_two answers (stretch over_files opened exchange stopped) s is.passed found.0 found.1 in
      ∥∥₁_map (opens_again stopped is.numbered (databases (recovers stopped) (state_after s l.one) (state_after s l.other) l.keeps) left is.may)
      (λ db. of_two (stretch over_files opened exchange stopped) s l left db.0 db.2 (l.keeps db.0 db.1))

  over_closed : {D : Type 0} {g : disk.Ghosts D} (before : Image) (exchange : Exchange) (opened : Held (FileStore D g)) (files : Files D) (left : Image) (s : State) → ImageKeeps before s
      → IsOverClosed before exchange opened files left → ∥ OneCounts exchange s left ∥₁
  over_closed before exchange opened files left s keeps is =
      let found = found_stores before s (file_state opened) is.found keeps in
      let l = leaves_two answers (stretch over_files opened exchange (connection_of is.last).store) s is.passed found.0 found.1 in
      ∥∥₁_map (is.close.left is.clean left is.may) (λ db. of_two (stretch over_files opened exchange (connection_of is.last).store) s l left db.0 db.2 (l.keeps db.0 db.1))

  ended : (before : Image) (exchange : Exchange) (left : Image) (end : End) (s : State) → ImageKeeps before s → Ended before exchange left end → ∥ OneCounts exchange s left ∥₁
  ended before exchange left not_started s keeps (no_reply, ending, kept) = ∥∥₁_map (kept s keeps) (λ still. ([], none, still))
    where
      none : Counts exchange s []
      none = record { rest = exchange.commands; prefix = refl; unheard = []; whole = inl refl; settled = λ _. refl; answers = ap (λ l. l ++ []) (sym no_reply) }
  ended before exchange left (let_go D g opened stopped) s keeps is = over_them before exchange opened stopped left s keeps is
  ended before exchange left (closed D g opened files) s keeps is = over_closed before exchange opened files left s keeps is

  pub all_keep : (stretches : List FileStretch) (before : Image) (s : State) → ImageKeeps before s → AllFilesPassed before stretches → ∥ AllKeep s before stretches ∥₁
  all_keep [] before s keeps all = ∣ ([], (refl, keeps)) ∣₁
  all_keep (it ∷ more) before s keeps all =
      ∥∥₁_elim (ended before it.exchange it.left it.end s keeps all.0) squash₁ (λ one. ∥∥₁_map (all_keep more it.left (state_after s one.0) one.2 all.1) (next one))
    where
      next : (one : OneCounts it.exchange s it.left) → AllKeep (state_after s one.0) it.left more → AllKeep s before (it ∷ more)
      next (here, counts, kept) (later, then) = (here ++ later, (keeps, here, later, refl, counts, then))

-- so after the last stretch they keep the state after the commands that count
kept_last : StatesFollow → (stretches : List FileStretch) (before : Image) (s : State) (counted : List Command) → KeepsThroughout s before stretches counted
    → Passes s (file_exchanges stretches) counted × ImageKeeps (last_left before stretches) (state_after s counted)
kept_last states [] before s counted (none, keeps) = (none, subst (λ l. ImageKeeps before (state_after s l)) (sym none) keeps)
kept_last states (it ∷ more) before s counted (was, here, later, is, counts, then) =
    let rest = kept_last states more it.left (state_after s here) later then in
    ((here, later, is, counts, rest.0), subst (ImageKeeps (last_left it.left more)) (sym (ap (state_after s) is ∙ states s here later)) rest.1)

pub files_pass : StatesFollow → RepliesFollow → (stretches : List FileStretch) (before : Image) (s : State) → ImageKeeps before s → AllFilesPassed before stretches → ∥ KeepsAfter s stretches (last_left before stretches) ∥₁
files_pass states answers stretches before s keeps all = ∥∥₁_map (all_keep answers stretches before s keeps all) (λ it. (let last = kept_last states stretches before s it.0 it.1 in (it.0, last.0, last.1)))

-- ---- acknowledged jobs

good_in : IsWellFormed empty → (image : Image) (s : State) → ImageKeeps image s → IsWellFormed s
good_in none image s (inl held) = good_of none held.0 s held.2
good_in none image s (inr nothing) = subst IsWellFormed (sym nothing.1) none

-- the files keep the state after commands that count, and this holds of them
abbrev KeepsWith : State → List Exchange → (List Command → Type 0) → Image → Type 0
KeepsWith s told Claim left = (counted : List Command) × Passes s told counted × ImageKeeps left (state_after s counted) × Claim counted

-- what is so of a well-formed state and what counts is so with what the files keep
pub claims_pass : IsWellFormed empty → (stretches : List FileStretch) (before left : Image) (s : State) (Claim : List Command → Type 0) → ImageKeeps before s
    → (IsWellFormed s → (counted : List Command) → Passes s (file_exchanges stretches) counted → Claim counted) → ∥ KeepsAfter s stretches left ∥₁
    → ∥ KeepsWith s (file_exchanges stretches) Claim left ∥₁
claims_pass none stretches before left s Claim keeps account after =
    ∥∥₁_map after (λ then. (then.0, then.1, then.2, account (good_in none before s keeps) then.0 then.1))

-- ---- a stretch, by what its calls ensure

module _ {D : Type 0} {g : disk.Ghosts D} (in_hand : ℕ) (image : Image) (commands : List Command) (begun ended : Spool (FileStore D g) over_files) (replies : List Reply) (fault : Option StoreFault) (started : Started image begun) (ran : Ran in_hand commands begun ended replies fault) where
  pub stretch_is : (stopped : FileStore D g) → IsLetGo over_files (connection_of ended).store stopped → (IsClean (view stopped) → IsTrue (view stopped).is_numbered) → IsStretch image (exchange_of in_hand commands replies fault) stopped
  stretch_is stopped last numbered = record {
    opened = started.opened;
    passed = λ clean left may. (record {
      found = started.found (omega (arith, started.adopted.clean, ran.clean, last.clean, clean));
      passed = record { work = inl (record { begun = begun; ended = ended; fault = fault; ending = refl; adopted = started.adopted; ran = ran; let_go = last }); clean = clean };
      numbered = numbered clean;
      may = may;
    });
  }

  -- nothing was done since
  at_once : IsLetGo over_files (connection_of ended).store (connection_of ended).store
  at_once = record { left = λ trees may. may; clean = omega arith }

  pub closed_is : (files : Files D) → IsClosed ended files → IsClosedStretch g image (exchange_of in_hand commands replies fault) files
  closed_is files close = record {
    opened = started.opened;
    passed = λ clean left may. (record {
      found = let sure = close.clean clean in started.found (omega (arith, started.adopted.clean, ran.clean, sure));
      last = ended;
      passed = record { work = inl (record { begun = begun; ended = ended; fault = fault; ending = refl; adopted = started.adopted; ran = ran; let_go = at_once }); clean = close.clean clean };
      close = close;
      clean = clean;
      may = may;
    });
  }
