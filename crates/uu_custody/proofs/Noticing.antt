-- What a spool in files shows is true of what the files kept.
use Rattle.std.proofs.Common.{ℕ, List, Option, arith}
use Rattle.sqlite_disk.specs.declared.Disk as disk
use Rattle.sqlite_wal.specs.Recovery.{Image}
use Rattle.sqlite_store.specs.declared.store.FileStore.{FileStore}
use Rattle.sqlite.specs.Files.{over_files, file_state}
use Rattle.sqlite.specs.State.{HasCleanDisk}
use Rattle.uu_core.specs.declared.command.Command.{Command}
use Rattle.uu_core.specs.declared.command.Reply.{Reply}
use Rattle.uu_core.specs.State.{State}
use Rattle.uu_core.specs.Run.{state_after}
use Rattle.uu_schema.specs.declared.fault.StoreFault.{StoreFault}
use Rattle.uu_store.specs.declared.spool.Spool.{Spool}
use Rattle.uu_store.specs.Openings.{ImageKeeps, Started}
use Rattle.uu_store.specs.Runs.{GoesOn, Ran, answered_commands}
use Rattle.uu_store.specs.Spool.{disk as disk_of, Shows}
use Rattle.uu_store.proofs.Opening.{found_stores}

pub shown_is_true : {D : Type 0} {g : disk.Ghosts D} (before : Image) (begun now : Spool (FileStore D g) over_files) (in_hand : ℕ) (commands : List Command) (replies : List Reply) (was : Option StoreFault) (P : State → Type 0)
    → Started before begun → Ran in_hand commands begun now replies was → GoesOn was → HasCleanDisk (disk_of now)
    → ((u : State) → Shows now u → P u)
    → (s : State) → ImageKeeps before s → P (state_after s (answered_commands replies commands))
shown_is_true before begun now in_hand commands replies was P started ran on clean shown s keeps =
    let start : HasCleanDisk (disk_of begun) = omega (arith, ran.clean, clean) in
    let opened : HasCleanDisk (file_state started.opened) = omega (arith, started.adopted.clean, start) in
    let found = found_stores before s (file_state started.opened) (started.found opened) keeps in
    let shows = started.adopted.shows start s found.0 found.1 in
    shown (state_after s (answered_commands replies commands)) ((ran.from clean s shows).shows on)
