use Rattle.std.proofs.Common.{sym, subst}
use Rattle.std.proofs.Math.Logic.{∥∥₁_map}
use Rattle.sqlite_wal.specs.Files.{image_at}
use Rattle.uu_core.specs.Run.{state_after}
use Rattle.uu_store.specs.Openings.{ImageKeeps}
use Rattle.uuspool_main.proofs.stretch.work_on_file.Goals as goal

pub returns-in-Ok-clause-stretch : goal.returns-in-Ok-clause-stretch
returns-in-Ok-clause-stretch g c = c.work_on.ensures (image_at g.T.Start) c.in-Ok.ensures.started c.in-Ok.ensures.shows

pub returns-in-Ok-clause-shows : goal.returns-in-Ok-clause-shows
returns-in-Ok-clause-shows g c s keeps all same =
    let run = returns-in-Ok-clause-stretch g c in
    let law = c.no_answered_command_is_lost_in_files.ensures in
    record {
      run = run;
      commands = λ clean.
          ∥∥₁_map (law.commands s keeps all)
          (λ then. (then.0, then.1, run.shows clean (state_after s then.0) (subst (λ image. ImageKeeps image (state_after s then.0)) (sym same) then.2)));
      jobs = λ clean new number told.
          ∥∥₁_map (law.jobs s new number keeps all told)
          (λ then. (then.0, then.1, run.shows clean (state_after s then.0) (subst (λ image. ImageKeeps image (state_after s then.0)) (sym same) then.2), then.3));
      keys = λ clean key new number told.
          ∥∥₁_map (law.keys s key new number keeps all told)
          (λ then. (then.0, then.1, run.shows clean (state_after s then.0) (subst (λ image. ImageKeeps image (state_after s then.0)) (sym same) then.2), then.3));
    }
