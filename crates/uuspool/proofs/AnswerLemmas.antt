-- What is handed out of a spool, as the state has it.
use Rattle.std.proofs.Common.{◌≡◌, ℕ, List, length, Some, None, ap}
use Rattle.sqlite.specs.Store.{Ghosts}
use Rattle.uu_core.specs.State.{head_of}
use Rattle.uu_core.specs.declared.command.Command.{Command}
use Rattle.uu_core.specs.declared.command.Reply.{Reply}
use Rattle.uu_core.specs.declared.job.JobHead.{JobHead}
use Rattle.uu_schema.specs.declared.fault.StoreFault.TheVariants.{Store}
use Rattle.uu_schema.specs.declared.fault.StoreKind.{StoreKind}
use Rattle.uu_store.specs.HandedOut.{job_with}
use Rattle.uu_store.specs.Runs.{Ran}
use Rattle.uu_store.specs.declared.spool.Spool.{Spool}

-- a head of a job with bytes is the head of that job, if it has their number
pub shown_head : (head : JobHead) (bytes : List ℕ) → head.size ≡ length bytes → head ≡ head_of (job_with head bytes)
shown_head head bytes same = ap (λ size. record head { size = size }) same

-- a run that is called broken off says less
pub as_broken_off : {S : Type 0} {g : Ghosts S} (commands : List Command) (old new : Spool S g) (replies : List Reply) (kind : StoreKind)
    → Ran 1 commands old new replies None → Ran 1 commands old new replies (Some (Store kind))
as_broken_off commands old new replies kind ran = record {
  within = ran.within;
  from = λ clean s shown. let from = ran.from clean s shown in record {
    answers = from.answers;
    shows = λ goes. absurd goes;
    stop = λ goes. absurd goes;
    stop_store = from.stop_store;
  };
  clean = ran.clean;
}
