use Rattle.uu_handover.proofs.ExchangeLaws.{goes, all_go, was_taken}
use Rattle.uu_handover.proofs.laws.jobs_go_or_are_refused.Goals as goal

pub returns : goal.returns
returns c = record {
  goes = goes;
  all = all_go;
  taken = λ to mark sender bundle exchange job good waits went. was_taken to mark sender bundle exchange job good.rising waits went;
}
