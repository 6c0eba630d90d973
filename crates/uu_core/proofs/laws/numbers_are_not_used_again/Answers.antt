use Rattle.uu_core.proofs.RunLemmas.{next-run, number_used, number_handed, numbers_run, numbers_all}
use Rattle.uu_core.proofs.laws.numbers_are_not_used_again.Goals as goal

pub returns : goal.returns
returns c = record {
  rise = next-run;
  used = number_used;
  handed_in = number_handed;
  fresh = λ state commands. (numbers_run state commands).fresh;
  once = λ state commands. (numbers_run state commands).once;
  all = numbers_all;
}
