use Rattle.uu_custody.proofs.Routing.{on_its_way, never_twice, apart}
use Rattle.uu_custody.proofs.laws.messages_come_once_over_sites.Goals as goal

pub returns : goal.returns
returns c = record {
  on_its_way = λ chart course site line lines job route once waited. on_its_way chart course lines line site job route once waited;
  never_twice = never_twice;
  apart = apart;
}
