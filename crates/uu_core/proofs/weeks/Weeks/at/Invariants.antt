use Rattle.std.proofs.Common.{◌≡◌, vec_len}
use Rattle.uu_core.proofs.weeks.Weeks.at.Given as goal

abbrev pub invariant-loop-known : goal.invariant-loop-known
invariant-loop-known l = record {
  len : vec_len l.self.weeks ≡ l.known;
  zone : l.self.zone ≡ l.initial.self.zone;
  first : l.self.first ≡ l.initial.self.first;
}
