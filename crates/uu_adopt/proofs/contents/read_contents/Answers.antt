use Rattle.std.proofs.Common.{refl}
use Rattle.uu_adopt.proofs.Composing.{answers}
use Rattle.uu_adopt.proofs.contents.read_contents.Goals as goal

pub returns-in-Some : goal.returns-in-Some
returns-in-Some g c = answers c.in_ok-every.ensures (λ ok. refl) (λ trees found s holds. rw c.in-Some.is at (c.contents_in.ensures trees found s holds))
