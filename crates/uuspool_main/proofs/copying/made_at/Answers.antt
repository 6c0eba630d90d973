use Rattle.sqlite_wal.specs.Files.{image_at}
use Rattle.uuspool_main.proofs.copying.made_at.Goals as goal

pub returns-in-Ok : goal.returns-in-Ok
returns-in-Ok g c = c.filled.ensures (image_at g.N.Start) c.in-Ok.ensures.shows
