use Rattle.sqlite_wal.specs.Files.{image_at}
use Rattle.uuspool_main.proofs.copying.copy_on_file.Goals as goal

pub returns-in-Ok-clause-copied : goal.returns-in-Ok-clause-copied
returns-in-Ok-clause-copied g c = c.copy_spool.ensures (image_at g.T.Start) c.in-Ok.ensures.started c.in-Ok.ensures.shows
