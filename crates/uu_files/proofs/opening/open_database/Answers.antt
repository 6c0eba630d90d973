use Rattle.sqlite_wal.specs.Files.{image_at}
use Rattle.uu_files.proofs.opening.open_database.Goals as goal

pub returns-in-Ok-open_in-clause-found : goal.returns-in-Ok-open_in-clause-found
returns-in-Ok-open_in-clause-found g c = c.in-Ok-open_in.ensures.found (image_at g.T.Start) c.in-Ok-open_pair.ensures.settled

pub returns-in-Err-open_in-clause-cause : goal.returns-in-Err-open_in-clause-cause
returns-in-Err-open_in-clause-cause g c = c.in-Err-open_in.ensures.cause (image_at g.T.Start) c.in-Ok-open_pair.ensures.settled
