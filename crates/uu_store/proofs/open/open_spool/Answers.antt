use Rattle.sqlite_wal.specs.Files.{image_at}
use Rattle.uu_store.proofs.open.open_spool.Goals as goal

pub returns-in-Ok-clause-started : goal.returns-in-Ok-clause-started
returns-in-Ok-clause-started g c = c.adopted_in_files.ensures.started (image_at g.T.Start) c.in-Ok.ensures.found

pub returns-in-Ok-clause-shows : goal.returns-in-Ok-clause-shows
returns-in-Ok-clause-shows g c = c.adopted_in_files.ensures.shows (image_at g.T.Start) c.in-Ok.ensures.found

pub returns-in-Ok-clause-alone : goal.returns-in-Ok-clause-alone
returns-in-Ok-clause-alone g c = c.adopted_in_files.ensures.alone (image_at g.T.Start) c.in-Ok.ensures.found

pub returns-in-Ok-clause-never_other : goal.returns-in-Ok-clause-never_other
returns-in-Ok-clause-never_other g c = c.adopted_in_files.ensures.never_other (image_at g.T.Start) c.in-Ok.ensures.found

pub returns-in-Ok-clause-left_same : goal.returns-in-Ok-clause-left_same
returns-in-Ok-clause-left_same g c = c.adopted_in_files.ensures.left_same (image_at g.T.Start) c.in-Ok.ensures.found

pub returns-in-Ok-clause-named : goal.returns-in-Ok-clause-named
returns-in-Ok-clause-named g c = c.adopted_in_files.ensures.named (image_at g.T.Start) c.in-Ok.ensures.found

pub returns-in-Ok-clause-left : goal.returns-in-Ok-clause-left
returns-in-Ok-clause-left g c = c.adopted_in_files.ensures.left (image_at g.T.Start) c.in-Ok.ensures.found

pub returns-in-Ok-clause-left_alone : goal.returns-in-Ok-clause-left_alone
returns-in-Ok-clause-left_alone g c = c.adopted_in_files.ensures.left_alone (image_at g.T.Start) c.in-Ok.ensures.found
