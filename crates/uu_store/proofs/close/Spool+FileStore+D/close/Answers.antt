use Rattle.std.proofs.Common.{◌≡◌, sym, ap, ◌∙◌}
use Rattle.sqlite.specs.State.{store_error}
use Rattle.uu_schema.specs.Faults.{kind_of_error}
use Rattle.uu_store.proofs.Closing.{is_closed, let_go, close_cause}
use Rattle.uu_store.proofs.close.Spool+FileStore+D.close.Goals as goal

pub returns-in-Ok-close_files-clause-closed : goal.returns-in-Ok-close_files-clause-closed
returns-in-Ok-close_files-clause-closed g c =
    let closed = c.in-Ok-close_files.ensures.ok in
    is_closed g.met.D.Disk.seen_may_stay c.args.self c.in-Ok-close_files.files c.in-Ok.conn c.in-Ok.ensures.connection closed.0 closed.1 closed.2 closed.3 c.in-Ok-close_files.ensures.copied

pub returns-in-Err-close_files-clause-let_go : goal.returns-in-Err-close_files-clause-let_go
returns-in-Err-close_files-clause-let_go g c = let_go c.args.self.conn c.in-Ok.conn c.in-Ok.ensures.connection c.in-Err-close_files.store c.in-Err-close_files.ensures.err.0

pub returns-in-Err-close_files-clause-cause : goal.returns-in-Err-close_files-clause-cause
returns-in-Err-close_files-clause-cause g c clean kind is =
    let failed = c.in-Err-close_files.ensures.err.1 clean in
    let told : c.kind_of.result ≡ kind = cc in
    let named : kind ≡ kind_of_error (store_error failed.0) = sym told ∙ c.kind_of.ensures ∙ ap kind_of_error failed.1 in
    close_cause c.args.self.conn c.in-Ok.conn c.in-Ok.ensures.connection c.in-Err-close_files.store failed.0 kind named failed.2
