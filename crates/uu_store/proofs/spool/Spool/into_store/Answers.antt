use Rattle.std.proofs.Common.{subst}
use Rattle.sqlite.specs.Held.{Held}
use Rattle.uu_store.specs.Stretches.{IsLetGo}
use Rattle.uu_store.proofs.spool.Spool.into_store.Goals as goal

pub returns-clause-let_go : goal.returns-clause-let_go
returns-clause-let_go g c =
    subst (λ (conn : Held _). IsLetGo g.S.Store conn.store c.into_store.result) c.release-conn.ensures.connection
    (record { left = c.into_store.ensures.quiet.outcomes; clean = c.into_store.ensures.quiet.clean })
