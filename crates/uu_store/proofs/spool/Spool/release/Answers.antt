use Rattle.sqlite.specs.Held.{state}
use Rattle.uu_adopt.proofs.Settling.{leaves}
use Rattle.uu_store.proofs.spool.Spool.release.Goals as goal

pub returns-clause-stop : goal.returns-clause-stop
returns-clause-stop g c s shows = leaves s (state g.S.Store c.args.self.conn) (g.met.S.Store.settled c.args.self.conn.store) shows.rests shows.encodes
