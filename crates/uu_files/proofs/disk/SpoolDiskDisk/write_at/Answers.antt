use Rattle.std.proofs.Common.{true, refl}
use Rattle.std.proofs.lemmas.Bool.{and_from, and_parts}
use Rattle.uu_files.proofs.disk.SpoolDiskDisk.write_at.Goals as goal

-- the inner file has stopped, and this one stays dirty
pub returns-clause-frozen : goal.returns-clause-frozen
returns-clause-frozen g c = λ stopped.
    let it = c.write_at.ensures.frozen (and_parts (g.D.Disk.is_frozen c.args.self.now.inner) c.args.self.now.dirty stopped).0 in (
      it.0,
      record {
        frozen = and_from (g.D.Disk.is_frozen c.write_at.new.self) true it.1.frozen refl;
        same = it.1.same;
        clean = it.1.clean;
        no_more = it.1.no_more;
        no_fewer = it.1.no_fewer;
      },
    )
