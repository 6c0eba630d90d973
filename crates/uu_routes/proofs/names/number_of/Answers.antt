use Rattle.std.proofs.Common.{sym}
use Rattle.uu_routes.proofs.Numbering.{searched, not_searched}
use Rattle.uu_routes.proofs.names.number_of.Goals as goal

pub returns-in-Ok : goal.returns-in-Ok
returns-in-Ok c = sym (searched c.args.names.now c.args.name.now c.in-Ok.place c.requires c.in-Ok.ensures.bound c.in-Ok.ensures.ok)

pub returns-in-Err : goal.returns-in-Err
returns-in-Err c = sym (not_searched c.args.names.now c.args.name.now c.in-Err.field-0 c.requires c.in-Err.ensures.position)
