use Rattle.std.proofs.Common.{take, Ok}
use Rattle.sqlite.specs.declared.error.Error.{Error}
use Rattle.uu_schema.specs.Statements.{Writes}
use Rattle.uu_statements.specs.Makes.{MakesAll}
use Rattle.uu_statements.proofs.changes.write_all.Given as goal

-- so far it is as if the changes before this one had been all
abbrev pub invariant-loop-change : goal.invariant-loop-change
invariant-loop-change g l = Writes {T = Unit {0}} {E = Error} g.S.Store (MakesAll (take l.change-index l.changes)) l.initial.tx l.tx (Ok tt)
