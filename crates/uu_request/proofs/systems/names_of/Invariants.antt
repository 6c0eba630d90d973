use Rattle.std.proofs.Common.{◌≡◌, map, take}
use Rattle.uu_core.specs.declared.subject.Subject.TheVariants.{Site}
use Rattle.uu_request.proofs.systems.names_of.Given as goal

-- the names of the systems before this one
abbrev pub invariant-loop-system : goal.invariant-loop-system
invariant-loop-system l = l.subjects.items ≡ map (λ system. Site system.name) (take l.system-index l.systems)
