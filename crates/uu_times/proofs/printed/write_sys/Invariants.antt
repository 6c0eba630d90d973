use Rattle.std.proofs.Common.{◌≡◌, take, All}
use Rattle.std.specs.List.{flat_map}
use Rattle.uu_times.specs.Printed.{system_text, IsSystem}
use Rattle.uu_times.proofs.printed.write_sys.Given as goal

-- the systems so far
abbrev pub invariant-loop-system : goal.invariant-loop-system
invariant-loop-system l = (l.text.items ≡ flat_map system_text (take l.system-index l.systems)) × All IsSystem (take l.system-index l.systems)
