use Rattle.std.proofs.Common.{◌≡◌, map, take}
use Rattle.uu_core.specs.declared.command.Command.TheVariants.{Entry}
use Rattle.uu_request.specs.Requests.{bytes_at}
use Rattle.uu_request.proofs.maps.commands_at.Given as goal

-- the commands of the entries before this one
abbrev pub invariant-loop-place : goal.invariant-loop-place
invariant-loop-place l = l.commands.items ≡ map (λ place. Entry (bytes_at l.text place)) (take l.place-index l.places)
