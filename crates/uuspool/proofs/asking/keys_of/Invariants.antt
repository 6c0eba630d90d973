use Rattle.std.proofs.Common.{◌≡◌, ℕ, take}
use Rattle.std.specs.BTreeSet.{contains}
use Rattle.std.specs.List.{list_any}
use Rattle.uuspool.specs.Internal.Keys.{by_key, is_of_key}
use Rattle.uuspool.proofs.asking.keys_of.Given as goal

-- there are those of the commands before this one
abbrev pub invariant-loop-command : goal.invariant-loop-command
invariant-loop-command l = (number mark : ℕ) → contains by_key l.keys (number, mark) ≡ list_any (is_of_key number mark) (take l.command-index l.commands)
