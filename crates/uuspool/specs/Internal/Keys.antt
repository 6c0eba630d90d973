-- The numbers and the marks under which commands hand jobs in.
use Rattle.std.specs.Prelude.{◌==◌, ◌&&◌, ℕ, Bool, false}
use Rattle.std.specs.declared.cmp.Ordering.{Ordering}
use Rattle.std.specs.Ordering.{nat_cmp, ordering_then}
use Rattle.uu_core.specs.declared.command.Command.{Command}
use Rattle.uu_core.specs.declared.command.Command.TheVariants.{QueueOnce}

-- by the number, and then by the mark
abbrev pub by_key : ℕ × ℕ → ℕ × ℕ → Ordering
by_key one other = ordering_then (nat_cmp one.0 other.0) (nat_cmp one.1 other.1)

-- the command hands in a job under this number and this mark
abbrev pub is_of_key : ℕ → ℕ → Command → Bool
is_of_key number mark (QueueOnce key job) = key.number == number && key.mark == mark
is_of_key number mark other = false
