use Rattle.std.proofs.Common.{◌≡◌, ◌≤◌, ◌++◌, length}
use Rattle.std.specs.Vec.{vec_len, vec_capacity}
use Rattle.std.specs.Vec.Iter.{into_iter_items, into_iter_len}
use Rattle.uu_store.proofs.Running.{Running}
use Rattle.uu_store.proofs.spool.Spool.run.Given as goal

abbrev pub invariant-loop-command : goal.invariant-loop-command
invariant-loop-command g l = (l.yielded ++ into_iter_items l.command-iterator ≡ into_iter_items l.initial.command-iterator)
    × (into_iter_len l.command-iterator ≡ length (into_iter_items l.command-iterator))
    × Running l.initial.self l.self l.yielded l.replies.items
    × (vec_len l.replies ≡ length l.yielded)
    × (length (into_iter_items l.initial.command-iterator) ≤ vec_capacity l.replies)
