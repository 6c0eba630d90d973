-- A spool whose next job gets a later number, as after it was put back from an earlier copy. (This
-- project's choice.)
use Rattle.std.specs.Prelude.{ℕ, max}
use Rattle.uu_core.specs.State.{State}

-- The next job gets this number, or the one that it would have got if that is higher.
abbrev pub renumbered : ℕ → State → State
renumbered number state = record state { next = max state.next number }
