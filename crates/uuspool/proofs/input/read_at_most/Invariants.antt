use Rattle.std.proofs.Common.{◌≤◌, vec_len}
use Rattle.std.specs.Io.KnownBytes.{Consumes}
use Rattle.uuspool.proofs.input.read_at_most.Given as goal

-- what was read so far is taken from the front of what the reader had
abbrev pub invariant-loop : goal.invariant-loop
invariant-loop g l =
    Consumes (g.R.Read.remaining l.fn.reader) (g.R.Read.remaining l.reader) l.bytes.items × (vec_len l.bytes ≤ l.fn.most)
