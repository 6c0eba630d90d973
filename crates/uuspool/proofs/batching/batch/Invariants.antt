use Rattle.uuspool.proofs.BatchLemmas.{SoFar}
use Rattle.uuspool.proofs.batching.batch.Given as goal

-- the requests so far were answered
abbrev pub invariant-loop-count : goal.invariant-loop-count
invariant-loop-count g l =
    SoFar l.fn.settings g.C.Clock.tells l.failed l._count l.fn.clock l.clock l.fn.spool l.spool (g.R.Read.remaining l.fn.reader) (g.R.Read.remaining l.reader)
    (g.W.Write.contents l.fn.out) (g.W.Write.contents l.out)
