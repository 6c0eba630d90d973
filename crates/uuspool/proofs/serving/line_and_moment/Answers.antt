use Rattle.std.proofs.Common.{inl, map, refl, subst, sym}
use Rattle.std.specs.String.{string_bytes}
use Rattle.uu_times.specs.Moment.{IsPast}
use Rattle.uuspool.specs.Served.{IsFaultOf}
use Rattle.uuspool.proofs.serving.line_and_moment.Goals as goal

pub returns-in-Err-clause-fault : goal.returns-in-Err-clause-fault
returns-in-Err-clause-fault c = λ input.
    subst (IsFaultOf c.args.settings.now (map string_bytes c.args.words.now) c.args.now input) (sym c.in-Err.ensures.past.0)
    (inl (refl, (c.in_ok-line.line, c.in_ok-line.ensures, subst IsPast c.unwrap_or.ensures c.in-Err.ensures.past.1)))
