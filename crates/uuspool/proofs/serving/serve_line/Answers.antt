use Rattle.std.proofs.Common.{◌≡◌, Err, ap, refl, subst, sym}
use Rattle.uuspool.specs.Served.{IsEarly, IsFaultOfLine}
use Rattle.uuspool.proofs.AskLemmas.{asked_fault, asked_is_early, ends_early, ends_served, late_fault}
use Rattle.uuspool.proofs.ServesLemmas.{words_serve}
use Rattle.uuspool.proofs.serving.serve_line.Goals as goal

pub returns-in-Ok-clause-ends : goal.returns-in-Ok-clause-ends
returns-in-Ok-clause-ends g c =
    ends_served c.serve_request.result _ _ c.serve_request.ensures.late (c.in-Ok.request, c.in-Ok.ensures, c.serve_request.ensures)

pub returns-in-Ok-clause-fault : goal.returns-in-Ok-clause-fault
returns-in-Ok-clause-fault g c =
    late_fault c.args.settings.now c.args.line c.args.at c.args.input.items c.serve_request.result c.serve_request.ensures.late (c.in-Ok.request, c.in-Ok.ensures)

pub returns-in-Ok-clause-serves : goal.returns-in-Ok-clause-serves
returns-in-Ok-clause-serves g c = λ words now output means moment known wrote.
    words_serve c.args.settings.now c.args.line c.args.at c.args.input.items words now means moment c.args.spool.now c.serve_request.new.spool
    (g.W.Write.contents c.args.out.now) (g.W.Write.contents c.serve_request.new.out) (c.serve_request.new.out ≡ c.args.out.now) c.serve_request.result
    (returns-in-Ok-clause-ends g c) (ap g.W.Write.contents) (returns-in-Ok-clause-fault g c) output known wrote

pub returns-in-Err-clause-ends : goal.returns-in-Err-clause-ends
returns-in-Err-clause-ends g c = ends_early c.from.result _ _ (subst IsEarly (sym c.from.ensures) (asked_is_early c.in-Err.fault)) (refl, refl)

pub returns-in-Err-clause-fault : goal.returns-in-Err-clause-fault
returns-in-Err-clause-fault g c =
    subst (IsFaultOfLine c.args.settings.now c.args.line c.args.at c.args.input.items) (sym c.from.ensures)
    (asked_fault c.args.settings.now c.args.line c.args.at c.args.input.items c.in-Err.fault c.in-Err.ensures)

pub returns-in-Err-clause-serves : goal.returns-in-Err-clause-serves
returns-in-Err-clause-serves g c = λ words now output means moment known wrote.
    let before = g.W.Write.contents c.args.out.now in
    words_serve c.args.settings.now c.args.line c.args.at c.args.input.items words now means moment c.args.spool.now c.args.spool.now
    before before (c.args.out.now ≡ c.args.out.now) (Err c.from.result)
    (returns-in-Err-clause-ends g c) (λ same. refl) (returns-in-Err-clause-fault g c) output known wrote
