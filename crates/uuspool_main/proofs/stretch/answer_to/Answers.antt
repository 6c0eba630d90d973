use Rattle.std.proofs.Common.{◌≡◌, Ok, ap}
use Rattle.uu_request.specs.Requests.{LineAsks}
use Rattle.uuspool_main.proofs.StretchLemmas.{in_memory}
use Rattle.uuspool_main.proofs.stretch.answer_to.Goals as goal

pub returns-clause-ends : goal.returns-clause-ends
returns-clause-ends g c =
    in_memory c.args.settings.now c.args.spool.now c.serve_line-end.new.spool (λ request. LineAsks c.args.settings.now c.args.at c.args.input.items c.args.line (Ok request))
    c.new-output.result.items c.serve_line-end.new.out.items (c.serve_line-end.new.out ≡ c.new-output.result) c.new-output.ensures.items
    (λ same. ap (λ v. v.items) same) c.serve_line-end.result c.serve_line-end.ensures.ends
