use Rattle.std.proofs.Common.{◌≡◌, Err, Ok, inr, map, refl, subst}
use Rattle.std.proofs.lemmas.Result.{err_from_is_err_and}
use Rattle.std.specs.Io.KnownBytes.{Appends}
use Rattle.std.specs.String.{string_bytes}
use Rattle.uu_request.specs.declared.request.Request.{Request}
use Rattle.uuspool.specs.Served.{WordsAsk, EndsAs, IsServed}
use Rattle.uuspool.specs.ServedLines.{Serves}
use Rattle.uuspool.specs.declared.fault.Fault.TheVariants as fault
use Rattle.uuspool.proofs.ServesLemmas.{line_serves}
use Rattle.uuspool.proofs.serving.serve.Goals as goal

pub returns-clause-ends : goal.returns-clause-ends
returns-clause-ends g c =
    subst (λ input. EndsAs c.serve_words.result
    ((request : Request) × WordsAsk c.args.settings.now (map string_bytes c.args.words.now) c.args.now input (Ok request)
    × IsServed c.args.settings.now request c.args.spool.now c.serve_words.new.spool (λ output. Appends (g.W.Write.contents c.args.out.now) (g.W.Write.contents c.serve_words.new.out) output) c.serve_words.result)
    ((c.serve_words.new.spool ≡ c.args.spool.now) × (c.serve_words.new.out ≡ c.args.out.now)))
    c.in_ok-input.ensures.items c.serve_words.ensures.ends

pub returns-clause-serves : goal.returns-clause-serves
returns-clause-serves g c = λ output known wrote.
    subst (λ input. Serves c.args.settings.now (record { words = map string_bytes c.args.words.now; now = c.args.now; input = input; output = output; result = c.serve_words.result }) c.args.spool.now c.serve_words.new.spool)
    c.in_ok-input.ensures.items (c.serve_words.ensures.serves output known wrote)

pub returns-in_err-input-clause-serves : goal.returns-in_err-input-clause-serves
returns-in_err-input-clause-serves g c =
    let (f, is, same) = err_from_is_err_and c.from_residual.result c.from_residual.ensures.1 in
    let before = g.W.Write.contents c.args.out.now in
    rw (is, same) (λ output known wrote.
    line_serves c.args.settings.now (record { words = map string_bytes c.args.words.now; now = c.args.now; input = c.args.input.now; output = output; result = Err fault.Memory })
    c.args.spool.now c.args.spool.now before before (before ≡ before) (inr (refl, refl)) (λ same. same) tt known wrote)
