use Rattle.std.proofs.Common.{◌≡◌, Err, map, refl, subst, sym}
use Rattle.std.proofs.lemmas.Result.{err_from_is_err_and}
use Rattle.std.specs.Io.KnownBytes.{Appends}
use Rattle.std.specs.String.{string_bytes}
use Rattle.uu_times.specs.Moment.{IsDateTimeAt, local_second}
use Rattle.uuspool.proofs.AskLemmas.{ends_early, words_faults}
use Rattle.uuspool.proofs.ServesLemmas.{line_serves, words_end}
use Rattle.uuspool.proofs.serving.serve_words.Goals as goal

pub serve_line-requires : goal.serve_line-requires
serve_line-requires g c =
    let moment = c.in_ok-line.ensures.line.1 in
    subst (λ second. IsDateTimeAt c.in_ok-line.at.local (local_second c.args.settings.now.zone second)) (sym moment.second) moment.local

pub returns-clause-ends : goal.returns-clause-ends
returns-clause-ends g c =
    words_end c.args.settings.now c.in_ok-line.line c.in_ok-line.at c.args.input.items (map string_bytes c.args.words.now) c.args.now c.in_ok-line.ensures.line.0 c.in_ok-line.ensures.line.1
    c.args.spool.now c.serve_line.new.spool (λ output. Appends (g.W.Write.contents c.args.out.now) (g.W.Write.contents c.serve_line.new.out) output)
    ((c.serve_line.new.spool ≡ c.args.spool.now) × (c.serve_line.new.out ≡ c.args.out.now)) c.serve_line.result c.serve_line.ensures.ends

pub returns-clause-fault : goal.returns-clause-fault
returns-clause-fault g c =
    words_faults c.args.settings.now c.in_ok-line.line c.in_ok-line.at c.args.input.items (map string_bytes c.args.words.now) c.args.now c.in_ok-line.ensures.line.0 c.in_ok-line.ensures.line.1
    c.serve_line.result c.serve_line.ensures.fault

pub returns-clause-serves : goal.returns-clause-serves
returns-clause-serves g c = λ output known wrote.
    c.serve_line.ensures.serves (map string_bytes c.args.words.now) c.args.now output c.in_ok-line.ensures.line.0 c.in_ok-line.ensures.line.1 known wrote

pub returns-in_err-line-clause-ends : goal.returns-in_err-line-clause-ends
returns-in_err-line-clause-ends g c =
    let (f, is, same) = err_from_is_err_and c.from_residual.result c.from_residual.ensures.1 in
    rw (is, same) (ends_early c.in_err-line.field-0.0 _ _ c.in_err-line.ensures.early (refl, refl))

pub returns-in_err-line-clause-fault : goal.returns-in_err-line-clause-fault
returns-in_err-line-clause-fault g c =
    let (f, is, same) = err_from_is_err_and c.from_residual.result c.from_residual.ensures.1 in
    rw (is, same) (c.in_err-line.ensures.fault c.args.input.items)

pub returns-in_err-line-clause-serves : goal.returns-in_err-line-clause-serves
returns-in_err-line-clause-serves g c =
    let (f, is, same) = err_from_is_err_and c.from_residual.result c.from_residual.ensures.1 in
    let why = c.in_err-line.field-0.0 in
    let before = g.W.Write.contents c.args.out.now in
    rw (is, same) (λ output known wrote.
    line_serves c.args.settings.now (record { words = map string_bytes c.args.words.now; now = c.args.now; input = c.args.input.items; output = output; result = Err why })
    c.args.spool.now c.args.spool.now before before (before ≡ before) (ends_early why _ _ c.in_err-line.ensures.early (refl, refl)) (λ same. same)
    (c.in_err-line.ensures.fault c.args.input.items) known wrote)
