use Rattle.std.proofs.Common.{◌++◌, ap, map, refl, string_bytes, subst, sym, ℕ, List}
use Rattle.uuspool.specs.Batch.{line_with}
use Rattle.uuspool.specs.ServedLines.{Serves}
use Rattle.uuspool.proofs.batching.answer_to.Goals as goal

pub returns-clause-served : goal.returns-clause-served
returns-clause-served g c = λ was.
    let output : List ℕ = c.serve_words-end.new.out.items in
    subst (λ words. Serves c.args.settings.now (line_with words c.args.now c.args.frame.input.items output c.serve_words-end.result) c.args.spool.now c.serve_words-end.new.spool)
    (ap (map string_bytes) c.deref.ensures.value)
    (c.serve_words-end.ensures.serves output refl (sym (ap (λ front. front ++ output) c.new-output.ensures.items)))
