use Rattle.std.proofs.Common.{◌≡◌, ◌∙◌, ◌<◌, ap, take, map, length, add-one, arith}
use Rattle.std.proofs.lemmas.List.{take_all}
use Rattle.uu_names.specs.Path.{rest_of}
use Rattle.uu_line.specs.Lines.{word_of}
use Rattle.uu_line.proofs.LineLemmas.{only_memory, rests_next, word_known, word_is}
use Rattle.uu_line.proofs.reading.rests_of.Goals as goal

pub returns-in-Err-clause-memory : goal.returns-in-Err-clause-memory
returns-in-Err-clause-memory c = only_memory c.in-Err.fault (word_of c.rest.result.now) c.rest.result.now (word_known c.rest.result.now c.rest.ensures.word) c.in-Err.ensures

pub loop-path-preserved : goal.loop-path-preserved
loop-path-preserved c =
    let inside : c.loop-path.path-index < length c.args.paths.now = omega arith in
    let same : c.in-Ok.rest ≡ c.rest.result.now = word_is c.rest.result.now c.in-Ok.rest c.rest.ensures.word c.in-Ok.ensures in
    rw add-one (c.in_ok-push-in-Ok.ensures.items
    ∙ rests_next c.args.paths.now c.loop-path.path-index c.path-item.result c.loop-path.rests.items c.in-Ok.rest inside c.loop-path.invariant (same ∙ c.rest.ensures.text ∙ ap rest_of c.path-item.is))

pub returns-clause-rests : goal.returns-clause-rests
returns-clause-rests c =
    let whole : take c.loop-path.path-index c.args.paths.now ≡ c.args.paths.now = take_all c.loop-path.path-index c.args.paths.now (omega arith) in
    c.from_vec.ensures ∙ c.loop-path.invariant ∙ ap (map rest_of) whole
