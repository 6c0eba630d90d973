use Rattle.std.proofs.Common.{◌≡◌, ◌∙◌, ap, subst, [], IfOk, IfErr, map, unwrap_or, arith}
use Rattle.std.specs.List.{All}
use Rattle.clap.specs.Words.{found_of, rows_of}
use Rattle.clap.proofs.WalkLemmas.{raw_values-rows}
use Rattle.uu_names.specs.Path.{IsPathText}
use Rattle.uu_line.specs.Lines.{texts_at}
use Rattle.uu_line.specs.Lines.{IsAddressFault}
use Rattle.uu_line.proofs.values.paths_in.Goals as goal

pub returns-in-Some-clause-paths : goal.returns-in-Some-clause-paths
returns-in-Some-clause-paths c =
    let same : map (λ s. s.now) c.in-Some.texts.now ≡ texts_at c.args.id.now (rows_of (found_of c.args.given.now)) =
    ap (λ o. unwrap_or o []) (c.in-Some.ensures ∙ raw_values-rows (found_of c.args.given.now) c.args.id.now) in
    subst (λ ts. IfOk c.paths_of.result (λ paths. (paths.items ≡ ts) × All IsPathText ts)) same c.paths_of.ensures.paths

pub returns-in-Some-clause-fault : goal.returns-in-Some-clause-fault
returns-in-Some-clause-fault c =
    let same : map (λ s. s.now) c.in-Some.texts.now ≡ texts_at c.args.id.now (rows_of (found_of c.args.given.now)) =
    ap (λ o. unwrap_or o []) (c.in-Some.ensures ∙ raw_values-rows (found_of c.args.given.now) c.args.id.now) in
    subst (λ ts. IfErr c.paths_of.result (IsAddressFault ts)) same c.paths_of.ensures.fault

pub returns-in-None-clause-paths : goal.returns-in-None-clause-paths
returns-in-None-clause-paths c =
    let same : [] ≡ texts_at c.args.id.now (rows_of (found_of c.args.given.now)) =
    ap (λ o. unwrap_or o []) (c.in-None.ensures ∙ raw_values-rows (found_of c.args.given.now) c.args.id.now) in
    (c.new.ensures.items ∙ same, subst (λ ts. All IsPathText ts) same (λ k d inside. absurd (omega arith)))
