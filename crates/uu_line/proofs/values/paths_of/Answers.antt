use Rattle.std.proofs.Common.{◌≡◌, ◌∙◌, ◌<◌, ◌≤◌, ℕ, List, [], length, map, take, subst, add-one, arith, Bor}
use Rattle.std.proofs.lemmas.List.{length-map, take_all}
use Rattle.std.specs.List.{All}
use Rattle.uu_names.specs.Path.{IsPathText}
use Rattle.uu_line.proofs.LineLemmas.{address_stop, paths_next}
use Rattle.uu_line.proofs.values.paths_of.Goals as goal

abbrev nothing : Bor (List ℕ)
nothing = record { ref_ptr = (0, 0); now = [] }

pub returns-in-Err-clause-fault : goal.returns-in-Err-clause-fault
returns-in-Err-clause-fault c =
    let inside : c.loop-text.text-index < length c.args.texts.now = omega arith in
    address_stop (λ text. text.now) c.args.texts.now c.loop-text.text-index nothing c.in-Err.fault inside c.loop-text.invariant.1 c.in-Err.ensures.fault

pub loop-text-preserved : goal.loop-text-preserved
loop-text-preserved c =
    let inside : c.loop-text.text-index < length c.args.texts.now = omega arith in
    let grown = paths_next (λ text. text.now) c.args.texts.now c.loop-text.text-index nothing c.loop-text.paths.items c.in-Ok.path
    inside c.loop-text.invariant c.in-Ok.ensures.path.0 c.in-Ok.ensures.path.1 in
    rw add-one (c.in_ok-push-in-Ok.ensures.items ∙ grown.0, grown.1)

pub returns-clause-paths : goal.returns-clause-paths
returns-clause-paths c =
    let texts = map (λ (text : Bor (List ℕ)). text.now) c.args.texts.now in
    let past : length c.args.texts.now ≤ c.loop-text.text-index = omega arith in
    let whole : take c.loop-text.text-index texts ≡ texts = take_all c.loop-text.text-index texts (rw (length-map c.args.texts.now (λ (text : Bor (List ℕ)). text.now)) past) in
    (c.loop-text.invariant.0 ∙ whole, subst (λ ts. All IsPathText ts) whole c.loop-text.invariant.1)
