use Rattle.std.proofs.Common.{◌≡◌, ◌∙◌, ap, sym, ℕ, ◌<◌, List, [], length, slice_index_or, Ok, map, add-one, arith, Bor}
use Rattle.uu_line.specs.Lines.{site_of, sites_of}
use Rattle.uu_line.proofs.LineLemmas.{err_weaker, values_next, values_stop}
use Rattle.uu_line.proofs.values.sites_of.Goals as goal

abbrev nothing : Bor (List ℕ)
nothing = record { ref_ptr = (0, 0); now = [] }

pub returns-in-Err : goal.returns-in-Err
returns-in-Err c =
    let inside : c.loop-text.text-index < length c.args.texts.now = omega arith in
    err_weaker (λ a. a ≡ site_of (slice_index_or c.args.texts.now c.loop-text.text-index nothing).now)
    (λ a. a ≡ sites_of (map (λ text. text.now) c.args.texts.now)) c.in-Err.fault
    (λ is. values_stop site_of (λ text. text.now) c.args.texts.now c.loop-text.text-index nothing c.loop-text.sites.items c.in-Err.fault inside c.loop-text.invariant is)
    c.in-Err.ensures

pub loop-text-preserved : goal.loop-text-preserved
loop-text-preserved c =
    let inside : c.loop-text.text-index < length c.args.texts.now = omega arith in
    rw add-one (values_next site_of (λ text. text.now) c.args.texts.now c.loop-text.text-index nothing c.loop-text.sites.items c.in-Ok.site inside c.loop-text.invariant c.in-Ok.ensures
    ∙ ap Ok (sym c.in_ok-push-in-Ok.ensures.items))
