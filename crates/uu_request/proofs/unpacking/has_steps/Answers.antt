use Rattle.std.proofs.Common.{rules, ◌∙◌, sym, ap, not}
use Rattle.uu_request.specs.Unpacking.{are_steps}
use Rattle.uu_request.proofs.WordLemmas.{last_step, step_off, step_on}
use Rattle.uu_request.proofs.unpacking.has_steps.Goals as goal

pub returns-then-not-is_site : goal.returns-then-not-is_site
returns-then-not-is_site c =
    sym (c.loop-site.invariant.steps ∙ step_off c.in-Some.site.now c.in-Some.rest.now c.loop-site.left.now c.in-Some.ensures.0 (sym c.is_site.ensures ∙ c.if-not-is_site.true))

pub loop-site-preserved : goal.loop-site-preserved
loop-site-preserved c = record {
  steps = c.loop-site.invariant.steps ∙ step_on c.in-Some.site.now c.in-Some.rest.now c.loop-site.left.now c.in-Some.ensures.0 (sym c.is_site.ensures ∙ c.if-not-is_site.false);
  text = search rules;
}

pub returns : goal.returns
returns c =
    ap not c.is_empty.ensures ∙ sym (c.loop-site.invariant.steps ∙ ap are_steps c.in_default.ensures ∙ last_step c.loop-site.left.now)
