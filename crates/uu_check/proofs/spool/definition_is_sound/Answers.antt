use Rattle.std.proofs.Common.{All, IsTrue, subst, arith}
use Rattle.uu_names.specs.Name.{is_site_name}
use Rattle.uu_names.proofs.Basics.{all_from_take, all_more}
use Rattle.uu_times.specs.System.{System}
use Rattle.uu_core.specs.State.{IsLine}
use Rattle.uu_check.proofs.spool.definition_is_sound.Goals as goal

pub loop-line-preserved : goal.loop-line-preserved
loop-line-preserved c =
    all_more IsLine c.lines-line-items.result.now c.loop-line.line-index c.line-item.result c.loop-line-test.true c.line-item.is c.loop-line.invariant c.line_is_sound.ensures

pub returns : goal.returns
returns c = record {
  name = subst (λ (def : System). IsTrue (is_site_name def.name)) c.def.view_is c.name_is_sound.ensures;
  lines = subst (All IsLine) c.lines-line-items.ensures.value (all_from_take IsLine c.lines-line-items.result.now c.loop-line.line-index (omega arith) c.loop-line.invariant);
  limits = c.lines-line-items.ensures.within;
}
