use Rattle.std.proofs.Common.{◌∙◌, ◌∷◌, [], refl}
use Rattle.uu_names.proofs.Basics.{pairs_by_recursion}
use Rattle.uu_core.specs.declared.command.Command.TheVariants.{Define}
use Rattle.uu_tables.specs.Tables.{tables_of}
use Rattle.uu_tables.proofs.PlanLemmas.{accepts_with}
use Rattle.uu_tables.proofs.OrderLemmas.{before}
use Rattle.uu_tables.proofs.DefineLemmas.{defined}
use Rattle.uu_tables.proofs.plan.system.plan_define.Goals as goal

pub returns : goal.returns
returns c s good known =
    let def = c.args.def.now in
    accepts_with s (Define def) (c.definition.result ∷ []) _ refl c.one_change.ensures.reply c.one_change.ensures.changes
    (c.definition.ensures (tables_of s) ∙ defined s def (pairs_by_recursion (before (λ row. row.def.name)) s.systems good.by_name) c.args.known known)
