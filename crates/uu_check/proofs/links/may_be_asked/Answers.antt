use Rattle.std.proofs.Common.{Bool, List, ℕ, rules, sym}
use Rattle.std.specs.Prelude.{nat_le}
use Rattle.std.proofs.lemmas.Fn.{always_returns_same}
use Rattle.uu_tables.specs.declared.rows.LinkColumns.{LinkColumns}
use Rattle.uu_check.proofs.Search.{place_of, one_is_asked, none_is_asked}
use Rattle.uu_check.proofs.links.may_be_asked.Goals as goal

abbrev name_of : LinkColumns → List ℕ
name_of l = l.system

abbrev asked : ℕ → LinkColumns → Bool
asked number l = nat_le l.below number

pub returns-in-Ok : goal.returns-in-Ok
returns-in-Ok c = sym (one_is_asked name_of (asked c.args.row.now.taken.number) c.args.row.now.system c.index-links-place.result c.args.links.now c.in-Ok.place c.requires c.in-Ok.ensures.bound (c.in-Ok.ensures.position (place_of name_of c.args.row.now.system) (always_returns_same _ _ _ (λ a r f' k. search rules))))

pub returns-in-Err : goal.returns-in-Err
returns-in-Err c = sym (none_is_asked name_of (asked c.args.row.now.taken.number) c.args.row.now.system c.args.links.now c.in-Err.field-0 c.requires (c.in-Err.ensures.position (place_of name_of c.args.row.now.system) (always_returns_same _ _ _ (λ a r f' k. search rules))))
