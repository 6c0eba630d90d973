use Rattle.std.proofs.Common.{◌≡◌, true, List, ℕ, rules, sym, subst}
use Rattle.std.specs.List.{list_any}
use Rattle.std.proofs.lemmas.Fn.{always_returns_same}
use Rattle.uu_core.specs.State.{same_text}
use Rattle.uu_tables.specs.declared.earlier.BareSystem.{BareSystem}
use Rattle.uu_check.proofs.Search.{place_of, found, not_found}
use Rattle.uu_check.proofs.earlier.place_for.Goals as goal

abbrev name_of : BareSystem → List ℕ
name_of s = s.name

pub returns-then-is_at : goal.returns-then-is_at
returns-then-is_at g c = sym (subst (λ name. list_any (λ (s : BareSystem). same_text s.name name) c.args.systems.now ≡ true) c.system-name.ensures (c.is_at.ensures c.if-is_at.true))

pub returns-in-Ok : goal.returns-in-Ok
returns-in-Ok g c = sym (found name_of (g.H.Head.head c.args.job.now).system c.args.systems.now c.in-Ok.place c.in-Ok.ensures.bound (c.in-Ok.ensures.position (place_of name_of (g.H.Head.head c.args.job.now).system) (always_returns_same _ _ _ (λ a r f' k. search rules))))

pub returns-in-Err : goal.returns-in-Err
returns-in-Err g c = sym (not_found name_of (g.H.Head.head c.args.job.now).system c.args.systems.now c.in-Err.field-0 c.requires (c.in-Err.ensures.position (place_of name_of (g.H.Head.head c.args.job.now).system) (always_returns_same _ _ _ (λ a r f' k. search rules))))
