use Rattle.std.proofs.Common.{◌≡◌, Bool, true, sym, subst, ◌∙◌, arith}
use Rattle.std.proofs.lemmas.List.Folds.{list_any_at}
use Rattle.uu_core.specs.State.{same_text}
use Rattle.uu_tables.specs.declared.earlier.BareSystem.{BareSystem}
use Rattle.uu_check.proofs.earlier.is_at.Goals as goal

pub returns : goal.returns
returns c same =
    let has : BareSystem → Bool = λ system. same_text system.name c.args.name.now in
    list_any_at has c.args.systems.now c.args.place c.index-systems-place.result (omega arith) (subst (λ s. has s ≡ true) c.index-systems-place.is (sym c.is_named.ensures ∙ same))
