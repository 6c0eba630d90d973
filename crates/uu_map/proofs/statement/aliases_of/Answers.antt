use Rattle.std.proofs.Common.{◌≡◌, ◌++◌, length, option_map, sym, ap, ◌∙◌, arith}
use Rattle.std.proofs.lemmas.Bool.Decides.{nat_tests}
use Rattle.uu_map.specs.Internal.StatementReading.{alias_of, list_of}
use Rattle.uu_map.proofs.Parts.{list_blank, list_refused, list_more, list_end}
use Rattle.uu_map.proofs.statement.aliases_of.Goals as goal

pub returns-in_default : goal.returns-in_default
returns-in_default c =
    let refused = list_refused alias_of c.loop-rest.rest.now c.first_part.result.0.now c.first_part.result.1.now c.first_part.ensures.parts (sym c.is_all_blank.ensures ∙ c.if-not-is_all_blank.true) (sym c.in_ok-alias.ensures ∙ c.in_default.is) in
    sym (ap (option_map (λ more. c.loop-rest.aliases.items ++ more)) refused) ∙ c.loop-rest.invariant

pub loop-rest-preserved-in_ok-push : goal.loop-rest-preserved-in_ok-push
loop-rest-preserved-in_ok-push c =
    let more = list_more alias_of c.loop-rest.rest.now c.first_part.result.0.now c.first_part.result.1.now c.first_part.ensures.parts c.loop-rest.aliases.items c.in-Some.alias (sym c.is_all_blank.ensures ∙ c.if-not-is_all_blank.true) (sym c.in_ok-alias.ensures ∙ c.in-Some.is) in
    ap (λ items. option_map (λ more. items ++ more) (list_of alias_of c.first_part.result.1.now)) c.in_ok-push.ensures.items ∙ (more ∙ c.loop-rest.invariant)

pub loop-rest-preserved : goal.loop-rest-preserved
loop-rest-preserved c =
    let blank = list_blank alias_of c.loop-rest.rest.now c.first_part.result.0.now c.first_part.result.1.now c.first_part.ensures.parts (sym c.is_all_blank.ensures ∙ c.if-not-is_all_blank.false) in
    ap (option_map (λ more. c.loop-rest.aliases.items ++ more)) (sym blank) ∙ c.loop-rest.invariant

pub returns : goal.returns
returns c =
    let none : length c.loop-rest.rest.now ≡ 0 = grind (arith, nat_tests) in
    sym (list_end alias_of c.loop-rest.aliases.items c.loop-rest.rest.now none) ∙ c.loop-rest.invariant
