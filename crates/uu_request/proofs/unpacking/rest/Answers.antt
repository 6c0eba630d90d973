use Rattle.std.proofs.Common.{◌≡◌, ◌∙◌, ap, subst, sym, true}
use Rattle.uu_names.specs.Name.{is_word}
use Rattle.uu_names.specs.Path.{rest_of}
use Rattle.uu_request.proofs.WordLemmas.{never_refused, rest_word}
use Rattle.uu_request.proofs.unpacking.rest.Goals as goal

pub unreachable-requires : goal.unreachable-requires
unreachable-requires c =
    let address = c.args.address.now in
    let text : c.rest_of.result.now ≡ rest_of address = c.rest_of.ensures ∙ ap rest_of c.as_str.ensures.text in
    never_refused c.rest_of.result.now c.in-Err.fault
    (subst (λ rest. is_word rest ≡ true) (sym text) (rest_word address c.as_str.ensures.word c.requires)) c.in_default.not-Memory c.in-Err.ensures
