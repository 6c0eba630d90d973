use Rattle.std.proofs.Common.{◌≡◌, ◌∙◌, ◌∷◌, ◌++◌, ap, subst, sym, take, true}
use Rattle.uu_names.specs.Name.{is_word}
use Rattle.uu_request.specs.Unpacking.{user_of}
use Rattle.uu_request.proofs.WordLemmas.{never_refused, user_word, word_made}
use Rattle.uu_request.proofs.unpacking.user_of.Goals as goal

pub returns-in-Ok-clause-user : goal.returns-in-Ok-clause-user
returns-in-Ok-clause-user c =
    let site = c.args.sender.now in
    let user = c.args.user.now in
    let text : c.front_of.result.now ≡ user_of site user =
    c.front_of.ensures
    ∙ ap (take 255) (c.as_bytes.ensures.value ∙ c.in_ok-both.ensures ∙ ap (λ t. t ++ 33 ∷ c.as_str-2.result.now) c.as_str.ensures.text ∙ ap (λ t. site ++ 33 ∷ t) c.as_str-2.ensures.text) in
    word_made c.front_of.result.now c.in-Ok.word
    (subst (λ word. is_word word ≡ true) (sym text) (user_word site user c.as_str.ensures.name c.as_str-2.ensures.word)) c.in-Ok.ensures
    ∙ text

pub unreachable-requires : goal.unreachable-requires
unreachable-requires c =
    let site = c.args.sender.now in
    let user = c.args.user.now in
    let text : c.front_of.result.now ≡ user_of site user =
    c.front_of.ensures
    ∙ ap (take 255) (c.as_bytes.ensures.value ∙ c.in_ok-both.ensures ∙ ap (λ t. t ++ 33 ∷ c.as_str-2.result.now) c.as_str.ensures.text ∙ ap (λ t. site ++ 33 ∷ t) c.as_str-2.ensures.text) in
    never_refused c.front_of.result.now c.in-Err.fault
    (subst (λ word. is_word word ≡ true) (sym text) (user_word site user c.as_str.ensures.name c.as_str-2.ensures.word)) c.in_default.not-Memory c.in-Err.ensures
