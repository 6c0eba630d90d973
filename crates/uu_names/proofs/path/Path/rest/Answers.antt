-- The text may be cut after its first `!`, which is a byte of its own, and what comes after it is a
-- word.
use Rattle.std.proofs.Common.{◌≡◌, ◌+◌, List, ℕ, subst, sym, ap, ◌∙◌, IsCharBoundary, IsUtf8, arith}
use Rattle.std.proofs.lemmas.Grind.{common_steps}
use Rattle.uu_names.specs.Name.{is_word}
use Rattle.uu_names.specs.Path.{IsPathText, rest_of}
use Rattle.uu_names.proofs.PathParts.{cut_after, hop_fits, rest_word}
use Rattle.uu_names.proofs.path.Path.rest.Goals as goal

pub overflow_add-self-inside : goal.overflow_add-self-inside
overflow_add-self-inside c =
    omega (arith, hop_fits _ c.self.inside.hop_len c.self.invariant.0 c.self.invariant.1)

pub range_from-requires : goal.range_from-requires
range_from-requires c _ =
    let e = c.as_str-text.ensures.value in
    let u : IsUtf8 c.as_str-text.result.now = c.as_str-text.utf8 in
    subst (λ (t : List ℕ). IsCharBoundary t (c.self.inside.hop_len + 1)) (sym e)
    (cut_after _ c.self.inside.hop_len (subst IsUtf8 e u) c.self.invariant.0 c.self.invariant.1)

pub returns-clause-word : goal.returns-clause-word
returns-clause-word c =
    let e : c.range_from.result.now ≡ rest_of c.args.self.now = grind (arith, common_steps) in
    ap is_word e ∙ rest_word c.args.self.now (subst IsPathText c.self.view_is c.self.invariant.0)
