use Rattle.std.proofs.Common.{◌∙◌, ◌++◌, ap, sym, None, Some}
use Rattle.std.proofs.lemmas.Bool.Decides.{Decides-eqb}
use Rattle.std.proofs.lemmas.Slice.Eq.{strip_prefix_is}
use Rattle.uu_seal.proofs.KeyFiles.{cut_here, cut_not}
use Rattle.uu_seal.proofs.key.cut_line.Goals as goal

pub returns-in_err-behind : goal.returns-in_err-behind
returns-in_err-behind c =
    let none = strip_prefix_is Decides-eqb c.in_ok-line.rest.now c.as_slice.result.now None c.in_err-behind.ensures.cases in
    rw c.from_residual-in_err-behind.ensures
    (cut_not c.args.text.now c.in_ok-line.rest.now c.in_ok-line.ensures.cases.2 (λ behind is. none behind (is ∙ ap (λ p. p ++ behind) (sym c.as_slice.ensures))))

pub returns : goal.returns
returns c =
    let cut = strip_prefix_is Decides-eqb c.in_ok-line.rest.now c.as_slice.result.now (Some c.in_ok-behind.behind) c.in_ok-behind.ensures.cases in
    (c.in_ok-line.ensures.cases.3, cut_here c.args.text.now c.in_ok-line.line.now c.in_ok-line.rest.now c.in_ok-behind.behind.now c.in_ok-line.ensures.cases.1 c.in_ok-line.ensures.cases.2 (cut ∙ ap (λ p. p ++ c.in_ok-behind.behind.now) c.as_slice.ensures))
