-- If the first line isn't a leading line, the run stops.
use Rattle.std.proofs.Common.{List, ℕ, subst, sym}
use Rattle.uu_names.specs.ReturnPath.{IsLeadingLine}
use Rattle.uu_names.proofs.return_paths.next_sender.Goals as goal

pub returns-in_err-user : goal.returns-in_err-user
returns-in_err-user c =
    rw c.from_residual.ensures
    (rw c.first_line_len-line_len.ensures.line (λ sender leading. c.in_err-user.ensures sender (subst (λ (l : List ℕ). IsLeadingLine c.args.marker.now l sender) (sym c.content.ensures) leading)))
