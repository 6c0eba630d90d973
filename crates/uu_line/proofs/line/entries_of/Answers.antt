use Rattle.std.proofs.Common.{◌∙◌, ap, sym, subst, inl, inr, map}
use Rattle.std.specs.String.{string_bytes}
use Rattle.clap.specs.Words.{App, is_simple, is_simple_and_free, fault_of, matches_of, subcommand_of, kind_of}
use Rattle.clap.specs.Kinds.{IsAmong}
use Rattle.uu_line.specs.Commands.{program}
use Rattle.uu_line.proofs.ProgramLemmas.{program_is_simple, program_is_free}
use Rattle.uu_line.proofs.LineLemmas.{IsWordsOf_weaker}
use Rattle.uu_line.proofs.line.entries_of.Goals as goal

pub returns-in-Ok-clause-entries : goal.returns-in-Ok-clause-entries
returns-in-Ok-clause-entries c =
    let words = map string_bytes c.args.words.now in
    let same = c.in_ok-program_command.ensures in
    let accepted = c.in-Ok.ensures.kinds (ap is_simple_and_free same ∙ program_is_free) in
    let found = c.in-Ok.ensures.matches (ap is_simple same ∙ program_is_simple) in
    (sym (ap (λ (a : App). fault_of a words) same) ∙ accepted, found.0 ∙ ap (λ (a : App). matches_of a words) same, found.1 ∙ ap (λ (a : App). subcommand_of a words) same)

pub returns-in-Err-clause-refused : goal.returns-in-Err-clause-refused
returns-in-Err-clause-refused c =
    let words = map string_bytes c.args.words.now in
    let same = c.in_ok-program_command.ensures in
    let kinds = c.in-Err.ensures.kinds (ap is_simple_and_free same ∙ program_is_free) in
    IsWordsOf_weaker _ _ c.refused.result (λ kind (is, other). elim kinds [
      | inl memory ↦ absurd (other (is ∙ memory))
      | inr among ↦ subst (λ k. IsAmong k (fault_of program words)) (sym is) (subst (IsAmong (kind_of c.in-Err.error)) (ap (λ (a : App). fault_of a words) same) among)
    ]) c.refused.ensures
