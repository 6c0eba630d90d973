use Rattle.std.proofs.Common.{◌≤◌, IsTrue, length, refl, subst, sym}
use Rattle.uu_line.specs.Lines.{takes_input}
use Rattle.uu_names.specs.Text.{most_text}
use Rattle.uu_request.proofs.request.task_request.Goals as goal

pub load-requires : goal.load-requires
load-requires c =
    subst (λ bytes. length bytes ≤ most_text) (sym c.deref.ensures.value)
    (c.requires.fits (subst (λ asked. IsTrue (takes_input asked)) (sym c.in-Load.is) refl))

pub entries-requires : goal.entries-requires
entries-requires c =
    subst (λ bytes. length bytes ≤ most_text) (sym c.deref-in-Map.ensures.value)
    (c.requires.fits (subst (λ asked. IsTrue (takes_input asked)) (sym c.in-Map.is) refl))
