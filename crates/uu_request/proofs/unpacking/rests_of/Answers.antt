use Rattle.std.proofs.Common.{IsTrue, length, nat_le, subst, sym}
use Rattle.std.specs.List.{list_all}
use Rattle.uu_names.specs.Path.{rest_of}
use Rattle.uu_request.specs.Unpacking.{have_rests}
use Rattle.uu_request.proofs.unpacking.rests_of.Goals as goal

pub rests-requires : goal.rests-requires
rests-requires c =
    subst (λ addresses. IsTrue (list_all (λ address. nat_le 1 (length (rest_of address))) addresses)) (sym c.as_slice.ensures)
    (subst (λ kind. IsTrue (have_rests kind)) c.in-Execute.is c.requires)
