use Rattle.std.proofs.Common.{◌≡◌, ◌||◌, ℕ, List, Some, cond, take, nat_cmp}
use Rattle.std.specs.Cmp.Lexicographic.{slice_cmp}
use Rattle.std.specs.List.{list_any}
use Rattle.std.specs.Str.{bytes_eq}
use Rattle.std.specs.BTreeMap.{get}
use Rattle.uu_routes.specs.Internal.Claims.{claim_by}
use Rattle.uu_routes.proofs.claims.note_all.Given as goal

abbrev pub invariant-loop-alias : goal.invariant-loop-alias
invariant-loop-alias l = (other : List ℕ) → get (slice_cmp nat_cmp) l.table other ≡
    cond (bytes_eq l.entry.host other || list_any (λ name. bytes_eq name other) (take l.alias-index l.entry.aliases))
    (Some (claim_by l.place (get (slice_cmp nat_cmp) l.initial.table other))) (get (slice_cmp nat_cmp) l.initial.table other)
