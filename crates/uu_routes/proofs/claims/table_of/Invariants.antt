use Rattle.std.proofs.Common.{take, nat_cmp}
use Rattle.std.specs.Cmp.Lexicographic.{slice_cmp}
use Rattle.std.specs.BTreeMap.{get}
use Rattle.uu_routes.specs.Internal.Claims.{AreClaims}
use Rattle.uu_routes.proofs.claims.table_of.Given as goal

abbrev pub invariant-loop-place : goal.invariant-loop-place
invariant-loop-place l = AreClaims (take l.place l.entries) (get (slice_cmp nat_cmp) l.table)
