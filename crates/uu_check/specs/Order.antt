-- The tables of a state in the order of their keys: the answer to a question with ORDER BY. No key
-- occurs twice.
use Rattle.std.specs.Prelude.{◌≡◌, ◌<◌, AllPairs}
use Rattle.std.specs.declared.cmp.Ordering.TheVariants.{Less}
use Rattle.uu_core.specs.State.{ComesBefore}
use Rattle.uu_core.specs.declared.job.JobHead.{JobHead}
use Rattle.uu_tables.specs.declared.rows.Body.{Body}
use Rattle.uu_tables.specs.Order.{line_cmp, range_cmp, piece_cmp, taken_cmp}
use Rattle.uu_tables.specs.Tables.{Tables}
use Rattle.uu_tables.specs.Earlier.{EarlierTables}

pub record AreInOrder (t : Tables) : Type 0 where
  pub systems : AllPairs (λ a b. ComesBefore a.def.name b.def.name) t.systems
  pub jobs : AllPairs (λ (a b : JobHead). a.number < b.number) t.jobs
  pub bodies : AllPairs (λ (a b : Body). a.job < b.job) t.bodies
  pub entries : AllPairs (λ a b. ComesBefore a.host b.host) t.entries
  pub links : AllPairs (λ a b. ComesBefore a.system b.system) t.links
  pub taken : AllPairs (λ a b. taken_cmp a b ≡ Less) t.taken

-- the same of earlier versions
pub record AreEarlierInOrder (t : EarlierTables) : Type 0 where
  pub systems : AllPairs (λ a b. ComesBefore a.name b.name) t.systems
  pub lines : AllPairs (λ a b. line_cmp a b ≡ Less) t.lines
  pub ranges : AllPairs (λ a b. range_cmp a b ≡ Less) t.ranges
  pub jobs : AllPairs (λ (a b : JobHead). a.number < b.number) t.jobs
  pub pieces : AllPairs (λ a b. piece_cmp a b ≡ Less) t.pieces
  pub entries : AllPairs (λ a b. ComesBefore a.host b.host) t.entries
  pub success_waits : AllPairs (λ a b. ComesBefore a.system b.system) t.success_waits
  pub links : AllPairs (λ a b. ComesBefore a.system b.system) t.links
  pub taken : AllPairs (λ a b. taken_cmp a b ≡ Less) t.taken
