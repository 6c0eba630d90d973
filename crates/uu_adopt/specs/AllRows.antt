-- Whether the rows of all tables are those of a state, of this version and of earlier ones.
use Rattle.std.specs.Prelude.{◌≡◌, Bool, IsSomeAnd, List}
use Rattle.uu_core.specs.declared.job.JobHead.{JobHead}
use Rattle.sqlite.specs.Tree.{Trees}
use Rattle.uu_core.specs.State.{State}
use Rattle.uu_check.specs.declared.spool.Rows.{Rows}
use Rattle.uu_check.specs.declared.earlier.EarlierRows.{EarlierRows}
use Rattle.uu_schema.specs.declared.version.Version.{Version}
use Rattle.uu_schema.specs.declared.version.Version.TheVariants.{Fourth}
use Rattle.uu_schema.specs.Encoded.{HoldsStateAs}
use Rattle.uu_adopt.specs.Reading.{AnswersJobs, FindsSystems, FindsBareSystems, FindsLines, FindsRanges, FindsJobs, FindsBodies, FindsPieces, FindsEntries, FindsNext, FindsWaits, FindsLinks, FindsTaken, Tells}
use Rattle.uu_adopt.specs.Adoption.{IsOfNone}
use Rattle.uu_adopt.specs.declared.all_rows.AllRows.{AllRows}
use Rattle.uu_adopt.specs.declared.all_earlier.AllEarlier.{AllEarlier}

-- ---- this version

-- the rows of each table are found, or else they are the rows of no state
pub record FindsAllRows (trees : Trees) (all : AllRows) : Type 0 where
  pub next : FindsNext Fourth trees all.next
  pub systems : FindsSystems trees all.systems
  pub jobs : AnswersJobs Fourth trees all.jobs.items
  pub bodies : FindsBodies trees all.bodies
  pub entries : FindsEntries Fourth trees all.entries
  pub links : FindsLinks Fourth trees all.links
  pub taken : FindsTaken Fourth trees all.taken

-- the rows of every other table were found, and with these heads of the jobs they are these
pub record AreRowsOf (all : AllRows) (heads : List JobHead) (rows : Rows) : Type 0 where
  pub next : IsSomeAnd all.next (λ next. rows.next ≡ next)
  pub systems : IsSomeAnd all.systems (λ found. rows.systems.now ≡ found.items)
  pub jobs : rows.jobs.now ≡ heads
  pub bodies : IsSomeAnd all.bodies (λ found. rows.bodies.now ≡ found.items)
  pub entries : IsSomeAnd all.entries (λ found. rows.entries.now ≡ found.items)
  pub links : IsSomeAnd all.links (λ found. rows.links.now ≡ found.items)
  pub taken : IsSomeAnd all.taken (λ found. rows.taken.now ≡ found.items)

-- ---- an earlier version

pub record FindsAllEarlier (v : Version) (trees : Trees) (all : AllEarlier) : Type 0 where
  pub next : FindsNext v trees all.next
  pub systems : FindsBareSystems trees all.systems
  pub lines : FindsLines trees all.lines
  pub ranges : FindsRanges trees all.ranges
  pub jobs : FindsJobs v trees all.jobs
  pub pieces : FindsPieces trees all.pieces
  pub entries : FindsEntries v trees all.entries
  pub success_waits : FindsWaits v trees all.success_waits
  pub links : FindsLinks v trees all.links
  pub taken : FindsTaken v trees all.taken

pub record AreEarlierRowsOf (all : AllEarlier) (rows : EarlierRows) : Type 0 where
  pub next : IsSomeAnd all.next (λ next. rows.next ≡ next)
  pub systems : IsSomeAnd all.systems (λ found. rows.systems.now ≡ found.items)
  pub lines : IsSomeAnd all.lines (λ found. rows.lines.now ≡ found.items)
  pub ranges : IsSomeAnd all.ranges (λ found. rows.ranges.now ≡ found.items)
  pub jobs : IsSomeAnd all.jobs (λ found. rows.jobs.now ≡ found.items)
  pub pieces : IsSomeAnd all.pieces (λ found. rows.pieces.now ≡ found.items)
  pub entries : IsSomeAnd all.entries (λ found. rows.entries.now ≡ found.items)
  pub success_waits : IsSomeAnd all.success_waits (λ found. rows.success_waits.now ≡ found.items)
  pub links : IsSomeAnd all.links (λ found. rows.links.now ≡ found.items)
  pub taken : IsSomeAnd all.taken (λ found. rows.taken.now ≡ found.items)

-- ---- the verdict

-- yes if these are the rows of a state in the tables of a version, and else no
abbrev pub TellsState : Version → Trees → Bool → Type 0
TellsState v trees good = Tells good ((s : State) × HoldsStateAs v trees s) (IsOfNone v trees)
