-- How a state is kept: in its tables, of any version, or, if it is that of an empty spool, perhaps
-- without any tables.
use Rattle.std.specs.Prelude.{◌≡◌, ◌⊎◌, ⊤}
use Rattle.sqlite.specs.Tree.{Trees}
use Rattle.sqlite.specs.Effect.{Database}
use Rattle.sqlite_catalog.specs.Listing.{IsSound}
use Rattle.uu_schema.specs.Steps.{Stands}
use Rattle.uu_core.specs.State.{State, empty}
use Rattle.uu_schema.specs.declared.version.Version.{Version}
use Rattle.uu_schema.specs.declared.version.Version.TheVariants.{First, Second, Third, Fourth}
use Rattle.uu_schema.specs.Schema.{no_schema}
use Rattle.uu_schema.specs.Encoded.{EncodesAs, HoldsStateAs}
use Rattle.uu_schema.specs.Earlier.{schema_of}

-- the database encodes the state, or has no tables and the state is an empty spool's
abbrev pub Stores : Database → State → Type 0
Stores database s = ((v : Version) × EncodesAs v database s) ⊎ (Stands no_schema database × (s ≡ empty))

-- the same for its trees alone, which are all that a stop leaves
abbrev pub Keeps : Trees → State → Type 0
Keeps trees s = ((v : Version) × IsSound (schema_of v) trees × HoldsStateAs v trees s) ⊎ (IsSound no_schema trees × (s ≡ empty))

-- each outcome keeps the state
abbrev pub KeepsOnly : (Trees → Type 0) → State → Type 0
KeepsOnly could_leave s = (trees : Trees) → could_leave trees → Keeps trees s

-- each outcome keeps one of the two states
abbrev pub KeepsEither : (Trees → Type 0) → State → State → Type 0
KeepsEither could_leave s t = (trees : Trees) → could_leave trees → Keeps trees s ⊎ Keeps trees t

-- a version without tables of links
abbrev pub HasNoLinks : Version → Type 0
HasNoLinks First = ⊤
HasNoLinks Second = ⊤
HasNoLinks Third = ⊥
HasNoLinks Fourth = ⊥
