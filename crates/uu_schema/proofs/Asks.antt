-- What the text of a query means under a schema that is written out.
use Rattle.std.proofs.Common.{◌≡◌, false, List, [], ℕ}
use Rattle.sqlite.specs.Schema.{Schema}
use Rattle.sqlite.specs.Query.{Query}
use Rattle.sqlite.specs.Term.{Term}
use Rattle.sqlite.specs.Command.TheVariants.{Select}
use Rattle.sqlite.specs.Listing.{understood, reads_listing}
use Rattle.sqlite.proofs.Callers.{command_of, IsPlain}
use Rattle.sqlite_value.specs.declared.keys.Key.{Key}
use Rattle.sqlite_value.specs.declared.keys.Collation.TheVariants.{Binary}
use Rattle.sqlite_value.specs.Keys.{ascending}
use Rattle.uu_schema.proofs.Terms.{over}

-- sorted by the term, from low to high
abbrev pub up : Term → Term × Key
up t = (t, ascending Binary)

-- a query on one table in an order
abbrev pub ordered : ℕ → List Term → List Term → List (Term × Key) → Query
ordered tree filter project order = record (over tree filter project) { order = order }

-- the text is this query on the schema's own tables, with no RETURNING and no clock
pub record Means (schema : Schema) (sql : List ℕ) (q : Query) (names : List (List ℕ)) : Type 0 where
  pub command : command_of (understood schema sql) ≡ Select (record { lets = []; body = q }) names
  pub plain : IsPlain (understood schema sql)
  pub listing : reads_listing schema sql ≡ false
