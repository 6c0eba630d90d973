-- Statements on one table in the words of the port of SQLite.
use Rattle.std.specs.Prelude.{false, [], None, List, ℕ, pos, negsuc}
use Rattle.sqlite.specs.Collation.TheVariants.{Binary}
use Rattle.sqlite.specs.declared.types.Value.TheVariants.{Int}
use Rattle.sqlite.specs.Query.{Query, inner, end}
use Rattle.sqlite.specs.Term.{Term, lit, col, op2}
use Rattle.sqlite_sql.specs.declared.ops.BinaryOp.TheVariants.{Compare}
use Rattle.sqlite_sql.specs.declared.ops.CompareOp.TheVariants.{Eq}

-- the two are equal; slot 0 of a row has the parameters, slot 1 the row of the table
abbrev pub equal_terms : Term → Term → Term
equal_terms a b = op2 (Compare Eq Binary) a b

-- the column at this place equals the parameter at that one
abbrev pub where_is : ℕ → ℕ → Term
where_is place param = equal_terms (col 1 place) (col 0 param)

-- a query on one table with no order, grouping or limit
abbrev pub over : ℕ → List Term → List Term → Query
over tree filter project = record {
  from = inner tree end;
  filter = filter;
  group = None;
  project = project;
  distinct = false;
  collations = [];
  order = [];
  limit = lit (Int (negsuc 0));
  offset = lit (Int (pos 0));
}
