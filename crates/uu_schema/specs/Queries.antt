-- Texts that are queries, under any schema.
use Rattle.std.specs.Prelude.{◌≡◌, ℕ, Bool, true, false, List, Ok, Err}
use Rattle.sqlite_ast.specs.declared.Statement.{Statement}
use Rattle.sqlite_ast.specs.declared.Statement.TheVariants as written
use Rattle.sqlite_syntax.specs.declared.statement.Parsed.{Parsed}
use Rattle.sqlite_resolve.specs.Lowering.{Checked}
use Rattle.sqlite_resolve.specs.Compile.{first}

abbrev pub selects : Statement → Bool
selects (written.Select query) = true
selects _ = false

-- it was read, and is a SELECT
abbrev pub asks : Checked Parsed → Bool
asks (Ok p) = selects p.statement
asks (Err e) = false

-- the text is a query
abbrev pub IsQuery : List ℕ → Type 0
IsQuery text = asks (first text) ≡ true
