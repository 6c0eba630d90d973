-- Mirrors of the code, which the clauses within the crate cite. Public clauses rest on two of them:
-- `Scan.list_of` reads a list of simple strings byte by byte, and `Simples.any_has` says whether
-- simple strings have a minute. `laws::lists_are_what_is_written` says what they give in terms of
-- the grammar.
pub mod Listed
pub mod Reading
pub mod Scan
pub mod Section
pub mod Simples
pub mod Union
