-- What each text means under the schema.
use Rattle.std.proofs.Common.{◌∷◌, [], refl, List, ℕ, pos, codes}
use Rattle.sqlite.specs.declared.types.Value.TheVariants.{Null, Int}
use Rattle.sqlite.specs.Term.{Term, lit, col, op2}
use Rattle.sqlite.specs.Query.{Query}
use Rattle.sqlite_tied.specs.Compute.{everything}
use Rattle.sqlite.specs.Listing.{understood}
use Rattle.sqlite.specs.Collation.TheVariants.{Binary}
use Rattle.sqlite_sql.specs.declared.ops.BinaryOp.TheVariants.{Is, Or}
use Rattle.uu_schema.proofs.Terms.{over, where_is}
use Rattle.uu_schema.proofs.Asks.{Means, ordered}
use Rattle.uu_schema.specs.Queries.{IsQuery}
use Rattle.uu_schema.specs.Schema.{spool_schema, spool, systems, jobs, bodies, entries, links, taken}
use Rattle.uu_questions.proofs.Texts.{next_text, known_text, waiting_text, head_text, system_text, link_text, taken_text, all_jobs_text, jobs_text, body_text, entry_text, entries_text, taken_from_text, due_jobs_text}
use Rattle.uu_rows.proofs.Meanings.{at_places, by_places, is_first, head_names, system_names, link_names, taken_names}

-- ---- before a command

pub next_means : Means spool_schema next_text (ordered spool.tree (is_first ∷ []) (at_places (3 ∷ [])) []) (codes "next" ∷ [])
unfolding understood everything
next_means = record { command = refl; plain = (refl, refl); listing = refl }

pub next_ask : IsQuery next_text
unfolding everything
next_ask = refl

pub known_means : Means spool_schema known_text (ordered systems.tree (where_is 1 0 ∷ []) (at_places (1 ∷ [])) []) (codes "name" ∷ [])
unfolding understood everything
known_means = record { command = refl; plain = (refl, refl); listing = refl }

-- one row is enough
abbrev pub first_waiting : Query
first_waiting = record (over jobs.tree (where_is 2 0 ∷ []) (at_places (0 ∷ []))) { limit = lit (Int (pos 1)) }

pub waiting_means : Means spool_schema waiting_text first_waiting (codes "number" ∷ [])
unfolding understood everything
waiting_means = record { command = refl; plain = (refl, refl); listing = refl }

pub head_means : Means spool_schema head_text (ordered jobs.tree (where_is 0 0 ∷ []) (at_places (0 ∷ 2 ∷ 3 ∷ 4 ∷ 5 ∷ 6 ∷ 7 ∷ 8 ∷ 9 ∷ [])) (by_places (0 ∷ []))) head_names
unfolding understood everything
head_means = record { command = refl; plain = (refl, refl); listing = refl }

pub system_means : Means spool_schema system_text (ordered systems.tree (where_is 1 0 ∷ []) (at_places (1 ∷ 2 ∷ 3 ∷ 4 ∷ 5 ∷ 6 ∷ 7 ∷ [])) (by_places (1 ∷ []))) system_names
unfolding understood everything
system_means = record { command = refl; plain = (refl, refl); listing = refl }

pub link_means : Means spool_schema link_text (ordered links.tree (where_is 1 0 ∷ []) (at_places (1 ∷ 2 ∷ [])) (by_places (1 ∷ []))) link_names
unfolding understood everything
link_means = record { command = refl; plain = (refl, refl); listing = refl }

pub taken_means : Means spool_schema taken_text (ordered taken.tree (where_is 1 0 ∷ where_is 2 1 ∷ []) (at_places (1 ∷ 2 ∷ 3 ∷ 4 ∷ [])) (by_places (1 ∷ 2 ∷ []))) taken_names
unfolding understood everything
taken_means = record { command = refl; plain = (refl, refl); listing = refl }

-- ---- what users ask

-- the parameter is NULL, or the column equals it
abbrev pub null_or_is : ℕ → ℕ → Term
null_or_is place param = op2 Or (op2 (Is Binary) (col 0 param) (lit Null)) (where_is place param)

abbrev pub fit_terms : List Term
fit_terms = null_or_is 2 0 ∷ null_or_is 4 1 ∷ []

pub all_jobs_means : Means spool_schema all_jobs_text (ordered jobs.tree [] (at_places (0 ∷ 2 ∷ 3 ∷ 4 ∷ 5 ∷ 6 ∷ 7 ∷ 8 ∷ 9 ∷ [])) (by_places (3 ∷ 0 ∷ []))) head_names
unfolding understood everything
all_jobs_means = record { command = refl; plain = (refl, refl); listing = refl }

pub jobs_means : Means spool_schema jobs_text (ordered jobs.tree fit_terms (at_places (0 ∷ 2 ∷ 3 ∷ 4 ∷ 5 ∷ 6 ∷ 7 ∷ 8 ∷ 9 ∷ [])) (by_places (3 ∷ 0 ∷ []))) head_names
unfolding understood everything
jobs_means = record { command = refl; plain = (refl, refl); listing = refl }

pub body_means : Means spool_schema body_text (ordered bodies.tree (where_is 0 0 ∷ []) (at_places (0 ∷ 2 ∷ [])) (by_places (0 ∷ []))) (codes "job" ∷ codes "bytes" ∷ [])
unfolding understood everything
body_means = record { command = refl; plain = (refl, refl); listing = refl }

pub entry_means : Means spool_schema entry_text (ordered entries.tree (where_is 1 0 ∷ []) (at_places (1 ∷ 2 ∷ [])) (by_places (1 ∷ []))) (codes "host" ∷ codes "bytes" ∷ [])
unfolding understood everything
entry_means = record { command = refl; plain = (refl, refl); listing = refl }

pub entries_means : Means spool_schema entries_text (ordered entries.tree [] (at_places (1 ∷ 2 ∷ [])) (by_places (1 ∷ []))) (codes "host" ∷ codes "bytes" ∷ [])
unfolding understood everything
entries_means = record { command = refl; plain = (refl, refl); listing = refl }

pub taken_from_means : Means spool_schema taken_from_text (ordered taken.tree (where_is 1 0 ∷ []) (at_places (1 ∷ 2 ∷ 3 ∷ 4 ∷ [])) (by_places (1 ∷ 2 ∷ []))) taken_names
unfolding understood everything
taken_from_means = record { command = refl; plain = (refl, refl); listing = refl }

-- ---- for which job each system is called

pub due_jobs_means : Means spool_schema due_jobs_text (ordered jobs.tree [] (at_places (2 ∷ 3 ∷ 0 ∷ [])) (by_places (3 ∷ 0 ∷ []))) (codes "system" ∷ codes "rank" ∷ codes "number" ∷ [])
unfolding understood everything
due_jobs_means = record { command = refl; plain = (refl, refl); listing = refl }
