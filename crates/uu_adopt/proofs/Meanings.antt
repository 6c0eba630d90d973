-- What each text means under the schema.
use Rattle.std.proofs.Common.{◌∷◌, [], refl, List, ℕ, codes}
use Rattle.sqlite.specs.Term.{Term, col, op1}
use Rattle.sqlite_sql.specs.declared.ops.UnaryOp.TheVariants.{Length}
use Rattle.sqlite.specs.Query.{Query}
use Rattle.sqlite_tied.specs.Compute.{everything}
use Rattle.sqlite.specs.Listing.{understood}
use Rattle.uu_schema.proofs.Asks.{Means, ordered}
use Rattle.uu_schema.specs.Queries.{IsQuery}
use Rattle.uu_schema.specs.declared.version.Version.{Version}
use Rattle.uu_schema.specs.declared.version.Version.TheVariants.{First, Second, Third, Fourth}
use Rattle.uu_schema.specs.Schema.{spool_schema, spool, systems, bodies, links, taken}
use Rattle.uu_schema.specs.Earlier.{schema_of, second_schema, third_schema, IsEarlierVersion, old_systems, lines, ranges, pieces, success_waits, old_links, old_taken}
use Rattle.uu_rows.proofs.Meanings.{at_places, by_places, is_first, head_names}
use Rattle.uu_adopt.specs.Texts.{version_text, spool_text}
use Rattle.uu_adopt.specs.Reading.{jobs_at, entries_at}
use Rattle.uu_adopt.proofs.Texts.{heads_text, sizes_text, bodies_text, pieces_text, entries_text, system_rowids_text, line_rowids_text, range_rowids_text, piece_rowids_text, entry_rowids_text, wait_rowids_text, link_rowids_text, taken_rowids_text}

-- ---- every row of a table

pub version_means : (v : Version) → Means (schema_of v) version_text (ordered spool.tree (is_first ∷ []) (at_places (2 ∷ [])) []) (codes "version" ∷ [])
unfolding understood everything
version_means First = record { command = refl; plain = (refl, refl); listing = refl }
version_means Second = record { command = refl; plain = (refl, refl); listing = refl }
version_means Third = record { command = refl; plain = (refl, refl); listing = refl }
version_means Fourth = record { command = refl; plain = (refl, refl); listing = refl }

pub spool_means : (v : Version) → Means (schema_of v) spool_text (ordered spool.tree [] (at_places (0 ∷ 2 ∷ 3 ∷ [])) []) (codes "id" ∷ codes "version" ∷ codes "next" ∷ [])
unfolding understood everything
spool_means First = record { command = refl; plain = (refl, refl); listing = refl }
spool_means Second = record { command = refl; plain = (refl, refl); listing = refl }
spool_means Third = record { command = refl; plain = (refl, refl); listing = refl }
spool_means Fourth = record { command = refl; plain = (refl, refl); listing = refl }

pub heads_means : (v : Version) → Means (schema_of v) heads_text (ordered (jobs_at v) [] (at_places (0 ∷ 2 ∷ 3 ∷ 4 ∷ 5 ∷ 6 ∷ 7 ∷ 8 ∷ 9 ∷ [])) (by_places (0 ∷ []))) head_names
unfolding understood everything
heads_means First = record { command = refl; plain = (refl, refl); listing = refl }
heads_means Second = record { command = refl; plain = (refl, refl); listing = refl }
heads_means Third = record { command = refl; plain = (refl, refl); listing = refl }
heads_means Fourth = record { command = refl; plain = (refl, refl); listing = refl }

abbrev pub size_terms : List Term
size_terms = col 1 0 ∷ op1 Length (col 1 2) ∷ []

pub sizes_means : Means spool_schema sizes_text (ordered bodies.tree [] size_terms (by_places (0 ∷ []))) (codes "job" ∷ codes "length(bytes)" ∷ [])
unfolding understood everything
sizes_means = record { command = refl; plain = (refl, refl); listing = refl }

pub bodies_means : Means spool_schema bodies_text (ordered bodies.tree [] (at_places (0 ∷ 2 ∷ [])) (by_places (0 ∷ []))) (codes "job" ∷ codes "bytes" ∷ [])
unfolding understood everything
bodies_means = record { command = refl; plain = (refl, refl); listing = refl }

pub pieces_means : (v : Version) → IsEarlierVersion v → Means (schema_of v) pieces_text (ordered pieces.tree [] (at_places (1 ∷ 2 ∷ 3 ∷ [])) (by_places (1 ∷ 2 ∷ []))) (codes "job" ∷ codes "place" ∷ codes "bytes" ∷ [])
unfolding understood everything
pieces_means First old = record { command = refl; plain = (refl, refl); listing = refl }
pieces_means Second old = record { command = refl; plain = (refl, refl); listing = refl }
pieces_means Third old = record { command = refl; plain = (refl, refl); listing = refl }
pieces_means Fourth old = absurd old

pub entries_means : (v : Version) → Means (schema_of v) entries_text (ordered (entries_at v) [] (at_places (1 ∷ 2 ∷ [])) (by_places (1 ∷ []))) (codes "host" ∷ codes "bytes" ∷ [])
unfolding understood everything
entries_means First = record { command = refl; plain = (refl, refl); listing = refl }
entries_means Second = record { command = refl; plain = (refl, refl); listing = refl }
entries_means Third = record { command = refl; plain = (refl, refl); listing = refl }
entries_means Fourth = record { command = refl; plain = (refl, refl); listing = refl }

-- ---- rowids

abbrev pub rowids_of : ℕ → Query
rowids_of tree = ordered tree [] (at_places (0 ∷ [])) (by_places (0 ∷ []))

pub system_rowids_means : Means spool_schema system_rowids_text (rowids_of systems.tree) (codes "rowid" ∷ [])
unfolding understood everything
system_rowids_means = record { command = refl; plain = (refl, refl); listing = refl }

pub bare_rowids_means : (v : Version) → IsEarlierVersion v → Means (schema_of v) system_rowids_text (rowids_of old_systems.tree) (codes "rowid" ∷ [])
unfolding understood everything
bare_rowids_means First old = record { command = refl; plain = (refl, refl); listing = refl }
bare_rowids_means Second old = record { command = refl; plain = (refl, refl); listing = refl }
bare_rowids_means Third old = record { command = refl; plain = (refl, refl); listing = refl }
bare_rowids_means Fourth old = absurd old

pub line_rowids_means : (v : Version) → IsEarlierVersion v → Means (schema_of v) line_rowids_text (rowids_of lines.tree) (codes "rowid" ∷ [])
unfolding understood everything
line_rowids_means First old = record { command = refl; plain = (refl, refl); listing = refl }
line_rowids_means Second old = record { command = refl; plain = (refl, refl); listing = refl }
line_rowids_means Third old = record { command = refl; plain = (refl, refl); listing = refl }
line_rowids_means Fourth old = absurd old

pub range_rowids_means : (v : Version) → IsEarlierVersion v → Means (schema_of v) range_rowids_text (rowids_of ranges.tree) (codes "rowid" ∷ [])
unfolding understood everything
range_rowids_means First old = record { command = refl; plain = (refl, refl); listing = refl }
range_rowids_means Second old = record { command = refl; plain = (refl, refl); listing = refl }
range_rowids_means Third old = record { command = refl; plain = (refl, refl); listing = refl }
range_rowids_means Fourth old = absurd old

pub piece_rowids_means : (v : Version) → IsEarlierVersion v → Means (schema_of v) piece_rowids_text (rowids_of pieces.tree) (codes "rowid" ∷ [])
unfolding understood everything
piece_rowids_means First old = record { command = refl; plain = (refl, refl); listing = refl }
piece_rowids_means Second old = record { command = refl; plain = (refl, refl); listing = refl }
piece_rowids_means Third old = record { command = refl; plain = (refl, refl); listing = refl }
piece_rowids_means Fourth old = absurd old

pub entry_rowids_means : (v : Version) → Means (schema_of v) entry_rowids_text (rowids_of (entries_at v)) (codes "rowid" ∷ [])
unfolding understood everything
entry_rowids_means First = record { command = refl; plain = (refl, refl); listing = refl }
entry_rowids_means Second = record { command = refl; plain = (refl, refl); listing = refl }
entry_rowids_means Third = record { command = refl; plain = (refl, refl); listing = refl }
entry_rowids_means Fourth = record { command = refl; plain = (refl, refl); listing = refl }

pub wait_rowids_means : Means third_schema wait_rowids_text (rowids_of success_waits.tree) (codes "rowid" ∷ [])
unfolding understood everything
wait_rowids_means = record { command = refl; plain = (refl, refl); listing = refl }

-- the same in version 2
pub second_wait_rowids_means : Means second_schema wait_rowids_text (rowids_of success_waits.tree) (codes "rowid" ∷ [])
unfolding understood everything
second_wait_rowids_means = record { command = refl; plain = (refl, refl); listing = refl }

pub link_rowids_means : Means spool_schema link_rowids_text (rowids_of links.tree) (codes "rowid" ∷ [])
unfolding understood everything
link_rowids_means = record { command = refl; plain = (refl, refl); listing = refl }

pub third_link_rowids_means : Means third_schema link_rowids_text (rowids_of old_links.tree) (codes "rowid" ∷ [])
unfolding understood everything
third_link_rowids_means = record { command = refl; plain = (refl, refl); listing = refl }

pub taken_rowids_means : Means spool_schema taken_rowids_text (rowids_of taken.tree) (codes "rowid" ∷ [])
unfolding understood everything
taken_rowids_means = record { command = refl; plain = (refl, refl); listing = refl }

pub third_taken_rowids_means : Means third_schema taken_rowids_text (rowids_of old_taken.tree) (codes "rowid" ∷ [])
unfolding understood everything
third_taken_rowids_means = record { command = refl; plain = (refl, refl); listing = refl }

-- ---- each is a query

pub link_rowids_ask : IsQuery link_rowids_text
unfolding everything
link_rowids_ask = refl

pub taken_rowids_ask : IsQuery taken_rowids_text
unfolding everything
taken_rowids_ask = refl

pub wait_rowids_ask : IsQuery wait_rowids_text
unfolding everything
wait_rowids_ask = refl

pub version_ask : IsQuery version_text
unfolding everything
version_ask = refl

pub spool_ask : IsQuery spool_text
unfolding everything
spool_ask = refl

pub heads_ask : IsQuery heads_text
unfolding everything
heads_ask = refl

pub sizes_ask : IsQuery sizes_text
unfolding everything
sizes_ask = refl

pub bodies_ask : IsQuery bodies_text
unfolding everything
bodies_ask = refl

pub pieces_ask : IsQuery pieces_text
unfolding everything
pieces_ask = refl

pub entries_ask : IsQuery entries_text
unfolding everything
entries_ask = refl

pub system_rowids_ask : IsQuery system_rowids_text
unfolding everything
system_rowids_ask = refl

pub line_rowids_ask : IsQuery line_rowids_text
unfolding everything
line_rowids_ask = refl

pub range_rowids_ask : IsQuery range_rowids_text
unfolding everything
range_rowids_ask = refl

pub piece_rowids_ask : IsQuery piece_rowids_text
unfolding everything
piece_rowids_ask = refl

pub entry_rowids_ask : IsQuery entry_rowids_text
unfolding everything
entry_rowids_ask = refl
