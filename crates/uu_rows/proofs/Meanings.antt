-- What each text means under the schema.
use Rattle.std.proofs.Common.{◌∷◌, [], refl, List, ℕ, pos, codes}
use Rattle.sqlite.specs.declared.types.Value.TheVariants.{Int}
use Rattle.sqlite.specs.Term.{Term, lit, col}
use Rattle.sqlite_tied.specs.Compute.{everything}
use Rattle.sqlite.specs.Listing.{understood}
use Rattle.sqlite_value.specs.declared.keys.Key.{Key}
use Rattle.uu_schema.proofs.Terms.{equal_terms}
use Rattle.uu_schema.proofs.Asks.{Means, ordered, up}
use Rattle.uu_schema.specs.Queries.{IsQuery}
use Rattle.uu_schema.specs.Schema.{spool_schema, systems, links, taken}
use Rattle.uu_schema.specs.Earlier.{second_schema, third_schema, schema_of, IsEarlierVersion, old_systems, lines, ranges, success_waits, old_links, old_taken}
use Rattle.uu_schema.specs.declared.version.Version.{Version}
use Rattle.uu_schema.specs.declared.version.Version.TheVariants.{First, Second, Third, Fourth}
use Rattle.uu_rows.specs.Texts.{systems_text, bare_systems_text, lines_text, ranges_text, waits_text, links_text, taken_text}

-- the columns at these places, and an order by them
abbrev pub at_places : List ℕ → List Term
at_places [] = []
at_places (n ∷ places) = col 1 n ∷ at_places places

abbrev pub by_places : List ℕ → List (Term × Key)
by_places [] = []
by_places (n ∷ places) = up (col 1 n) ∷ by_places places

-- the row of `id` 1
abbrev pub is_first : Term
is_first = equal_terms (col 1 0) (lit (Int (pos 1)))

-- ---- the names of the columns

abbrev pub head_names : List (List ℕ)
head_names = codes "number" ∷ codes "system" ∷ codes "rank" ∷ codes "user" ∷ codes "kind" ∷ codes "queued" ∷ codes "first_word" ∷ codes "second_word" ∷ codes "size" ∷ []

abbrev pub system_names : List (List ℕ)
system_names = codes "name" ∷ codes "definition" ∷ codes "last" ∷ codes "failures" ∷ codes "wait" ∷ codes "outcome" ∷ codes "why" ∷ []

abbrev pub bare_names : List (List ℕ)
bare_names = codes "name" ∷ codes "max_retries" ∷ codes "last" ∷ codes "failures" ∷ codes "wait" ∷ codes "outcome" ∷ codes "why" ∷ []

abbrev pub line_names : List (List ℕ)
line_names = codes "system" ∷ codes "place" ∷ codes "rank" ∷ codes "retry" ∷ []

abbrev pub range_names : List (List ℕ)
range_names = codes "system" ∷ codes "place" ∷ codes "low" ∷ codes "high" ∷ []

-- ---- every row of a table

pub systems_means : Means spool_schema systems_text (ordered systems.tree [] (at_places (1 ∷ 2 ∷ 3 ∷ 4 ∷ 5 ∷ 6 ∷ 7 ∷ [])) (by_places (1 ∷ []))) system_names
unfolding understood everything
systems_means = record { command = refl; plain = (refl, refl); listing = refl }

pub bare_systems_means : (v : Version) → IsEarlierVersion v → Means (schema_of v) bare_systems_text (ordered old_systems.tree [] (at_places (1 ∷ 2 ∷ 3 ∷ 4 ∷ 5 ∷ 6 ∷ 7 ∷ [])) (by_places (1 ∷ []))) bare_names
unfolding understood everything
bare_systems_means First earlier = record { command = refl; plain = (refl, refl); listing = refl }
bare_systems_means Second earlier = record { command = refl; plain = (refl, refl); listing = refl }
bare_systems_means Third earlier = record { command = refl; plain = (refl, refl); listing = refl }
bare_systems_means Fourth earlier = absurd earlier

pub lines_means : (v : Version) → IsEarlierVersion v → Means (schema_of v) lines_text (ordered lines.tree [] (at_places (1 ∷ 2 ∷ 3 ∷ 4 ∷ [])) (by_places (1 ∷ 2 ∷ []))) line_names
unfolding understood everything
lines_means First earlier = record { command = refl; plain = (refl, refl); listing = refl }
lines_means Second earlier = record { command = refl; plain = (refl, refl); listing = refl }
lines_means Third earlier = record { command = refl; plain = (refl, refl); listing = refl }
lines_means Fourth earlier = absurd earlier

pub ranges_means : (v : Version) → IsEarlierVersion v → Means (schema_of v) ranges_text (ordered ranges.tree [] (at_places (1 ∷ 2 ∷ 3 ∷ 4 ∷ [])) (by_places (1 ∷ 2 ∷ 3 ∷ []))) range_names
unfolding understood everything
ranges_means First earlier = record { command = refl; plain = (refl, refl); listing = refl }
ranges_means Second earlier = record { command = refl; plain = (refl, refl); listing = refl }
ranges_means Third earlier = record { command = refl; plain = (refl, refl); listing = refl }
ranges_means Fourth earlier = absurd earlier

abbrev pub wait_names : List (List ℕ)
wait_names = codes "system" ∷ codes "wait" ∷ []

pub waits_means : Means third_schema waits_text (ordered success_waits.tree [] (at_places (1 ∷ 2 ∷ [])) (by_places (1 ∷ []))) wait_names
unfolding understood everything
waits_means = record { command = refl; plain = (refl, refl); listing = refl }

-- the same in version 2
pub second_waits_means : Means second_schema waits_text (ordered success_waits.tree [] (at_places (1 ∷ 2 ∷ [])) (by_places (1 ∷ []))) wait_names
unfolding understood everything
second_waits_means = record { command = refl; plain = (refl, refl); listing = refl }

abbrev pub link_names : List (List ℕ)
link_names = codes "system" ∷ codes "below" ∷ []

pub links_means : Means spool_schema links_text (ordered links.tree [] (at_places (1 ∷ 2 ∷ [])) (by_places (1 ∷ []))) link_names
unfolding understood everything
links_means = record { command = refl; plain = (refl, refl); listing = refl }

-- the same in version 3
pub third_links_means : Means third_schema links_text (ordered old_links.tree [] (at_places (1 ∷ 2 ∷ [])) (by_places (1 ∷ []))) link_names
unfolding understood everything
third_links_means = record { command = refl; plain = (refl, refl); listing = refl }

abbrev pub taken_names : List (List ℕ)
taken_names = codes "system" ∷ codes "number" ∷ codes "mark" ∷ codes "job" ∷ []

pub taken_means : Means spool_schema taken_text (ordered taken.tree [] (at_places (1 ∷ 2 ∷ 3 ∷ 4 ∷ [])) (by_places (1 ∷ 2 ∷ []))) taken_names
unfolding understood everything
taken_means = record { command = refl; plain = (refl, refl); listing = refl }

-- the same in version 3
pub third_taken_means : Means third_schema taken_text (ordered old_taken.tree [] (at_places (1 ∷ 2 ∷ 3 ∷ 4 ∷ [])) (by_places (1 ∷ 2 ∷ []))) taken_names
unfolding understood everything
third_taken_means = record { command = refl; plain = (refl, refl); listing = refl }

-- ---- each is a query

pub bare_systems_ask : IsQuery bare_systems_text
unfolding everything
bare_systems_ask = refl

pub links_ask : IsQuery links_text
unfolding everything
links_ask = refl

pub taken_ask : IsQuery taken_text
unfolding everything
taken_ask = refl

pub waits_ask : IsQuery waits_text
unfolding everything
waits_ask = refl

pub systems_ask : IsQuery systems_text
unfolding everything
systems_ask = refl

pub lines_ask : IsQuery lines_text
unfolding everything
lines_ask = refl

pub ranges_ask : IsQuery ranges_text
unfolding everything
ranges_ask = refl
