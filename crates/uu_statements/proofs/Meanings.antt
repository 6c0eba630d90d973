-- What each text means under the schema.
use Rattle.std.proofs.Common.{◌≡◌, ◌∷◌, [], refl, List, pos}
use Rattle.sqlite.specs.declared.types.Value.TheVariants.{Null, Int}
use Rattle.sqlite.specs.Collation.TheVariants.{Binary}
use Rattle.sqlite_sql.specs.declared.ops.BinaryOp.TheVariants.{Compare}
use Rattle.sqlite_sql.specs.declared.ops.CompareOp.TheVariants.{Lt}
use Rattle.sqlite.specs.Term.{Term, lit, col, op2}
use Rattle.sqlite.specs.Source.TheVariants.{Values}
use Rattle.sqlite.specs.Command.TheVariants.{Insert, Update, Delete}
use Rattle.sqlite_tied.specs.Compute.{everything}
use Rattle.sqlite.specs.Listing.{understood}
use Rattle.sqlite.proofs.Callers.{IsPlain, command_of}
use Rattle.uu_schema.proofs.Terms.{over, where_is}
use Rattle.uu_schema.specs.Schema.{spool_schema}
use Rattle.uu_statements.proofs.Texts.{insert_system, update_definition, set_calls, delete_system, insert_job, set_rank, set_second, delete_job, insert_body, delete_body, insert_entry, delete_entry, insert_link, delete_link, insert_taken, delete_taken, forget_taken, set_number}

abbrev pub insert_system_terms : List Term
insert_system_terms = lit Null ∷ col 0 0 ∷ col 0 1 ∷ lit (Int (pos 0)) ∷ lit (Int (pos 0)) ∷ lit (Int (pos 0)) ∷ lit (Int (pos 0)) ∷ lit Null ∷ []

pub insert_system_is : command_of (understood spool_schema insert_system) ≡ Insert 1 (Values insert_system_terms 8)
unfolding understood everything
insert_system_is = refl

pub insert_system_plain : IsPlain (understood spool_schema insert_system)
unfolding understood everything
insert_system_plain = (refl, refl)

abbrev pub update_definition_terms : List Term
update_definition_terms = col 1 0 ∷ col 1 0 ∷ col 1 1 ∷ col 0 1 ∷ col 1 3 ∷ col 1 4 ∷ col 1 5 ∷ col 1 6 ∷ col 1 7 ∷ []

pub update_definition_is : command_of (understood spool_schema update_definition) ≡ Update 1 (record { lets = []; body = over 1 (where_is 1 0 ∷ []) update_definition_terms })
unfolding understood everything
update_definition_is = refl

pub update_definition_plain : IsPlain (understood spool_schema update_definition)
unfolding understood everything
update_definition_plain = (refl, refl)

abbrev pub set_calls_terms : List Term
set_calls_terms = col 1 0 ∷ col 1 0 ∷ col 1 1 ∷ col 1 2 ∷ col 0 1 ∷ col 0 2 ∷ col 0 3 ∷ col 0 4 ∷ col 0 5 ∷ []

pub set_calls_is : command_of (understood spool_schema set_calls) ≡ Update 1 (record { lets = []; body = over 1 (where_is 1 0 ∷ []) set_calls_terms })
unfolding understood everything
set_calls_is = refl

pub set_calls_plain : IsPlain (understood spool_schema set_calls)
unfolding understood everything
set_calls_plain = (refl, refl)

pub delete_system_is : command_of (understood spool_schema delete_system) ≡ Delete 1 (record { lets = []; body = over 1 (where_is 1 0 ∷ []) (col 1 0 ∷ []) })
unfolding understood everything
delete_system_is = refl

pub delete_system_plain : IsPlain (understood spool_schema delete_system)
unfolding understood everything
delete_system_plain = (refl, refl)

abbrev pub insert_job_terms : List Term
insert_job_terms = col 0 0 ∷ lit Null ∷ col 0 1 ∷ col 0 2 ∷ col 0 3 ∷ col 0 4 ∷ col 0 5 ∷ col 0 6 ∷ col 0 7 ∷ col 0 8 ∷ []

pub insert_job_is : command_of (understood spool_schema insert_job) ≡ Insert 2 (Values insert_job_terms 10)
unfolding understood everything
insert_job_is = refl

pub insert_job_plain : IsPlain (understood spool_schema insert_job)
unfolding understood everything
insert_job_plain = (refl, refl)

abbrev pub set_rank_terms : List Term
set_rank_terms = col 1 0 ∷ col 1 0 ∷ lit Null ∷ col 1 2 ∷ col 0 1 ∷ col 1 4 ∷ col 1 5 ∷ col 1 6 ∷ col 1 7 ∷ col 1 8 ∷ col 1 9 ∷ []

pub set_rank_is : command_of (understood spool_schema set_rank) ≡ Update 2 (record { lets = []; body = over 3 (where_is 0 0 ∷ []) set_rank_terms })
unfolding understood everything
set_rank_is = refl

pub set_rank_plain : IsPlain (understood spool_schema set_rank)
unfolding understood everything
set_rank_plain = (refl, refl)

abbrev pub set_second_terms : List Term
set_second_terms = col 1 0 ∷ col 1 0 ∷ lit Null ∷ col 1 2 ∷ col 1 3 ∷ col 1 4 ∷ col 1 5 ∷ col 0 1 ∷ col 1 7 ∷ col 1 8 ∷ col 1 9 ∷ []

pub set_second_is : command_of (understood spool_schema set_second) ≡ Update 2 (record { lets = []; body = over 3 (where_is 0 0 ∷ []) set_second_terms })
unfolding understood everything
set_second_is = refl

pub set_second_plain : IsPlain (understood spool_schema set_second)
unfolding understood everything
set_second_plain = (refl, refl)

pub delete_job_is : command_of (understood spool_schema delete_job) ≡ Delete 2 (record { lets = []; body = over 3 (where_is 0 0 ∷ []) (col 1 0 ∷ []) })
unfolding understood everything
delete_job_is = refl

pub delete_job_plain : IsPlain (understood spool_schema delete_job)
unfolding understood everything
delete_job_plain = (refl, refl)

abbrev pub insert_body_terms : List Term
insert_body_terms = col 0 0 ∷ lit Null ∷ col 0 1 ∷ []

pub insert_body_is : command_of (understood spool_schema insert_body) ≡ Insert 3 (Values insert_body_terms 3)
unfolding understood everything
insert_body_is = refl

pub insert_body_plain : IsPlain (understood spool_schema insert_body)
unfolding understood everything
insert_body_plain = (refl, refl)

pub delete_body_is : command_of (understood spool_schema delete_body) ≡ Delete 3 (record { lets = []; body = over 4 (where_is 0 0 ∷ []) (col 1 0 ∷ []) })
unfolding understood everything
delete_body_is = refl

pub delete_body_plain : IsPlain (understood spool_schema delete_body)
unfolding understood everything
delete_body_plain = (refl, refl)

abbrev pub insert_entry_terms : List Term
insert_entry_terms = lit Null ∷ col 0 0 ∷ col 0 1 ∷ []

pub insert_entry_is : command_of (understood spool_schema insert_entry) ≡ Insert 4 (Values insert_entry_terms 3)
unfolding understood everything
insert_entry_is = refl

pub insert_entry_plain : IsPlain (understood spool_schema insert_entry)
unfolding understood everything
insert_entry_plain = (refl, refl)

pub delete_entry_is : command_of (understood spool_schema delete_entry) ≡ Delete 4 (record { lets = []; body = over 5 (where_is 1 0 ∷ []) (col 1 0 ∷ []) })
unfolding understood everything
delete_entry_is = refl

pub delete_entry_plain : IsPlain (understood spool_schema delete_entry)
unfolding understood everything
delete_entry_plain = (refl, refl)

abbrev pub insert_link_terms : List Term
insert_link_terms = lit Null ∷ col 0 0 ∷ col 0 1 ∷ []

pub insert_link_is : command_of (understood spool_schema insert_link) ≡ Insert 5 (Values insert_link_terms 3)
unfolding understood everything
insert_link_is = refl

pub insert_link_plain : IsPlain (understood spool_schema insert_link)
unfolding understood everything
insert_link_plain = (refl, refl)

pub delete_link_is : command_of (understood spool_schema delete_link) ≡ Delete 5 (record { lets = []; body = over 7 (where_is 1 0 ∷ []) (col 1 0 ∷ []) })
unfolding understood everything
delete_link_is = refl

pub delete_link_plain : IsPlain (understood spool_schema delete_link)
unfolding understood everything
delete_link_plain = (refl, refl)

abbrev pub insert_taken_terms : List Term
insert_taken_terms = lit Null ∷ col 0 0 ∷ col 0 1 ∷ col 0 2 ∷ col 0 3 ∷ []

pub insert_taken_is : command_of (understood spool_schema insert_taken) ≡ Insert 6 (Values insert_taken_terms 5)
unfolding understood everything
insert_taken_is = refl

pub insert_taken_plain : IsPlain (understood spool_schema insert_taken)
unfolding understood everything
insert_taken_plain = (refl, refl)

pub delete_taken_is : command_of (understood spool_schema delete_taken) ≡ Delete 6 (record { lets = []; body = over 9 (where_is 1 0 ∷ []) (col 1 0 ∷ []) })
unfolding understood everything
delete_taken_is = refl

pub delete_taken_plain : IsPlain (understood spool_schema delete_taken)
unfolding understood everything
delete_taken_plain = (refl, refl)

-- of this system, with a number below this one
abbrev pub forget_taken_terms : List Term
forget_taken_terms = where_is 1 0 ∷ op2 (Compare Lt Binary) (col 1 2) (col 0 1) ∷ []

pub forget_taken_is : command_of (understood spool_schema forget_taken) ≡ Delete 6 (record { lets = []; body = over 9 forget_taken_terms (col 1 0 ∷ []) })
unfolding understood everything
forget_taken_is = refl

pub forget_taken_plain : IsPlain (understood spool_schema forget_taken)
unfolding understood everything
forget_taken_plain = (refl, refl)

abbrev pub set_number_terms : List Term
set_number_terms = col 1 0 ∷ col 1 0 ∷ lit Null ∷ col 1 2 ∷ col 0 0 ∷ []

pub set_number_is : command_of (understood spool_schema set_number) ≡ Update 0 (record { lets = []; body = over 0 [] set_number_terms })
unfolding understood everything
set_number_is = refl

pub set_number_plain : IsPlain (understood spool_schema set_number)
unfolding understood everything
set_number_plain = (refl, refl)
