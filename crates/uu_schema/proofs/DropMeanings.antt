-- What each text that drops a table means under the schema that ends with that table.
use Rattle.std.proofs.Common.{◌≡◌, [], refl, ℕ, Ok, false}
use Rattle.sqlite.specs.Command.TheVariants.{DropTable}
use Rattle.sqlite_schema.specs.declared.schema.Keys.TheVariants.{Enforced}
use Rattle.sqlite_tied.specs.Compute.{everything}
use Rattle.sqlite_schema.specs.Names.{same_name}
use Rattle.sqlite.specs.Does.{is_acted_on}
use Rattle.sqlite.specs.Listing.{understood}
use Rattle.sqlite.specs.State.{State, Executes}
use Rattle.sqlite.proofs.Callers.{IsPlain, command_of}
use Rattle.uu_schema.specs.Steps.{Stands}
use Rattle.uu_schema.specs.Made.{Anything}
use Rattle.uu_schema.specs.Schema.{no_schema, schema_with_spool, spool}
use Rattle.uu_schema.specs.Earlier.{old_with_systems, old_with_lines, old_with_ranges, old_with_jobs, old_with_pieces, first_schema, second_schema, old_with_links, third_schema, old_systems, lines, ranges, old_jobs, pieces, old_entries, success_waits, old_links, old_taken}
use Rattle.uu_schema.proofs.Texts.{drop_taken, drop_links, drop_success_waits, drop_entries, drop_pieces, drop_jobs, drop_ranges, drop_lines, drop_systems, drop_spool}
use Rattle.uu_schema.proofs.DroppedTable.{dropped}

drop_taken_is : command_of (understood third_schema drop_taken) ≡ DropTable 9
unfolding understood everything
drop_taken_is = refl

drop_taken_plain : IsPlain (understood third_schema drop_taken)
unfolding understood everything
drop_taken_plain = (refl, refl)

taken_calm : is_acted_on third_schema Enforced old_taken ≡ false
unfolding same_name
taken_calm = refl

pub taken_dropped : (old new : State) (count : ℕ) → Stands third_schema old.now → Executes drop_taken [] old new (Ok count) → Stands old_with_links new.now × Anything old.now.trees new.now.trees
taken_dropped old new count stands h = (dropped old new third_schema old_with_links drop_taken 9 old_taken count stands drop_taken_is drop_taken_plain refl taken_calm refl h, tt)

drop_links_is : command_of (understood old_with_links drop_links) ≡ DropTable 8
unfolding understood everything
drop_links_is = refl

drop_links_plain : IsPlain (understood old_with_links drop_links)
unfolding understood everything
drop_links_plain = (refl, refl)

links_calm : is_acted_on old_with_links Enforced old_links ≡ false
unfolding same_name
links_calm = refl

pub links_dropped : (old new : State) (count : ℕ) → Stands old_with_links old.now → Executes drop_links [] old new (Ok count) → Stands second_schema new.now × Anything old.now.trees new.now.trees
links_dropped old new count stands h = (dropped old new old_with_links second_schema drop_links 8 old_links count stands drop_links_is drop_links_plain refl links_calm refl h, tt)

drop_success_waits_is : command_of (understood second_schema drop_success_waits) ≡ DropTable 7
unfolding understood everything
drop_success_waits_is = refl

drop_success_waits_plain : IsPlain (understood second_schema drop_success_waits)
unfolding understood everything
drop_success_waits_plain = (refl, refl)

success_waits_calm : is_acted_on second_schema Enforced success_waits ≡ false
unfolding same_name
success_waits_calm = refl

pub success_waits_dropped : (old new : State) (count : ℕ) → Stands second_schema old.now → Executes drop_success_waits [] old new (Ok count) → Stands first_schema new.now × Anything old.now.trees new.now.trees
success_waits_dropped old new count stands h = (dropped old new second_schema first_schema drop_success_waits 7 success_waits count stands drop_success_waits_is drop_success_waits_plain refl success_waits_calm refl h, tt)

drop_entries_is : command_of (understood first_schema drop_entries) ≡ DropTable 6
unfolding understood everything
drop_entries_is = refl

drop_entries_plain : IsPlain (understood first_schema drop_entries)
unfolding understood everything
drop_entries_plain = (refl, refl)

entries_calm : is_acted_on first_schema Enforced old_entries ≡ false
unfolding same_name
entries_calm = refl

pub entries_dropped : (old new : State) (count : ℕ) → Stands first_schema old.now → Executes drop_entries [] old new (Ok count) → Stands old_with_pieces new.now × Anything old.now.trees new.now.trees
entries_dropped old new count stands h = (dropped old new first_schema old_with_pieces drop_entries 6 old_entries count stands drop_entries_is drop_entries_plain refl entries_calm refl h, tt)

drop_pieces_is : command_of (understood old_with_pieces drop_pieces) ≡ DropTable 5
unfolding understood everything
drop_pieces_is = refl

drop_pieces_plain : IsPlain (understood old_with_pieces drop_pieces)
unfolding understood everything
drop_pieces_plain = (refl, refl)

pieces_calm : is_acted_on old_with_pieces Enforced pieces ≡ false
unfolding same_name
pieces_calm = refl

pub pieces_dropped : (old new : State) (count : ℕ) → Stands old_with_pieces old.now → Executes drop_pieces [] old new (Ok count) → Stands old_with_jobs new.now × Anything old.now.trees new.now.trees
pieces_dropped old new count stands h = (dropped old new old_with_pieces old_with_jobs drop_pieces 5 pieces count stands drop_pieces_is drop_pieces_plain refl pieces_calm refl h, tt)

drop_jobs_is : command_of (understood old_with_jobs drop_jobs) ≡ DropTable 4
unfolding understood everything
drop_jobs_is = refl

drop_jobs_plain : IsPlain (understood old_with_jobs drop_jobs)
unfolding understood everything
drop_jobs_plain = (refl, refl)

jobs_calm : is_acted_on old_with_jobs Enforced old_jobs ≡ false
unfolding same_name
jobs_calm = refl

pub jobs_dropped : (old new : State) (count : ℕ) → Stands old_with_jobs old.now → Executes drop_jobs [] old new (Ok count) → Stands old_with_ranges new.now × Anything old.now.trees new.now.trees
jobs_dropped old new count stands h = (dropped old new old_with_jobs old_with_ranges drop_jobs 4 old_jobs count stands drop_jobs_is drop_jobs_plain refl jobs_calm refl h, tt)

drop_ranges_is : command_of (understood old_with_ranges drop_ranges) ≡ DropTable 3
unfolding understood everything
drop_ranges_is = refl

drop_ranges_plain : IsPlain (understood old_with_ranges drop_ranges)
unfolding understood everything
drop_ranges_plain = (refl, refl)

ranges_calm : is_acted_on old_with_ranges Enforced ranges ≡ false
unfolding same_name
ranges_calm = refl

pub ranges_dropped : (old new : State) (count : ℕ) → Stands old_with_ranges old.now → Executes drop_ranges [] old new (Ok count) → Stands old_with_lines new.now × Anything old.now.trees new.now.trees
ranges_dropped old new count stands h = (dropped old new old_with_ranges old_with_lines drop_ranges 3 ranges count stands drop_ranges_is drop_ranges_plain refl ranges_calm refl h, tt)

drop_lines_is : command_of (understood old_with_lines drop_lines) ≡ DropTable 2
unfolding understood everything
drop_lines_is = refl

drop_lines_plain : IsPlain (understood old_with_lines drop_lines)
unfolding understood everything
drop_lines_plain = (refl, refl)

lines_calm : is_acted_on old_with_lines Enforced lines ≡ false
unfolding same_name
lines_calm = refl

pub lines_dropped : (old new : State) (count : ℕ) → Stands old_with_lines old.now → Executes drop_lines [] old new (Ok count) → Stands old_with_systems new.now × Anything old.now.trees new.now.trees
lines_dropped old new count stands h = (dropped old new old_with_lines old_with_systems drop_lines 2 lines count stands drop_lines_is drop_lines_plain refl lines_calm refl h, tt)

drop_systems_is : command_of (understood old_with_systems drop_systems) ≡ DropTable 1
unfolding understood everything
drop_systems_is = refl

drop_systems_plain : IsPlain (understood old_with_systems drop_systems)
unfolding understood everything
drop_systems_plain = (refl, refl)

systems_calm : is_acted_on old_with_systems Enforced old_systems ≡ false
unfolding same_name
systems_calm = refl

pub systems_dropped : (old new : State) (count : ℕ) → Stands old_with_systems old.now → Executes drop_systems [] old new (Ok count) → Stands schema_with_spool new.now × Anything old.now.trees new.now.trees
systems_dropped old new count stands h = (dropped old new old_with_systems schema_with_spool drop_systems 1 old_systems count stands drop_systems_is drop_systems_plain refl systems_calm refl h, tt)

drop_spool_is : command_of (understood schema_with_spool drop_spool) ≡ DropTable 0
unfolding understood everything
drop_spool_is = refl

drop_spool_plain : IsPlain (understood schema_with_spool drop_spool)
unfolding understood everything
drop_spool_plain = (refl, refl)

spool_calm : is_acted_on schema_with_spool Enforced spool ≡ false
unfolding same_name
spool_calm = refl

pub spool_dropped : (old new : State) (count : ℕ) → Stands schema_with_spool old.now → Executes drop_spool [] old new (Ok count) → Stands no_schema new.now × Anything old.now.trees new.now.trees
spool_dropped old new count stands h = (dropped old new schema_with_spool no_schema drop_spool 0 spool count stands drop_spool_is drop_spool_plain refl spool_calm refl h, tt)
