use Rattle.std.proofs.Common.{refl}
use Rattle.uu_schema.specs.declared.version.Version.TheVariants.{Fourth}
use Rattle.uu_adopt.proofs.Composing.{answers, stops, and_then}
use Rattle.uu_adopt.proofs.all_rows.read_all_rows.Goals as goal

pub returns-in_err-read_next : goal.returns-in_err-read_next
returns-in_err-read_next g c =
    stops (c.read_next.ensures.reads) c.from_residual.ensures.0

pub returns-in_err-read_systems : goal.returns-in_err-read_systems
returns-in_err-read_systems g c =
    stops (and_then (c.in_ok-read_next.ensures.reads) (c.read_systems.ensures)) c.from_residual-in_err-read_systems.ensures.0

pub returns-in_err-ask_heads : goal.returns-in_err-ask_heads
returns-in_err-ask_heads g c =
    stops (and_then (and_then (c.in_ok-read_next.ensures.reads) c.in_ok-read_systems.ensures) (c.ask_heads.ensures Fourth)) c.from_residual-in_err-ask_heads.ensures.0

pub returns-in_err-read_sizes : goal.returns-in_err-read_sizes
returns-in_err-read_sizes g c =
    stops (and_then (and_then (and_then (c.in_ok-read_next.ensures.reads) c.in_ok-read_systems.ensures) (c.in_ok-ask_heads.ensures Fourth)) (c.read_sizes.ensures)) c.from_residual-in_err-read_sizes.ensures.0

pub returns-in_err-read_entries : goal.returns-in_err-read_entries
returns-in_err-read_entries g c =
    stops (and_then (and_then (and_then (and_then (c.in_ok-read_next.ensures.reads) c.in_ok-read_systems.ensures) (c.in_ok-ask_heads.ensures Fourth)) c.in_ok-read_sizes.ensures) (c.read_entries.ensures Fourth)) c.from_residual-in_err-read_entries.ensures.0

pub returns-in_err-read_links : goal.returns-in_err-read_links
returns-in_err-read_links g c =
    stops (and_then (and_then (and_then (and_then (and_then (c.in_ok-read_next.ensures.reads) c.in_ok-read_systems.ensures) (c.in_ok-ask_heads.ensures Fourth)) c.in_ok-read_sizes.ensures) (c.in_ok-read_entries.ensures Fourth)) (c.read_links.ensures)) c.from_residual-in_err-read_links.ensures.0

pub returns-in_err-read_taken : goal.returns-in_err-read_taken
returns-in_err-read_taken g c =
    stops (and_then (and_then (and_then (and_then (and_then (and_then (c.in_ok-read_next.ensures.reads) c.in_ok-read_systems.ensures) (c.in_ok-ask_heads.ensures Fourth)) c.in_ok-read_sizes.ensures) (c.in_ok-read_entries.ensures Fourth)) c.in_ok-read_links.ensures) (c.read_taken.ensures)) c.from_residual-in_err-read_taken.ensures.0

pub returns : goal.returns
returns g c =
    answers (and_then (and_then (and_then (and_then (and_then (and_then (c.in_ok-read_next.ensures.reads) c.in_ok-read_systems.ensures) (c.in_ok-ask_heads.ensures Fourth)) c.in_ok-read_sizes.ensures) (c.in_ok-read_entries.ensures Fourth)) c.in_ok-read_links.ensures) c.in_ok-read_taken.ensures) (λ ok. refl) (λ trees found. record {
      next = found.0.0.0.0.0.0;
      systems = found.0.0.0.0.0.1;
      jobs = found.0.0.0.0.1;
      bodies = found.0.0.0.1;
      entries = found.0.0.1;
      links = found.0.1;
      taken = found.1;
    })
