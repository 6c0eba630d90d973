use Rattle.std.proofs.Common.{refl}
use Rattle.uu_adopt.proofs.Composing.{answers, stops, and_then}
use Rattle.uu_adopt.proofs.all_earlier.read_all_earlier.Goals as goal

pub returns-in_err-read_next : goal.returns-in_err-read_next
returns-in_err-read_next g c =
    let v = c.args.version in
    stops (c.read_next.ensures.reads) c.from_residual.ensures.0

pub returns-in_err-read_bare_systems : goal.returns-in_err-read_bare_systems
returns-in_err-read_bare_systems g c =
    let v = c.args.version in
    stops (and_then (c.in_ok-read_next.ensures.reads) (c.read_bare_systems.ensures v c.requires)) c.from_residual-in_err-read_bare_systems.ensures.0

pub returns-in_err-read_lines : goal.returns-in_err-read_lines
returns-in_err-read_lines g c =
    let v = c.args.version in
    stops (and_then (and_then (c.in_ok-read_next.ensures.reads) (c.in_ok-read_bare_systems.ensures v c.requires)) (c.read_lines.ensures v c.requires)) c.from_residual-in_err-read_lines.ensures.0

pub returns-in_err-read_ranges : goal.returns-in_err-read_ranges
returns-in_err-read_ranges g c =
    let v = c.args.version in
    stops (and_then (and_then (and_then (c.in_ok-read_next.ensures.reads) (c.in_ok-read_bare_systems.ensures v c.requires)) (c.in_ok-read_lines.ensures v c.requires)) (c.read_ranges.ensures v c.requires)) c.from_residual-in_err-read_ranges.ensures.0

pub returns-in_err-read_heads : goal.returns-in_err-read_heads
returns-in_err-read_heads g c =
    let v = c.args.version in
    stops (and_then (and_then (and_then (and_then (c.in_ok-read_next.ensures.reads) (c.in_ok-read_bare_systems.ensures v c.requires)) (c.in_ok-read_lines.ensures v c.requires)) (c.in_ok-read_ranges.ensures v c.requires)) (c.read_heads.ensures v)) c.from_residual-in_err-read_heads.ensures.0

pub returns-in_err-read_pieces : goal.returns-in_err-read_pieces
returns-in_err-read_pieces g c =
    let v = c.args.version in
    stops (and_then (and_then (and_then (and_then (and_then (c.in_ok-read_next.ensures.reads) (c.in_ok-read_bare_systems.ensures v c.requires)) (c.in_ok-read_lines.ensures v c.requires)) (c.in_ok-read_ranges.ensures v c.requires)) (c.in_ok-read_heads.ensures v)) (c.read_pieces.ensures v c.requires)) c.from_residual-in_err-read_pieces.ensures.0

pub returns-in_err-read_entries : goal.returns-in_err-read_entries
returns-in_err-read_entries g c =
    let v = c.args.version in
    stops (and_then (and_then (and_then (and_then (and_then (and_then (c.in_ok-read_next.ensures.reads) (c.in_ok-read_bare_systems.ensures v c.requires)) (c.in_ok-read_lines.ensures v c.requires)) (c.in_ok-read_ranges.ensures v c.requires)) (c.in_ok-read_heads.ensures v)) (c.in_ok-read_pieces.ensures v c.requires)) (c.read_entries.ensures v)) c.from_residual-in_err-read_entries.ensures.0

pub returns-in_err-read_waits : goal.returns-in_err-read_waits
returns-in_err-read_waits g c =
    let v = c.args.version in
    stops (and_then (and_then (and_then (and_then (and_then (and_then (and_then (c.in_ok-read_next.ensures.reads) (c.in_ok-read_bare_systems.ensures v c.requires)) (c.in_ok-read_lines.ensures v c.requires)) (c.in_ok-read_ranges.ensures v c.requires)) (c.in_ok-read_heads.ensures v)) (c.in_ok-read_pieces.ensures v c.requires)) (c.in_ok-read_entries.ensures v)) (c.read_waits.ensures)) c.from_residual-in_err-read_waits.ensures.0

pub returns-in_err-read_links : goal.returns-in_err-read_links
returns-in_err-read_links g c =
    let v = c.args.version in
    stops (and_then (and_then (and_then (and_then (and_then (and_then (and_then (and_then (c.in_ok-read_next.ensures.reads) (c.in_ok-read_bare_systems.ensures v c.requires)) (c.in_ok-read_lines.ensures v c.requires)) (c.in_ok-read_ranges.ensures v c.requires)) (c.in_ok-read_heads.ensures v)) (c.in_ok-read_pieces.ensures v c.requires)) (c.in_ok-read_entries.ensures v)) c.in_ok-read_waits.ensures) (c.read_links.ensures)) c.from_residual-in_err-read_links.ensures.0

pub returns-in_err-read_taken : goal.returns-in_err-read_taken
returns-in_err-read_taken g c =
    let v = c.args.version in
    stops (and_then (and_then (and_then (and_then (and_then (and_then (and_then (and_then (and_then (c.in_ok-read_next.ensures.reads) (c.in_ok-read_bare_systems.ensures v c.requires)) (c.in_ok-read_lines.ensures v c.requires)) (c.in_ok-read_ranges.ensures v c.requires)) (c.in_ok-read_heads.ensures v)) (c.in_ok-read_pieces.ensures v c.requires)) (c.in_ok-read_entries.ensures v)) c.in_ok-read_waits.ensures) c.in_ok-read_links.ensures) (c.read_taken.ensures)) c.from_residual-in_err-read_taken.ensures.0

pub returns : goal.returns
returns g c =
    let v = c.args.version in
    answers (and_then (and_then (and_then (and_then (and_then (and_then (and_then (and_then (and_then (c.in_ok-read_next.ensures.reads) (c.in_ok-read_bare_systems.ensures v c.requires)) (c.in_ok-read_lines.ensures v c.requires)) (c.in_ok-read_ranges.ensures v c.requires)) (c.in_ok-read_heads.ensures v)) (c.in_ok-read_pieces.ensures v c.requires)) (c.in_ok-read_entries.ensures v)) c.in_ok-read_waits.ensures) c.in_ok-read_links.ensures) c.in_ok-read_taken.ensures) (λ ok. refl) (λ trees found. record {
      next = found.0.0.0.0.0.0.0.0.0;
      systems = found.0.0.0.0.0.0.0.0.1;
      lines = found.0.0.0.0.0.0.0.1;
      ranges = found.0.0.0.0.0.0.1;
      jobs = found.0.0.0.0.0.1;
      pieces = found.0.0.0.0.1;
      entries = found.0.0.0.1;
      success_waits = found.0.0.1;
      links = found.0.1;
      taken = found.1;
    })
