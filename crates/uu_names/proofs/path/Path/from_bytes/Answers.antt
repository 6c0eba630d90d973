use Rattle.uu_names.proofs.PathParts.{path_ascii}
use Rattle.uu_names.proofs.path.Path.from_bytes.Goals as goal

pub ascii_text-requires : goal.ascii_text-requires
ascii_text-requires c = path_ascii c.args.bytes.now c.in_ok-hop_len.ensures.0
