use Rattle.std.proofs.Common.{◌≡◌, ◌+◌, ◌≤◌, ◌++◌, length}
use Rattle.std.specs.Str.Lines.{lines}
use Rattle.uu_map.specs.Text.{content, statements_of}
use Rattle.uu_map.specs.Internal.Parsing.{all_said, as_said, pending_list, in_all}
use Rattle.uu_map.proofs.reader.Parsed.of_entry.Given as goal

abbrev pub invariant-loop-rest : goal.invariant-loop-rest
invariant-loop-rest l =
    (in_all l.host (as_said l.parsed) (pending_list l.pending ++ content (l.line + 1) (lines l.rest)) ≡ all_said l.host (statements_of l.text)) × (l.line + length l.rest ≤ length l.text)

abbrev pub decreases-loop-rest : goal.decreases-loop-rest
decreases-loop-rest l = length l.rest
