use Rattle.std.proofs.Common.{◌-◌, length}
use Rattle.uu_files.proofs.Frames.{IsClear, IsFrame}
use Rattle.uu_files.proofs.log_frames.has_page_beyond.Given as goal

abbrev pub invariant-loop-place : goal.invariant-loop-place
invariant-loop-place l = IsFrame l.at l.place × IsClear l.last l.at l.bytes l.place

abbrev pub decreases-loop-place : goal.decreases-loop-place
decreases-loop-place l = length l.bytes - l.place
