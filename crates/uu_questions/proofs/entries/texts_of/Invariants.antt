use Rattle.std.proofs.Common.{◌≡◌, map}
use Rattle.uu_questions.proofs.entries.texts_of.Given as goal

-- the texts so far are those of the rows that were taken
abbrev pub invariant-loop-row : goal.invariant-loop-row
invariant-loop-row l = l.texts.items ≡ map (λ row. row.bytes) l.yielded
