use Rattle.std.proofs.Common.{◌≡◌, ◌∷◌, ◌++◌, codes, take}
use Rattle.std.specs.String.{string_bytes}
use Rattle.uu_report.specs.Reports.{spaced}
use Rattle.uu_report.proofs.jobs.append_execution.Given as goal

-- appended so far are the command and the arguments before this one
abbrev pub invariant-loop-argument : goal.invariant-loop-argument
invariant-loop-argument l = string_bytes l.text ≡ string_bytes l.fn.text ++ spaced (codes "exec" ∷ l.fn.command ∷ take l.argument-index l.arguments)
