use Rattle.std.proofs.Common.{IfErr, List, ℕ, subst}
use Rattle.uu_times.specs.Tables.{TellsFront}
use Rattle.uu_times.proofs.StringLemmas.{MeansUnlessMemory, time_means, answer_means, string_of, refusal_of}
use Rattle.uu_times.proofs.TimeFronts.{answer_tells}
use Rattle.uu_times.proofs.timetable.read_time.Goals as goal
use Rattle.uu_times.specs.Tables.{time_of}

pub returns-clause-string : goal.returns-clause-string
returns-clause-string c =
    string_of c.args.tables.now c.args.text.now c.time_of.result
    (subst (λ (text : List ℕ). MeansUnlessMemory c.args.tables.now text c.time_of.result) c.as_bytes.ensures.value
    (answer_means c.args.tables.now c.as_bytes.result.now c.time_of.result (time_of c.args.tables.now 0 c.as_bytes.result.now) (time_means c.args.tables.now 0 c.as_bytes.result.now) c.time_of.ensures))

pub returns-clause-refused : goal.returns-clause-refused
returns-clause-refused c =
    refusal_of c.args.tables.now c.args.text.now c.time_of.result
    (subst (λ (text : List ℕ). MeansUnlessMemory c.args.tables.now text c.time_of.result) c.as_bytes.ensures.value
    (answer_means c.args.tables.now c.as_bytes.result.now c.time_of.result (time_of c.args.tables.now 0 c.as_bytes.result.now) (time_means c.args.tables.now 0 c.as_bytes.result.now) c.time_of.ensures))

pub returns-clause-offset : goal.returns-clause-offset
returns-clause-offset c =
    subst (λ (text : List ℕ). IfErr c.time_of.result (TellsFront text)) c.as_bytes.ensures.value
    (answer_tells c.args.tables.now 0 c.as_bytes.result.now c.time_of.result c.time_of.ensures)
