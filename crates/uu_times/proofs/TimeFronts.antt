-- The place that a fault of a time string tells.
use Rattle.std.proofs.Common.{◌≡◌, ℕ, Bool, true, false, cond, Option, None, Some, Result, Ok, Err, IfErr, List, [], refl, sym, subst}
use Rattle.uu_times.specs.declared.days.Simple.{Simple}
use Rattle.uu_times.specs.declared.fault.TimeFault.{TimeFault}
use Rattle.uu_times.specs.declared.fault.TimeFault.TheVariants.{MomentRange, OffsetRange, BadTime, UnknownTable, TableTwice, BadNumber, BadSystem, TooManyLines, SystemTwice, BadWords, Memory, BadZone}
use Rattle.uu_times.specs.Internal.Simples.{any_has}
use Rattle.uu_times.specs.Fault.{AnswersUnlessMemory}
use Rattle.uu_times.specs.Grammar.{IsLongestFront}
use Rattle.uu_times.specs.Ranges.{maximal_runs}
use Rattle.uu_times.specs.Internal.Scan.{list_of}
use Rattle.uu_times.specs.Tables.{Tables, table_at, unreadable, TellsFront, time_of}
use Rattle.uu_times.proofs.GrammarFronts.{unread_longest}

unread_tells : (b : Bool) (line : ℕ) (text : List ℕ) (at : ℕ) → IsLongestFront text at → TellsFront text (cond b (UnknownTable line) (BadTime line at))
unread_tells true line text at front = tt
unread_tells false line text at front = front

listed_tells : (line : ℕ) (text : List ℕ) (listed : Result (List Simple) ℕ) → ((at : ℕ) → listed ≡ Err at → IsLongestFront text at)
    → IfErr (elim listed [ Ok simples ↦ Ok (maximal_runs (any_has simples)) | Err at ↦ Err (unreadable line text at) ]) (TellsFront text)
listed_tells line text (Ok simples) fronts = tt
listed_tells line text (Err at) fronts = unread_tells _ line text at (fronts at refl)

found_tells : (text : List ℕ) (found : Option (List (ℕ × ℕ))) (listed : Result (List (ℕ × ℕ)) TimeFault) → IfErr listed (TellsFront text)
    → IfErr (elim found [ Some windows ↦ Ok windows | None ↦ listed ]) (TellsFront text)
found_tells text None listed tells = tells
found_tells text (Some windows) listed tells = tt

never_tells : (text : List ℕ) (b : Bool) (answer : Result (List (ℕ × ℕ)) TimeFault) → IfErr answer (TellsFront text) → IfErr (cond b (Ok []) answer) (TellsFront text)
never_tells text true answer tells = tt
never_tells text false answer tells = tells

time_tells : (tables : Tables) (line : ℕ) (text : List ℕ) → IfErr (time_of tables line text) (TellsFront text)
time_tells tables line text =
    never_tells text _ _ (found_tells text (table_at tables text) _ (listed_tells line text (list_of text) (unread_longest text)))

-- an answer that is the expected one tells what that tells
pub answer_tells : (tables : Tables) (line : ℕ) (text : List ℕ) (answer : Result (List (ℕ × ℕ)) TimeFault)
    → AnswersUnlessMemory answer (time_of tables line text) → IfErr answer (TellsFront text)
answer_tells tables line text (Ok windows) same = tt
answer_tells tables line text (Err MomentRange) same = tt
answer_tells tables line text (Err OffsetRange) same = tt
answer_tells tables line text (Err (BadTime number at)) same = subst (λ answer. IfErr answer (TellsFront text)) (sym same) (time_tells tables line text)
answer_tells tables line text (Err (UnknownTable number)) same = tt
answer_tells tables line text (Err (TableTwice number)) same = tt
answer_tells tables line text (Err (BadNumber number)) same = tt
answer_tells tables line text (Err (BadSystem number)) same = tt
answer_tells tables line text (Err (TooManyLines number)) same = tt
answer_tells tables line text (Err (SystemTwice number)) same = tt
answer_tells tables line text (Err (BadWords number)) same = tt
answer_tells tables line text (Err Memory) same = tt
answer_tells tables line text (Err BadZone) same = tt
