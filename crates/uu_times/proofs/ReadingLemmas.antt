-- Lines read one after the other.
use Rattle.std.proofs.Common.{◌≡◌, ℕ, List, [], ◌∷◌, Result, Ok, Err, refl, ap, sym, ◌∙◌, length, nat_eq, true, arith, subst, IsErrAnd}
use Rattle.std.proofs.lemmas.Bool.{eqb-true}
use Rattle.std.specs.Str.Lines.{lines}
use Rattle.uu_times.specs.declared.fault.TimeFault.{TimeFault}
use Rattle.uu_times.specs.declared.fault.TimeFault.TheVariants.{Memory}
use Rattle.uu_times.specs.Directives.{◌>>=◌}
use Rattle.uu_times.specs.Lines.{Numbered, joined}
use Rattle.uu_times.specs.Internal.Reading.{Reading, Takes, line_read, lines_read}

-- a line that is read
pub reads_on : (reading next : Reading) (number : ℕ) (text : List ℕ) (all more : List Numbered) (whole : Result Reading TimeFault)
    → all ≡ record { number = number; line = text } ∷ more → line_read reading number text ≡ Ok next → lines_read reading all ≡ whole → lines_read next more ≡ whole
unfolding lines_read
reads_on reading next number text all more whole is read answer =
    ap (λ r. r >>= λ n. lines_read n more) (sym read) ∙ ap (lines_read reading) (sym is) ∙ answer

-- a faulty line
pub reads_fault : (reading : Reading) (number : ℕ) (text : List ℕ) (all more : List Numbered) (whole : Result Reading TimeFault) (fault : TimeFault)
    → all ≡ record { number = number; line = text } ∷ more → line_read reading number text ≡ Err fault → lines_read reading all ≡ whole → whole ≡ Err fault
unfolding lines_read
reads_fault reading number text all more whole fault is read answer =
    sym answer ∙ ap (lines_read reading) is ∙ ap (λ r. r >>= λ n. lines_read n more) read

-- no more lines
pub reads-end : (reading : Reading) (number : ℕ) (rest : List ℕ) (whole : Result Reading TimeFault)
    → rest ≡ [] → lines_read reading (joined number (lines rest)) ≡ whole → Ok reading ≡ whole
unfolding lines_read joined
reads-end reading number rest whole none answer = ap (λ (r : List ℕ). lines_read reading (joined number (lines r))) (sym none) ∙ answer

-- a faulty line, or out of memory at it
pub takes_fault : (fault : TimeFault) (reading next last : Reading) (number : ℕ) (text : List ℕ) (all more : List Numbered) (whole : Result Reading TimeFault)
    → all ≡ record { number = number; line = text } ∷ more → Takes (Err fault) next (line_read reading number text) → lines_read reading all ≡ whole
    → Takes (Err fault) last whole
takes_fault Memory reading next last number text all more whole is takes answer = tt
takes_fault fault reading next last number text all more whole is takes answer = reads_fault reading number text all more whole fault is takes answer

-- a fault that is passed on
pub passed-on : (result : Result (Unit {0}) TimeFault) (last : Reading) (whole : Result Reading TimeFault) (fault : TimeFault)
    → IsErrAnd result (λ f. f ≡ fault) → Takes (Err fault) last whole → Takes result last whole
passed-on (Ok done) last whole fault is takes = absurd is
passed-on (Err f) last whole fault is takes = subst (λ (f : TimeFault). Takes (Err f) last whole) (sym is) takes

pub empty_if : (rest : List ℕ) → (nat_eq (length rest) 0) ≡ true → rest ≡ []
empty_if [] none = refl
empty_if (letter ∷ letters) none = absurd (omega (arith, eqb-true (length (letter ∷ letters)) 0 none))
