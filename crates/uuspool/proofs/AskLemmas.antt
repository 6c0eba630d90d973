-- How a line ends, and with which fault.
use Rattle.std.proofs.Common.{inl, inr, ℕ, List, Result, Ok, Err, IfErr}
use Rattle.uu_request.specs.Requests.{LineAsks, UnlessMemory}
use Rattle.uu_request.specs.declared.fault.RequestFault.{RequestFault}
use Rattle.uu_request.specs.declared.fault.RequestFault.TheVariants as asking
use Rattle.uu_request.specs.declared.request.Request.{Request}
use Rattle.uu_line.specs.Lines.{MeansLine}
use Rattle.uu_line.specs.declared.line.CommandLine.{CommandLine}
use Rattle.uu_settings.specs.declared.settings.Settings.{Settings}
use Rattle.uu_times.specs.declared.moment.Moment.{Moment}
use Rattle.uuspool.specs.Faults.{fault_of_request}
use Rattle.uuspool.specs.Served.{WordsAsk, EndsAs, IsEarly, IsFaultOf, IsFaultOfLine, IsLate, IsMomentOf, second_of}
use Rattle.uuspool.specs.declared.fault.Fault.{Fault}
use Rattle.uuspool.specs.declared.fault.Fault.TheVariants as fault

-- a request that was served ends a line, and its fault is one that comes with the calls of the
-- spool
pub ends_served : (r : Result ℕ Fault) (Served Unchanged : Type 0) → IfErr r IsLate → Served → EndsAs r Served Unchanged
ends_served (Ok status) Served Unchanged late served = served
ends_served (Err (fault.Store why)) Served Unchanged late served = served
ends_served (Err fault.Write) Served Unchanged late served = served
ends_served (Err fault.Memory) Served Unchanged late served = inl served
ends_served (Err (fault.Words text help)) Served Unchanged late served = absurd late
ends_served (Err (fault.Settings why)) Served Unchanged late served = absurd late
ends_served (Err (fault.Name why)) Served Unchanged late served = absurd late
ends_served (Err (fault.Time why)) Served Unchanged late served = absurd late
ends_served (Err fault.TwoSystems) Served Unchanged late served = absurd late
ends_served (Err fault.Input) Served Unchanged late served = absurd late
ends_served (Err fault.Read) Served Unchanged late served = absurd late
ends_served (Err (fault.Bundle why)) Served Unchanged late served = absurd late

-- a fault that comes before any call of the spool ends a line that did nothing
pub ends_early : (f : Fault) (Served Unchanged : Type 0) → IsEarly f → Unchanged → (let r : Result ℕ Fault = Err f in EndsAs r Served Unchanged)
ends_early (fault.Store why) Served Unchanged early unchanged = absurd early
ends_early fault.Write Served Unchanged early unchanged = absurd early
ends_early fault.Memory Served Unchanged early unchanged = inr unchanged
ends_early (fault.Words text help) Served Unchanged early unchanged = unchanged
ends_early (fault.Settings why) Served Unchanged early unchanged = unchanged
ends_early (fault.Name why) Served Unchanged early unchanged = unchanged
ends_early (fault.Time why) Served Unchanged early unchanged = unchanged
ends_early fault.TwoSystems Served Unchanged early unchanged = unchanged
ends_early fault.Input Served Unchanged early unchanged = unchanged
ends_early fault.Read Served Unchanged early unchanged = unchanged
ends_early (fault.Bundle why) Served Unchanged early unchanged = unchanged

-- an end, said in other words
pub ends_as : (r : Result ℕ Fault) (Served Unchanged Other Still : Type 0) → (Served → Other) → (Unchanged → Still) → EndsAs r Served Unchanged → EndsAs r Other Still
ends_as (Ok status) Served Unchanged Other Still into over it = into it
ends_as (Err (fault.Store why)) Served Unchanged Other Still into over it = into it
ends_as (Err fault.Write) Served Unchanged Other Still into over it = into it
ends_as (Err fault.Memory) Served Unchanged Other Still into over it = elim it [ inl done ↦ inl (into done) | inr none ↦ inr (over none) ]
ends_as (Err (fault.Words text help)) Served Unchanged Other Still into over it = over it
ends_as (Err (fault.Settings why)) Served Unchanged Other Still into over it = over it
ends_as (Err (fault.Name why)) Served Unchanged Other Still into over it = over it
ends_as (Err (fault.Time why)) Served Unchanged Other Still into over it = over it
ends_as (Err fault.TwoSystems) Served Unchanged Other Still into over it = over it
ends_as (Err fault.Input) Served Unchanged Other Still into over it = over it
ends_as (Err fault.Read) Served Unchanged Other Still into over it = over it
ends_as (Err (fault.Bundle why)) Served Unchanged Other Still into over it = over it

module _ (settings : Settings) (line : CommandLine) (at : Moment) (input : List ℕ) where
  -- a fault that comes with the calls of the spool
  pub late_fault : (r : Result ℕ Fault) → IfErr r IsLate → ((request : Request) × LineAsks settings at input line (Ok request)) → IfErr r (IsFaultOfLine settings line at input)
  late_fault (Ok status) late asked = tt
  late_fault (Err (fault.Store why)) late asked = (late, asked)
  late_fault (Err fault.Write) late asked = asked
  late_fault (Err fault.Memory) late asked = tt
  late_fault (Err (fault.Words text help)) late asked = absurd late
  late_fault (Err (fault.Settings why)) late asked = absurd late
  late_fault (Err (fault.Name why)) late asked = absurd late
  late_fault (Err (fault.Time why)) late asked = absurd late
  late_fault (Err fault.TwoSystems) late asked = absurd late
  late_fault (Err fault.Input) late asked = absurd late
  late_fault (Err fault.Read) late asked = absurd late
  late_fault (Err (fault.Bundle why)) late asked = absurd late

  -- a fault of what a line asks
  pub asked_fault : (why : RequestFault) → (let answer : Result Request RequestFault = Err why in UnlessMemory (LineAsks settings at input line) answer)
      → IsFaultOfLine settings line at input (fault_of_request why)
  asked_fault asking.Input is = is
  asked_fault (asking.Time why) is = is
  asked_fault (asking.Bundle why) is = is
  asked_fault asking.Memory is = tt

  module _ (words : List (List ℕ)) (now : ℕ) (means : MeansLine words line) (moment : IsMomentOf settings (second_of line now) at) where
    -- words ask what their line asks
    pub words_ask : (asked : Result Request RequestFault) → LineAsks settings at input line asked → WordsAsk settings words now input asked
    words_ask asked is = record { line = line; means = means; at = at; moment = moment; request = is }

    -- and a fault of their line is theirs
    pub words_fault : (f : Fault) → IsFaultOfLine settings line at input f → IsFaultOf settings words now input f
    words_fault (fault.Time why) is = inr (words_ask (Err (asking.Time why)) is)
    words_fault fault.Input is = words_ask (Err asking.Input) is
    words_fault (fault.Store why) (call, (request, is)) = (call, (request, words_ask (Ok request) is))
    words_fault fault.Write (request, is) = (request, words_ask (Ok request) is)
    words_fault fault.Memory is = tt
    words_fault (fault.Words text help) none = absurd none
    words_fault (fault.Settings why) none = absurd none
    words_fault (fault.Name why) none = absurd none
    words_fault fault.TwoSystems none = absurd none
    words_fault fault.Read none = absurd none
    words_fault (fault.Bundle why) is = words_ask (Err (asking.Bundle why)) is

    pub words_faults : (r : Result ℕ Fault) → IfErr r (IsFaultOfLine settings line at input) → IfErr r (IsFaultOf settings words now input)
    words_faults (Ok status) is = tt
    words_faults (Err f) is = words_fault f is

pub asked_is_early : (why : RequestFault) → IsEarly (fault_of_request why)
asked_is_early asking.Input = tt
asked_is_early (asking.Time why) = tt
asked_is_early (asking.Bundle why) = tt
asked_is_early asking.Memory = tt
