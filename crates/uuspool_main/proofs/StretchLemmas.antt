-- From the calls over a spool to a stretch of work over its files.
use Rattle.std.proofs.Common.{◌≡◌, ◌⊎◌, ◌++◌, ◌∙◌, ℕ, List, [], length, Option, None, Result, Ok, Err, inl, inr, refl, subst, sym}
use Rattle.std.specs.Prelude.{IsTrue, IfOk, IfErr, ⊤, unwrap_or}
use Rattle.sqlite_disk.specs.declared.Disk as disk
use Rattle.sqlite_disk.specs.declared.Files.{Files}
use Rattle.sqlite_wal.specs.Recovery.{Image}
use Rattle.sqlite_store.specs.declared.store.FileStore.{FileStore}
use Rattle.sqlite_store.specs.FileStore.{view}
use Rattle.sqlite.specs.Files.{over_files}
use Rattle.sqlite.specs.Store.{Ghosts}
use Rattle.sqlite.specs.View.{IsClean}
use Rattle.uu_store.specs.declared.spool.Spool.{Spool}
use Rattle.uu_store.specs.Closing.{IsClosed}
use Rattle.uu_store.specs.Exchanges.{Exchange, exchange_of}
use Rattle.uu_store.specs.Files.{IsStretch, IsClosedStretch}
use Rattle.uu_store.specs.Spool.{connection_of}
use Rattle.uu_store.specs.Stretches.{IsLetGo}
use Rattle.uu_store.specs.Runs.{Ran}
use Rattle.uu_times.specs.declared.moment.Moment.{Moment}
use Rattle.uu_line.specs.Lines.{MeansLine}
use Rattle.uu_line.specs.declared.line.CommandLine.{CommandLine}
use Rattle.uu_settings.specs.declared.settings.Settings.{Settings}
use Rattle.uu_request.specs.Requests.{LineAsks}
use Rattle.uu_request.specs.declared.fault.RequestFault.{RequestFault}
use Rattle.uu_request.specs.declared.fault.RequestFault.TheVariants as asking
use Rattle.uu_request.specs.declared.request.Request.{Request}
use Rattle.uuspool.specs.Batch.{BreaksOff, EndsWith, IsOfStream, IsUntold, answer_of, fault_answer, most_requests}
use Rattle.uuspool.specs.Served.{WordsAsk, EndsAs, IsFaultOf, IsFaultOfLine, IsMomentOf, IsServed, in_hand, second_of}
use Rattle.uuspool.specs.ServedLines.{ServedLine}
use Rattle.uuspool.specs.declared.fault.Fault.{Fault}
use Rattle.uuspool.specs.declared.fault.Fault.TheVariants as fault
use Rattle.uuspool_main.specs.declared.stretch.Invocation.{Invocation}
use Rattle.uuspool_main.specs.Stretch.{EndsBatch, EndsStretch, HasMoment, IsOfLine, IsOfRequest, IsOfWords, LetsGo, WasGiven}
use Rattle.uuspool_main.specs.declared.stretch.Rest.{Rest}
use Rattle.uuspool_main.specs.declared.stretch.Rest.TheVariants as rest

-- ---- what a line was given

module _ {S : Type 0} {g : Ghosts S} (settings : Settings) (begun ended : Spool S g) (answer : List ℕ) where
  -- a request was served
  abbrev pub Asked : (Request → Type 0) → Result ℕ Fault → Type 0
  Asked Is r = (request : Request) × Is request × IsServed settings request begun ended (λ output. answer ≡ output) r

  -- and these are its commands and their replies
  abbrev pub AskedSo : (Request → Type 0) → Result ℕ Fault → Exchange → Type 0
  AskedSo Is r exchange = (request : Request) × Is request
      × (it : IsServed settings request begun ended (λ output. answer ≡ output) r) × (exchange ≡ exchange_of (in_hand request) it.commands it.replies it.stopped)

  -- nothing was done
  abbrev pub NoneSo : Exchange → Type 0
  NoneSo exchange = (ended ≡ begun) × (answer ≡ []) × (exchange ≡ exchange_of 1 [] [] None)

  asked_so : (Is : Request → Type 0) (r : Result ℕ Fault) → Asked Is r → WasGiven begun ended (AskedSo Is r)
  asked_so Is r (request, is, it) = (in_hand request, it.commands, it.replies, it.stopped, it.ran, (request, is, it, refl))

  none_so : Ran 1 [] begun begun [] None → ended ≡ begun → answer ≡ [] → WasGiven begun ended NoneSo
  none_so none same empty = (1, [], [], None, subst (λ (new : Spool S g). Ran 1 [] begun new [] None) (sym same) none, (same, empty, refl))

  -- however it ended
  pub line_given : (Is : Request → Type 0) → Ran 1 [] begun begun [] None → (r : Result ℕ Fault) → EndsAs r (Asked Is r) ((ended ≡ begun) × (answer ≡ []))
      → WasGiven begun ended (IsOfRequest settings begun ended Is r answer)
  line_given Is none (Ok status) it = asked_so Is (Ok status) it
  line_given Is none (Err (fault.Store why)) it = asked_so Is (Err (fault.Store why)) it
  line_given Is none (Err fault.Write) it = asked_so Is (Err fault.Write) it
  line_given Is none (Err fault.Memory) it =
      elim it [
        | inl done ↦ let (hand, commands, replies, stopped, ran, is) = asked_so Is (Err fault.Memory) done in (hand, commands, replies, stopped, ran, inl is)
        | inr not_done ↦ let (hand, commands, replies, stopped, ran, is) = none_so none not_done.0 not_done.1 in (hand, commands, replies, stopped, ran, inr is)
      ]
  line_given Is none (Err (fault.Words text help)) it = none_so none it.0 it.1
  line_given Is none (Err (fault.Settings why)) it = none_so none it.0 it.1
  line_given Is none (Err (fault.Name why)) it = none_so none it.0 it.1
  line_given Is none (Err (fault.Time why)) it = none_so none it.0 it.1
  line_given Is none (Err fault.TwoSystems) it = none_so none it.0 it.1
  line_given Is none (Err fault.Input) it = none_so none it.0 it.1
  line_given Is none (Err fault.Read) it = none_so none it.0 it.1
  line_given Is none (Err (fault.Bundle why)) it = none_so none it.0 it.1

  -- a request that is of a line is of other words too
  request_as : (Is Other : Request → Type 0) → ((request : Request) → Is request → Other request) → (r : Result ℕ Fault) (exchange : Exchange)
      → IsOfRequest settings begun ended Is r answer exchange → IsOfRequest settings begun ended Other r answer exchange
  request_as Is Other into (Ok status) exchange (request, is, served, same) = (request, into request is, served, same)
  request_as Is Other into (Err (fault.Store why)) exchange (request, is, served, same) = (request, into request is, served, same)
  request_as Is Other into (Err fault.Write) exchange (request, is, served, same) = (request, into request is, served, same)
  request_as Is Other into (Err fault.Memory) exchange it =
      elim it [ inl done ↦ inl (done.0, into done.0 done.1, done.2, done.3) | inr not_done ↦ inr not_done ]
  request_as Is Other into (Err (fault.Words text help)) exchange it = it
  request_as Is Other into (Err (fault.Settings why)) exchange it = it
  request_as Is Other into (Err (fault.Name why)) exchange it = it
  request_as Is Other into (Err (fault.Time why)) exchange it = it
  request_as Is Other into (Err fault.TwoSystems) exchange it = it
  request_as Is Other into (Err fault.Input) exchange it = it
  request_as Is Other into (Err fault.Read) exchange it = it
  request_as Is Other into (Err (fault.Bundle why)) exchange it = it

  module _ (line : CommandLine) (at : Moment) (input : List ℕ) where
    module _ (words : List (List ℕ)) (now : ℕ) (means : MeansLine words line) (moment : IsMomentOf settings (second_of line now) at) where
      words_ask : (asked : Result Request RequestFault) → LineAsks settings at input line asked → WordsAsk settings words now input asked
      words_ask asked is = record { line = line; means = means; at = at; moment = moment; request = is }

      words_fault : (r : Result ℕ Fault) → IfErr r (IsFaultOfLine settings line at input) → IfErr r (IsFaultOf settings words now input)
      words_fault (Ok status) is = tt
      words_fault (Err (fault.Time why)) is = inr (words_ask (Err (asking.Time why)) is)
      words_fault (Err fault.Input) is = words_ask (Err asking.Input) is
      words_fault (Err (fault.Store why)) (call, asked) = (call, (asked.0, words_ask (Ok asked.0) asked.1))
      words_fault (Err fault.Write) (request, is) = (request, words_ask (Ok request) is)
      words_fault (Err fault.Memory) is = tt
      words_fault (Err (fault.Words text help)) none = absurd none
      words_fault (Err (fault.Settings why)) none = absurd none
      words_fault (Err (fault.Name why)) none = absurd none
      words_fault (Err fault.TwoSystems) none = absurd none
      words_fault (Err fault.Read) none = absurd none
      words_fault (Err (fault.Bundle why)) is = words_ask (Err (asking.Bundle why)) is

    -- what is said about a line holds of the words that mean it
    pub of_words : (r : Result ℕ Fault) (exchange : Exchange) → IsOfLine settings begun ended line at input r answer exchange
        → (words : List (List ℕ)) (now : ℕ) → MeansLine words line → IsMomentOf settings (second_of line now) at
        → IsOfWords settings begun ended words now input r answer exchange
    of_words r exchange (done, told) words now means moment = (
      request_as (λ request. LineAsks settings at input line (Ok request)) (λ request. WordsAsk settings words now input (Ok request))
          (λ request is. words_ask words now means moment (Ok request) is) r exchange done,
      words_fault words now means moment r told,
    )

-- the moment of one of its seconds is a line's
pub at_second : (settings : Settings) (second : Option ℕ) (now instant : ℕ) → unwrap_or second now ≡ instant → (r : Result Moment Fault) → IfOk r (IsMomentOf settings instant)
    → IfOk r (λ at. (now : ℕ) × IsMomentOf settings (unwrap_or second now) at)
at_second settings second now instant is (Ok at) moment = (now, subst (λ i. IsMomentOf settings i at) (sym is) moment)
at_second settings second now instant is (Err why) none = tt

-- ---- how a batch ended

of_stream : (left rest : Option (List ℕ)) (why : Fault) → IsOfStream left rest why → IsOfStream None None why
of_stream left rest (fault.Words text help) it = (it.0, it.1, tt)
of_stream left rest fault.Input it = tt
of_stream left rest fault.Read it = inr tt
of_stream left rest fault.Memory it = tt
of_stream left rest (fault.Settings why) it = absurd it
of_stream left rest (fault.Name why) it = absurd it
of_stream left rest (fault.Time why) it = absurd it
of_stream left rest fault.TwoSystems it = absurd it
of_stream left rest (fault.Store why) it = absurd it
of_stream left rest fault.Write it = absurd it
of_stream left rest (fault.Bundle why) it = absurd it

-- an answer could not be written, or there was no memory for it
untold : (lines : List ServedLine) (answer : List ℕ) (Writes : List ℕ → Type 0) (why : Fault) → IsUntold answer Writes why → EndsBatch lines (Err why)
untold lines answer Writes fault.Write it = tt
untold lines answer Writes fault.Memory it = tt
untold lines answer Writes (fault.Words text help) it = absurd it
untold lines answer Writes fault.Input it = absurd it
untold lines answer Writes fault.Read it = absurd it
untold lines answer Writes (fault.Settings why) it = absurd it
untold lines answer Writes (fault.Name why) it = absurd it
untold lines answer Writes (fault.Time why) it = absurd it
untold lines answer Writes fault.TwoSystems it = absurd it
untold lines answer Writes (fault.Store why) it = absurd it
untold lines answer Writes (fault.Bundle why) it = absurd it

module _ (lines : List ServedLine) (left rest : Option (List ℕ)) (Writes : List ServedLine → List ℕ → Type 0) (All : Type 0) where
  pub batch_ended : (result : Result ℕ Fault) → IfOk result (EndsWith left rest (Writes lines))
      → IfErr result (λ why. BreaksOff lines left rest Writes why ⊎ ((why ≡ fault.Read) × (length lines ≡ most_requests) × All))
      → EndsBatch lines result
  batch_ended (Ok status) ends broken = elim ends [ inl at_end ↦ inl (at_end.0, tt, tt) | inr faulty ↦ inr (faulty.0, of_stream left rest faulty.0 faulty.1, faulty.2, tt) ]
  batch_ended (Err why) ends broken =
      elim broken [
        | inl off ↦ elim off [ inl last ↦ untold lines (answer_of last.1) (Writes last.0) why last.3 | inr cause ↦ untold lines (fault_answer cause.0) (Writes lines) why cause.2 ]
        | inr most ↦ subst (λ (w : Fault). EndsBatch lines (Err w)) (sym most.0) most.1
      ]

-- ---- the end

pub ends : {D : Type 0} {g : disk.Ghosts D} (before : Image) (exchange : Exchange) (ended : Spool (FileStore D g) over_files)
    → ((store : FileStore D g) → IsLetGo over_files (connection_of ended).store store → (IsClean (view store) → IsTrue (view store).is_numbered) → IsStretch before exchange store)
    → ((files : Files D) → IsClosed ended files → IsClosedStretch g before exchange files)
    → (left : Rest D g) → LetsGo ended left → EndsStretch before exchange left
ends before exchange ended of_store of_files (rest.Store it) gone = of_store it gone.0 gone.1
ends before exchange ended of_store of_files (rest.Closed files) gone = of_files files gone
ends before exchange ended of_store of_files (rest.Unclosed it) gone = λ numbered. of_store it gone (λ _. numbered)

-- ---- an answer in memory

ends_as : {A B C E : Type 0} (r : Result ℕ Fault) → (A → B) → (C → E) → EndsAs r A C → EndsAs r B E
ends_as (Ok status) served unchanged it = served it
ends_as (Err (fault.Store why)) served unchanged it = served it
ends_as (Err fault.Write) served unchanged it = served it
ends_as (Err fault.Memory) served unchanged it = elim it [ inl done ↦ inl (served done) | inr not_done ↦ inr (unchanged not_done) ]
ends_as (Err (fault.Words text help)) served unchanged it = unchanged it
ends_as (Err (fault.Settings why)) served unchanged it = unchanged it
ends_as (Err (fault.Name why)) served unchanged it = unchanged it
ends_as (Err (fault.Time why)) served unchanged it = unchanged it
ends_as (Err fault.TwoSystems) served unchanged it = unchanged it
ends_as (Err fault.Input) served unchanged it = unchanged it
ends_as (Err fault.Read) served unchanged it = unchanged it
ends_as (Err (fault.Bundle why)) served unchanged it = unchanged it

-- what was written to no bytes is all of the answer
pub in_memory : {S : Type 0} {g : Ghosts S} (settings : Settings) (begun ended : Spool S g) (Is : Request → Type 0) (old answer : List ℕ) (Still : Type 0)
    → old ≡ [] → (Still → answer ≡ old) → (r : Result ℕ Fault)
    → EndsAs r ((request : Request) × Is request × IsServed settings request begun ended (λ output. answer ≡ old ++ output) r) ((ended ≡ begun) × Still)
    → EndsAs r ((request : Request) × Is request × IsServed settings request begun ended (λ output. answer ≡ output) r) ((ended ≡ begun) × (answer ≡ []))
in_memory settings begun ended Is old answer Still empty still r it =
    ends_as r
    (λ done. (done.0, done.1, subst (λ xs. IsServed settings done.0 begun ended (λ output. answer ≡ xs ++ output) r) empty done.2))
    (λ not_done. (not_done.0, still not_done.1 ∙ empty)) it

-- what is given back has the moment that it had
pub moment_stays : (settings : Settings) (what again : Invocation) → HasMoment settings what → again ≡ what → HasMoment settings again
moment_stays settings what again has same = subst (HasMoment settings) (sym same) has

-- a line with the same second has the same moments
pub moment_kept : (settings : Settings) (line other : CommandLine) (at : Moment) → other.at ≡ line.at → (now : ℕ) × IsMomentOf settings (second_of line now) at
    → (now : ℕ) × IsMomentOf settings (second_of other now) at
moment_kept settings line other at same is = (is.0, subst (λ (second : Option ℕ). IsMomentOf settings (unwrap_or second is.0) at) (sym same) is.1)
