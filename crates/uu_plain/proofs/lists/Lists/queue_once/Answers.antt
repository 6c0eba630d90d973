use Rattle.std.proofs.Common.{◌≡◌, ◌∙◌, ◌&&◌, Ok, List, find, unwrap_or, ap, sym, arith}
use Rattle.std.specs.List.{list_any}
use Rattle.uu_core.specs.declared.system.SystemRow.{SystemRow}
use Rattle.uu_core.specs.State.{Link, is_system, is_link, new_link, link_of}
use Rattle.uu_core.specs.Verdict.{are_known}
use Rattle.uu_plain.specs.Lists.{state_of}
use Rattle.uu_plain.proofs.PlainLemmas.{first_accepted, once_first, once_again, once_refused}
use Rattle.uu_core.proofs.DecisionLemmas.{not_last}
use Rattle.uu_plain.proofs.lists.Lists.queue_once.Goals as goal

pub add_once-requires-clause-number_is : goal.add_once-requires-clause-number_is
add_once-requires-clause-number_is c =
    sym (first_accepted c.are_known-known.result c.args.self.now.next c.below.result c.taken_at-taken.result c.args.key.now c.args.job c.in-Ok-First.number (ap Ok (sym c.in-Ok-First.field-0-is) ∙ c.in-Ok-First.ensures)).2

pub add_once-requires-clause-some_left : goal.add_once-requires-clause-some_left
add_once-requires-clause-some_left c =
    let h = first_accepted c.are_known-known.result c.args.self.now.next c.below.result c.taken_at-taken.result c.args.key.now c.args.job c.in-Ok-First.number (ap Ok (sym c.in-Ok-First.field-0-is) ∙ c.in-Ok-First.ensures) in
    let different : c.in-Ok-First.number ≡ 4294967295 → ⊥ = not_last c.args.self.now.next c.in-Ok-First.number h.1 h.2 in
    omega arith

pub returns-in-Ok-First : goal.returns-in-Ok-First
returns-in-Ok-First c =
    let key = c.args.key.now in
    let state = state_of c.args.self.now in
    let known : c.are_known-known.result ≡ are_known state key c.args.job = c.are_known-known.ensures ∙ ap (λ (rows : List SystemRow). list_any (is_system key.from) rows && list_any (is_system c.args.job.system) rows) c.as_slice-2.ensures.value in
    let link : c.in_ok-link.link ≡ link_of state key.from = c.in_ok-link.ensures ∙ ap (λ (links : List Link). unwrap_or (find (is_link key.from) links) (new_link key.from)) c.as_slice.ensures.value in
    once_first state key c.args.job c.are_known-known.result c.in_ok-link.link c.below.result c.taken_at-taken.result known link c.below.ensures c.taken_at-taken.ensures
    c.in-Ok-First.number c.add_once.result (state_of c.add_once.new.self) (ap Ok (sym c.in-Ok-First.field-0-is) ∙ c.in-Ok-First.ensures) c.add_once.ensures

pub returns-in-Ok-Again : goal.returns-in-Ok-Again
returns-in-Ok-Again c =
    let key = c.args.key.now in
    let state = state_of c.args.self.now in
    let known : c.are_known-known.result ≡ are_known state key c.args.job = c.are_known-known.ensures ∙ ap (λ (rows : List SystemRow). list_any (is_system key.from) rows && list_any (is_system c.args.job.system) rows) c.as_slice-2.ensures.value in
    let link : c.in_ok-link.link ≡ link_of state key.from = c.in_ok-link.ensures ∙ ap (λ (links : List Link). unwrap_or (find (is_link key.from) links) (new_link key.from)) c.as_slice.ensures.value in
    once_again state key c.args.job c.are_known-known.result c.in_ok-link.link c.below.result c.taken_at-taken.result known link c.below.ensures c.taken_at-taken.ensures
    c.in-Ok-Again.number (ap Ok (sym c.in-Ok-Again.field-0-is) ∙ c.in-Ok-Again.ensures)

pub returns-in-Err : goal.returns-in-Err
returns-in-Err c =
    let key = c.args.key.now in
    let state = state_of c.args.self.now in
    let known : c.are_known-known.result ≡ are_known state key c.args.job = c.are_known-known.ensures ∙ ap (λ (rows : List SystemRow). list_any (is_system key.from) rows && list_any (is_system c.args.job.system) rows) c.as_slice-2.ensures.value in
    let link : c.in_ok-link.link ≡ link_of state key.from = c.in_ok-link.ensures ∙ ap (λ (links : List Link). unwrap_or (find (is_link key.from) links) (new_link key.from)) c.as_slice.ensures.value in
    once_refused state key c.args.job c.are_known-known.result c.in_ok-link.link c.below.result c.taken_at-taken.result known link c.below.ensures c.taken_at-taken.ensures
    c.in-Err.refusal c.in-Err.ensures
