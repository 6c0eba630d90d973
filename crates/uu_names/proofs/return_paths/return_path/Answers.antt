-- Each line adds its site to the way. When the run stops, the way is whole.
use Rattle.std.proofs.Common.{◌≡◌, ◌+◌, ◌∷◌, ◌++◌, [], List, ℕ, drop, subst, sym, ap, ◌∙◌, refl, arith, take, length, ◌-◌}
use Rattle.std.proofs.lemmas.List.{take_rest}
use Rattle.std.proofs.lemmas.Result.{err_from_is_err_and}
use Rattle.uu_names.specs.declared.fault.NameFault.TheVariants.{NoEnvelope}
use Rattle.uu_names.specs.ReturnPath.{raw_lines, Stops, first_marker, later_marker}
use Rattle.uu_names.specs.Internal.NextLine.{BeginsWithSender}
use Rattle.uu_names.specs.Path.{IsPathText, IsPathFault}
use Rattle.uu_names.proofs.ReturnRuns.{fault_no_way}
use Rattle.uu_names.proofs.ReturnLoop.{HasRead, read_none, read_more, no_envelope, has_way, is_return_path, is_return_fault}
use Rattle.uu_names.proofs.return_paths.return_path.Goals as goal

pub loop-found-init : goal.loop-found-init
loop-found-init c =
    subst (λ (w : List ℕ). HasRead c.args.message.now w [] first_marker 0) (sym c.new-way.ensures.items) (read_none c.args.message.now)

-- if the rest of the text stops, the text stops there
stopped : (text marker : List ℕ) (body : ℕ) → Stops marker (raw_lines (take (length text - body) (drop body text))) → Stops marker (raw_lines (drop body text))
stopped text marker body stops = subst (λ (t : List ℕ). Stops marker (raw_lines t)) (take_rest text body) stops

pub loop-found-preserved : goal.loop-found-preserved
loop-found-preserved c =
    let next = subst (λ (t : List ℕ). BeginsWithSender c.loop-found.marker.now t c.in-Some.found.user.now c.in-Some.found.site.now c.in-Some.found.line_len) (take_rest c.args.message.now c.loop-found.body) c.in-Some.ensures in
    let k = read_more c.args.message.now _ _ _ c.loop-found.body c.in-Some.found.user.now c.in-Some.found.site.now c.in-Some.found.line_len c.loop-found.invariant next in
    let e : c.push.new.self.items ≡ c.loop-found.way.items ++ c.in-Some.found.site.now ++ 33 ∷ [] = c.in_ok-push.ensures.items ∙ ap (λ t. t ++ 33 ∷ []) c.in_ok-extend_from_slice.ensures.items in
    subst (λ (w : List ℕ). HasRead c.args.message.now w c.in-Some.found.user.now later_marker (c.loop-found.body + c.in-Some.found.line_len)) (sym e) k

pub returns-then-body-eq0-clause-refused : goal.returns-then-body-eq0-clause-refused
returns-then-body-eq0-clause-refused c =
    let stops = stopped c.args.message.now c.loop-found.marker.now c.loop-found.body c.in_default.ensures in
    fault_no_way c.args.message.now NoEnvelope (no_envelope c.args.message.now _ _ _ c.loop-found.body c.loop-found.invariant stops c.if-body-eq0.true)

pub returns-in_err-path-clause-fault : goal.returns-in_err-path-clause-fault
returns-in_err-path-clause-fault c =
    let stops = stopped c.args.message.now c.loop-found.marker.now c.loop-found.body c.in_default.ensures in
    let way = has_way c.args.message.now _ _ _ c.loop-found.body c.loop-found.invariant stops (omega arith) in
    let text : c.deref.result.now ≡ c.loop-found.way.items ++ c.loop-found.user.now = c.deref.ensures.value ∙ c.in_ok-extend_from_slice-2.ensures.items in
    let p = err_from_is_err_and c.from_residual-in_err-path.result c.from_residual-in_err-path.ensures.1 in
    rw (p.1, p.2) (is_return_fault c.args.message.now _ _ c.loop-found.body c.in_err-path.field-0.0 way (subst (λ (t : List ℕ). IsPathFault t c.in_err-path.field-0.0) text c.in_err-path.ensures.fault))

pub returns-in_err-path-clause-refused : goal.returns-in_err-path-clause-refused
returns-in_err-path-clause-refused c =
    let stops = stopped c.args.message.now c.loop-found.marker.now c.loop-found.body c.in_default.ensures in
    let way = has_way c.args.message.now _ _ _ c.loop-found.body c.loop-found.invariant stops (omega arith) in
    let text : c.deref.result.now ≡ c.loop-found.way.items ++ c.loop-found.user.now = c.deref.ensures.value ∙ c.in_ok-extend_from_slice-2.ensures.items in
    let p = err_from_is_err_and c.from_residual-in_err-path.result c.from_residual-in_err-path.ensures.1 in
    let fault = is_return_fault c.args.message.now _ _ c.loop-found.body c.in_err-path.field-0.0 way (subst (λ (t : List ℕ). IsPathFault t c.in_err-path.field-0.0) text c.in_err-path.ensures.fault) in
    rw (p.1, p.2) (fault_no_way c.args.message.now c.in_err-path.field-0.0 fault)

pub returns-clause-path : goal.returns-clause-path
returns-clause-path c =
    let stops = stopped c.args.message.now c.loop-found.marker.now c.loop-found.body c.in_default.ensures in
    let way = has_way c.args.message.now _ _ _ c.loop-found.body c.loop-found.invariant stops (omega arith) in
    let text : c.deref.result.now ≡ c.loop-found.way.items ++ c.loop-found.user.now = c.deref.ensures.value ∙ c.in_ok-extend_from_slice-2.ensures.items in
    let is_path : IsPathText c.deref.result.now = c.in_ok-path.ensures.path refl in
    is_return_path c.args.message.now _ _ c.loop-found.body c.in_ok-path.path way (c.in_ok-path.ensures.text ∙ text) (subst IsPathText (sym c.in_ok-path.ensures.text) is_path)
