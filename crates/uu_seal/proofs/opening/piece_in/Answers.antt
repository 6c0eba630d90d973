use Rattle.std.proofs.Common.{◌≡◌, ◌∙◌, ap, length, drop, List, ℕ, arith}
use Rattle.std.proofs.lemmas.Option.{some_pair_parts}
use Rattle.std.specs.Fmt.{decimal}
use Rattle.uu_seal.proofs.Reading.{as_long, at_bytes, at_tag, bytes_are, line_is, long_enough}
use Rattle.uu_seal.proofs.opening.piece_in.Goals as goal

pub returns-in_err-behind-clause-found : goal.returns-in_err-behind-clause-found
returns-in_err-behind-clause-found c = λ tag piece behind is long e.
    let most = is.most in
    let from : c.in_ok-line.line.now ≡ drop 6 c.args.text.now = c.in_ok-line.ensures.cases.1 ∙ ap (λ (p : List ℕ). drop (length p) c.args.text.now) c.as_slice.ensures in
    let line = line_is c.args.text.now c.in_ok-line.line.now tag piece behind e from in
    let size = some_pair_parts c.in_ok-digits.digits (length (decimal (length piece))) c.in_ok-digits.size (length piece) (c.in_ok-digits.ensures (length piece) _ (omega arith) line) in
    let at = at_tag c.in_ok-line.line.now c.in_ok-tag.tag.now tag piece behind c.in_ok-digits.digits line size.0 c.in_ok-tag.ensures.cases.2 in
    let enough = long_enough c.in_ok-tag.tag.now tag piece behind long at in absurd (omega (arith, c.in_err-behind.ensures.cases))

pub returns-in_err-piece-clause-found : goal.returns-in_err-piece-clause-found
returns-in_err-piece-clause-found c = λ tag piece behind is long e.
    let most = is.most in
    let from : c.in_ok-line.line.now ≡ drop 6 c.args.text.now = c.in_ok-line.ensures.cases.1 ∙ ap (λ (p : List ℕ). drop (length p) c.args.text.now) c.as_slice.ensures in
    let line = line_is c.args.text.now c.in_ok-line.line.now tag piece behind e from in
    let size = some_pair_parts c.in_ok-digits.digits (length (decimal (length piece))) c.in_ok-digits.size (length piece) (c.in_ok-digits.ensures (length piece) _ (omega arith) line) in
    let at = at_tag c.in_ok-line.line.now c.in_ok-tag.tag.now tag piece behind c.in_ok-digits.digits line size.0 c.in_ok-tag.ensures.cases.2 in
    let bytes = at_bytes c.in_ok-tag.tag.now c.in_ok-behind.behind.now tag piece behind long at c.in_ok-behind.ensures.cases.2 in
    let enough = as_long c.in_ok-behind.behind.now piece behind bytes in
    let same : c.in_ok-digits.size ≡ length piece = size.1 in absurd (omega (arith, c.in_err-piece.ensures.cases))

pub returns-clause-found : goal.returns-clause-found
returns-clause-found c = λ tag piece behind is long e.
    let most = is.most in
    let from : c.in_ok-line.line.now ≡ drop 6 c.args.text.now = c.in_ok-line.ensures.cases.1 ∙ ap (λ (p : List ℕ). drop (length p) c.args.text.now) c.as_slice.ensures in
    let line = line_is c.args.text.now c.in_ok-line.line.now tag piece behind e from in
    let size = some_pair_parts c.in_ok-digits.digits (length (decimal (length piece))) c.in_ok-digits.size (length piece) (c.in_ok-digits.ensures (length piece) _ (omega arith) line) in
    let at = at_tag c.in_ok-line.line.now c.in_ok-tag.tag.now tag piece behind c.in_ok-digits.digits line size.0 c.in_ok-tag.ensures.cases.2 in
    let bytes = at_bytes c.in_ok-tag.tag.now c.in_ok-behind.behind.now tag piece behind long at c.in_ok-behind.ensures.cases.2 in
    bytes_are c.in_ok-behind.behind.now c.in_ok-piece.piece.now piece behind c.in_ok-digits.size bytes size.1 c.in_ok-piece.ensures.cases.1
