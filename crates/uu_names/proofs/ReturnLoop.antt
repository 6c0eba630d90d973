-- What has been read of the leading lines, line by line.
use Rattle.std.proofs.Common.{◌≡◌, ℕ, ◌+◌, ◌<◌, ◌≤◌, List, [], ◌∷◌, ◌++◌, length, take, drop, map, refl, ap, sym, ◌∙◌, subst, arith, append_assoc, append-nil, length-append}
use Rattle.std.specs.List.{concat, flat_map}
use Rattle.std.proofs.lemmas.List.{drop-drop, length-take-le, length-drop}
use Rattle.uu_names.specs.declared.fault.NameFault.{NameFault}
use Rattle.uu_names.specs.declared.fault.NameFault.TheVariants.{BadGrade, BadName, BadPath, BadWord, NoEnvelope, TooLong, Memory}
use Rattle.uu_names.specs.Path.{IsPathText, IsPathFault}
use Rattle.uu_names.specs.ReturnPath.{raw_lines, content, Sender, IsLeadingLine, first_marker, later_marker, AreLeadingLines, next_marker, Stops, HasLeadingLines, last_user, way_back, IsReturnPath, IsReturnFault}
use Rattle.uu_names.specs.Internal.NextLine.{BeginsWithSender}
use Rattle.uu_names.proofs.PathScan.{whole, whole-cons}

-- the way so far: each site and a `!`
abbrev pub sites_of : List Sender → List ℕ
sites_of = flat_map (λ s. s.site ++ 33 ∷ [])

abbrev pub user_of : List Sender → List ℕ
user_of [] = []
user_of (sender ∷ senders) = last_user sender senders

abbrev pub HasSenders : List Sender → ℕ → Type 0
HasSenders [] body = body ≡ 0
HasSenders (sender ∷ senders) body = 0 < body

pub record HasRead (message way user marker : List ℕ) (body : ℕ) : Type 0 where
  pub senders : List Sender
  pub leading : List (List ℕ)
  pub within : body ≤ length message
  pub lines : raw_lines message ≡ leading ++ raw_lines (drop body message)
  pub say : AreLeadingLines first_marker leading senders
  pub start : body ≡ length (concat leading)
  pub way_is : way ≡ sites_of senders
  pub user_is : user ≡ user_of senders
  pub marker_is : marker ≡ next_marker senders
  pub some : HasSenders senders body

pub read_none : (message : List ℕ) → HasRead message [] [] first_marker 0
read_none message = record { senders = []; leading = []; within = omega arith; lines = refl; say = tt; start = refl; way_is = refl; user_is = refl; marker_is = refl; some = refl }

-- one more line
abbrev marker_after : List ℕ → List Sender → List ℕ
marker_after marker [] = marker
marker_after marker (sender ∷ senders) = later_marker

say_push : (marker line : List ℕ) (leading : List (List ℕ)) (senders : List Sender) (sender : Sender) → AreLeadingLines marker leading senders → IsLeadingLine (marker_after marker senders) (content line) sender → AreLeadingLines marker (leading ++ line ∷ []) (senders ++ sender ∷ [])
say_push marker line [] [] sender say more = (more, tt)
say_push marker line [] (s ∷ senders) sender say more = absurd say
say_push marker line (l ∷ leading) [] sender say more = absurd say
say_push marker line (l ∷ leading) (s ∷ []) sender say more = (say.0, say_push later_marker line leading [] sender say.1 more)
say_push marker line (l ∷ leading) (s ∷ t ∷ senders) sender say more = (say.0, say_push later_marker line leading (t ∷ senders) sender say.1 more)

marker_same : (senders : List Sender) → next_marker senders ≡ marker_after first_marker senders
marker_same [] = refl
marker_same (sender ∷ senders) = refl

concat-push : (leading : List (List ℕ)) (line : List ℕ) → length (concat (leading ++ line ∷ [])) ≡ length (concat leading) + length line
concat-push [] line = omega (arith, ap length (append-nil line))
concat-push (l ∷ leading) line = omega (arith, length-append l (concat (leading ++ line ∷ [])), length-append l (concat leading), concat-push leading line)

sites_push : (senders : List Sender) (sender : Sender) → sites_of (senders ++ sender ∷ []) ≡ sites_of senders ++ (sender.site ++ 33 ∷ [])
sites_push [] sender = append-nil (sender.site ++ 33 ∷ [])
sites_push (s ∷ senders) sender = ap (λ t. (s.site ++ 33 ∷ []) ++ t) (sites_push senders sender) ∙ sym (append_assoc (s.site ++ 33 ∷ []) (sites_of senders) (sender.site ++ 33 ∷ []))

last_push : (s : Sender) (senders : List Sender) (sender : Sender) → last_user s (senders ++ sender ∷ []) ≡ sender.user
last_push s [] sender = refl
last_push s (t ∷ senders) sender = last_push t senders sender

user_push : (senders : List Sender) (sender : Sender) → user_of (senders ++ sender ∷ []) ≡ sender.user
user_push [] sender = refl
user_push (s ∷ senders) sender = last_push s senders sender

marker_push : (senders : List Sender) (sender : Sender) → next_marker (senders ++ sender ∷ []) ≡ later_marker
marker_push [] sender = refl
marker_push (s ∷ senders) sender = refl

some_push : (senders : List Sender) (sender : Sender) (body : ℕ) → 0 < body → HasSenders (senders ++ sender ∷ []) body
some_push [] sender body h = h
some_push (s ∷ senders) sender body h = h

pub read_more : (message way user marker : List ℕ) (body : ℕ) (u s : List ℕ) (n : ℕ) → HasRead message way user marker body → BeginsWithSender marker (drop body message) u s n → HasRead message (way ++ s ++ 33 ∷ []) u later_marker (body + n)
read_more message way user marker body u s n k next = record {
  senders = k.senders ++ sender ∷ [];
  leading = k.leading ++ line ∷ [];
  within = omega (arith, next.within, length-drop body message);
  lines = k.lines ∙ ap (λ t. k.leading ++ t) (next.line ∙ ap (λ t. line ∷ raw_lines t) (drop-drop n body message)) ∙ sym (append_assoc k.leading (line ∷ []) (raw_lines (drop (body + n) message)));
  say = say_push first_marker line k.leading k.senders sender k.say (subst (λ (m : List ℕ). IsLeadingLine m (content line) sender) (k.marker_is ∙ marker_same k.senders) next.says);
  start = omega (arith, k.start, concat-push k.leading line, length-take-le n (drop body message) next.within);
  way_is = append_assoc way s (33 ∷ []) ∙ ap (λ t. t ++ (s ++ 33 ∷ [])) k.way_is ∙ sym (sites_push k.senders sender);
  user_is = sym (user_push k.senders sender);
  marker_is = sym (marker_push k.senders sender);
  some = some_push k.senders sender (body + n) (omega (arith, next.some));
}
  where
    sender : Sender
    sender = record { user = u; site = s }

    line : List ℕ
    line = take n (drop body message)

-- the end of the run
has_lines : {message way user marker : List ℕ} {body : ℕ} (k : HasRead message way user marker body) → Stops marker (raw_lines (drop body message)) → HasLeadingLines message k.senders body
has_lines {message} {way} {user} {marker} {body} k stops = record {
  leading = k.leading;
  others = raw_lines (drop body message);
  lines = k.lines;
  say = k.say;
  longest = subst (λ (m : List ℕ). Stops m (raw_lines (drop body message))) k.marker_is stops;
  start = k.start;
}

pub no_envelope : (message way user marker : List ℕ) (body : ℕ) → HasRead message way user marker body → Stops marker (raw_lines (drop body message)) → body ≡ 0 → HasLeadingLines message [] 0
no_envelope message way user marker body k stops none =
    subst (λ (b : ℕ). HasLeadingLines message [] b) none (subst (λ (s : List Sender). HasLeadingLines message s body) (no_senders k.senders k.some) (has_lines k stops))
  where
    no_senders : (senders : List Sender) → HasSenders senders body → senders ≡ []
    no_senders [] h = refl
    no_senders (s ∷ senders) h = absurd (omega (arith, none, h))

-- some sender, and the way back
pub record HasWay (message way user : List ℕ) (body : ℕ) : Type 0 where
  pub first : Sender
  pub others : List Sender
  pub lines : HasLeadingLines message (first ∷ others) body
  pub text : way ++ user ≡ way_back first others

sites_whole : (senders : List Sender) (user : List ℕ) → sites_of senders ++ user ≡ whole (map (λ s. s.site) senders) user
sites_whole [] user = refl
sites_whole (s ∷ senders) user =
    append_assoc (s.site ++ 33 ∷ []) (sites_of senders) user ∙ append_assoc s.site (33 ∷ []) (sites_of senders ++ user)
    ∙ ap (λ t. s.site ++ (33 ∷ t)) (sites_whole senders user) ∙ sym (whole-cons s.site (map (λ s. s.site) senders) user)

pub has_way : (message way user marker : List ℕ) (body : ℕ) → HasRead message way user marker body → Stops marker (raw_lines (drop body message)) → 0 < body → HasWay message way user body
has_way message way user marker body k stops some = by_senders k.senders k.some (has_lines k stops) k.way_is k.user_is
  where
    by_senders : (senders : List Sender) → HasSenders senders body → HasLeadingLines message senders body → way ≡ sites_of senders → user ≡ user_of senders → HasWay message way user body
    by_senders [] none lines ew eu = absurd (omega (arith, none))
    by_senders (s ∷ senders) h lines ew eu = record { first = s; others = senders; lines = lines; text = (λ i. ew i ++ eu i) ∙ sites_whole (s ∷ senders) (last_user s senders) }

pub is_return_path : (message way user : List ℕ) (body : ℕ) (path : List ℕ) → HasWay message way user body → path ≡ way ++ user → IsPathText path → IsReturnPath message path body
is_return_path message way user body path w e p = record { first = w.first; others = w.others; lines = w.lines; is_path = p; is_text = e ∙ w.text }

pub is_return_fault : (message way user : List ℕ) (body : ℕ) (fault : NameFault) → HasWay message way user body → IsPathFault (way ++ user) fault → IsReturnFault message fault
is_return_fault message way user body (BadPath at) w f = record { first = w.first; others = w.others; body = body; lines = w.lines; fault_of = subst (λ (t : List ℕ). IsPathFault t (BadPath at)) w.text f }
is_return_fault message way user body TooLong w f = record { first = w.first; others = w.others; body = body; lines = w.lines; fault_of = subst (λ (t : List ℕ). IsPathFault t TooLong) w.text f }
is_return_fault message way user body Memory w f = tt
is_return_fault message way user body BadGrade w f = absurd f
is_return_fault message way user body (BadName at) w f = absurd f
is_return_fault message way user body (BadWord at) w f = absurd f
is_return_fault message way user body NoEnvelope w f = absurd f
