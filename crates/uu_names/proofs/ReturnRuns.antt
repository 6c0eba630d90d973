-- A text has one run of leading lines, so that it has one way back at most.
use Rattle.std.proofs.Common.{◌≡◌, ℕ, ◌+◌, ◌-◌, List, [], ◌∷◌, ◌++◌, length, take, drop, Some, position, refl, ap, sym, ◌∙◌, subst, arith}
use Rattle.std.specs.List.{concat, suffix_len}
use Rattle.std.proofs.lemmas.List.Sums.{suffix_len-le-length}
use Rattle.uu_names.specs.declared.fault.NameFault.{NameFault}
use Rattle.uu_names.specs.declared.fault.NameFault.TheVariants.{BadGrade, BadName, BadPath, BadWord, NoEnvelope, TooLong, Memory}
use Rattle.uu_names.specs.Fault.{UnlessMemory}
use Rattle.uu_names.specs.Path.{IsPathText}
use Rattle.uu_names.specs.ReturnPath.{content, is_no_space, Sender, IsLeadingLine, first_marker, later_marker, AreLeadingLines, next_marker, Stops, HasLeadingLines, way_back, IsReturnPath, HasBadWay, IsReturnFault}
use Rattle.uu_names.proofs.PathScan.{fault_no_path}
use Rattle.uu_names.proofs.ReturnSenders.{is_space, IsRead, is_read, ReadsAs, reads_as}

-- a line says one thing at most
pub one_sender : (marker line : List ℕ) (one other : Sender) → IsLeadingLine marker line one → IsLeadingLine marker line other → one ≡ other
one_sender marker line one other l m =
    let a = reads one r in
    let b = reads other (is_read marker line other m) in
    λ i. record { user = (sym a.same_user ∙ b.same_user) i; site = (sym a.same_site ∙ b.same_site) i }
  where
    rest : List ℕ
    rest = drop (length marker) line

    r : IsRead marker line one
    r = is_read marker line one l

    back : List ℕ
    back = drop (length one.user) rest

    k : ℕ
    k = length back - suffix_len is_no_space back

    at : Some (length one.user) ≡ position is_space rest
    at = sym (ap (position is_space) r.rest ∙ r.space)

    len : k + suffix_len is_no_space back ≡ length back
    len = omega (arith, suffix_len-le-length is_no_space back)

    reads : (sender : Sender) (s : IsRead marker line sender) → ReadsAs (take (length one.user) rest) (take k back) (drop k back) sender s.front
    reads sender s =
        reads_as marker line rest (take (length one.user) rest) back (take k back) (drop k back) (length one.user) k sender s refl at refl refl len refl refl

-- ---- one run

-- the marker of the line after those of these senders, if the first line has this one
abbrev marker_after : List ℕ → List Sender → List ℕ
marker_after marker [] = marker
marker_after marker (sender ∷ senders) = later_marker

from_first : (senders : List Sender) (others : List (List ℕ)) → Stops (next_marker senders) others → Stops (marker_after first_marker senders) others
from_first [] others stop = stop
from_first (sender ∷ senders) others stop = stop

from_later : (senders : List Sender) (others : List (List ℕ)) → Stops later_marker others → Stops (marker_after later_marker senders) others
from_later [] others stop = stop
from_later (sender ∷ senders) others stop = stop

stops_there : (marker : List ℕ) (lines : List (List ℕ)) (line : List ℕ) (more : List (List ℕ)) (sender : Sender) → lines ≡ line ∷ more → Stops marker lines → IsLeadingLine marker (content line) sender → ⊥
stops_there marker lines line more sender e stop l =
    let stop_here : Stops marker (line ∷ more) = subst (λ (ls : List (List ℕ)). Stops marker ls) e stop in stop_here sender l

one_run : (marker : List ℕ) (leading rest leading' rest' : List (List ℕ)) (senders senders' : List Sender) → leading ++ rest ≡ leading' ++ rest' → AreLeadingLines marker leading senders → AreLeadingLines marker leading' senders' → Stops (marker_after marker senders) rest → Stops (marker_after marker senders') rest' → (senders ≡ senders') × (leading ≡ leading')
one_run marker [] rest [] rest' [] [] e say say' stop stop' = (refl, refl)
one_run marker [] rest [] rest' [] (s' ∷ senders') e say say' stop stop' = absurd say'
one_run marker [] rest (l' ∷ leading') rest' [] [] e say say' stop stop' = absurd say'
one_run marker [] rest (l' ∷ leading') rest' [] (s' ∷ senders') e say say' stop stop' =
    absurd (stops_there marker rest l' (leading' ++ rest') s' e stop say'.0)
one_run marker [] rest leading' rest' (s ∷ senders) senders' e say say' stop stop' = absurd say
one_run marker (l ∷ leading) rest leading' rest' [] senders' e say say' stop stop' = absurd say
one_run marker (l ∷ leading) rest [] rest' (s ∷ senders) [] e say say' stop stop' =
    absurd (stops_there marker rest' l (leading ++ rest) s (sym e) stop' say.0)
one_run marker (l ∷ leading) rest [] rest' (s ∷ senders) (s' ∷ senders') e say say' stop stop' = absurd say'
one_run marker (l ∷ leading) rest (l' ∷ leading') rest' (s ∷ senders) [] e say say' stop stop' = absurd say'
one_run marker (l ∷ leading) rest (l' ∷ leading') rest' (s ∷ senders) (s' ∷ senders') e say say' stop stop' =
    let h : l ≡ l' = cc in
    let t : leading ++ rest ≡ leading' ++ rest' = cc in
    let same = one_sender marker (content l') s s' (subst (λ (line : List ℕ). IsLeadingLine marker (content line) s) h say.0) say'.0 in
    let next = one_run later_marker leading rest leading' rest' senders senders' t say.1 say'.1 (from_later senders rest stop) (from_later senders' rest' stop') in
    (λ i. same i ∷ next.0 i, λ i. h i ∷ next.1 i)

pub one_run_of : (text : List ℕ) (senders others : List Sender) (body end : ℕ) → HasLeadingLines text senders body → HasLeadingLines text others end → (senders ≡ others) × (body ≡ end)
one_run_of text senders others body end h k =
    let same =
    one_run first_marker h.leading h.others k.leading k.others senders others (sym h.lines ∙ k.lines) h.say k.say (from_first senders h.others h.longest) (from_first others k.others k.longest) in
    (same.0, h.start ∙ ap (λ lines. length (concat lines)) same.1 ∙ sym k.start)

-- ---- one way back

same_way : (first other : Sender) (senders others : List Sender) → first ∷ senders ≡ other ∷ others → way_back first senders ≡ way_back other others
same_way first other senders others e =
    let h : first ≡ other = cc in
    let t : senders ≡ others = cc in
    λ i. way_back (h i) (t i)

pub one_way_back : (text path other : List ℕ) (body end : ℕ) → IsReturnPath text path body → IsReturnPath text other end → (path ≡ other) × (body ≡ end)
one_way_back text path other body end p q =
    let same = one_run_of text (p.first ∷ p.others) (q.first ∷ q.others) body end p.lines q.lines in
    (p.is_text ∙ same_way p.first q.first p.others q.others same.0 ∙ sym q.is_text, same.1)

-- ---- a refusal

nil-cons : (sender : Sender) (senders : List Sender) → [] ≡ sender ∷ senders → ⊥
nil-cons sender senders e = cc

no_way : (text path : List ℕ) (body : ℕ) (fault : NameFault) (w : HasBadWay text fault) → ¬ IsPathText (way_back w.first w.others) → ¬ IsReturnPath text path body
no_way text path body fault w none p =
    let same = one_run_of text (p.first ∷ p.others) (w.first ∷ w.others) body w.body p.lines w.lines in
    none (subst IsPathText (p.is_text ∙ same_way p.first w.first p.others w.others same.0) p.is_path)

-- what is refused has no way back that is a path
pub fault_no_way : (text : List ℕ) (fault : NameFault) → IsReturnFault text fault → UnlessMemory fault ((path : List ℕ) (body : ℕ) → ¬ IsReturnPath text path body)
fault_no_way text NoEnvelope f = λ path body p. nil-cons p.first p.others (one_run_of text [] (p.first ∷ p.others) 0 body f p.lines).0
fault_no_way text (BadPath at) f = λ path body. no_way text path body (BadPath at) f (fault_no_path (way_back f.first f.others) (BadPath at) f.fault_of)
fault_no_way text TooLong f = λ path body. no_way text path body TooLong f (fault_no_path (way_back f.first f.others) TooLong f.fault_of)
fault_no_way text Memory f = tt
fault_no_way text BadGrade f = absurd f
fault_no_way text (BadName at) f = absurd f
fault_no_way text (BadWord at) f = absurd f
