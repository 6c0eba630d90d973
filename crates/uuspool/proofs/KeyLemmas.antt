-- Which jobs a bundle hands in, and which of them would be refused.
use Rattle.std.proofs.Common.{◌≡◌, ◌∙◌, ◌==◌, ◌&&◌, ◌||◌, ℕ, ◌+◌, ◌<◌, Bool, true, false, ap₂, List, [], ◌∷◌, ◌++◌, append_assoc, append-nil, cond, get_or, length, map, take, ap, arith, refl, sym}
use Rattle.std.proofs.lemmas.List.{map-append, take_more}
use Rattle.std.proofs.lemmas.List.Concat.{flat_map-append}
use Rattle.std.proofs.lemmas.List.Folds.{list_any-append}
use Rattle.std.proofs.lemmas.Bool.Decides.{nat_tests}
use Rattle.std.specs.List.{list_any}
use Rattle.std.proofs.lemmas.Cmp.{ranked}
use Rattle.std.specs.Ordering.{MatchOrdering, is_eq, nat_cmp, ordering_then}
use Rattle.std.specs.declared.cmp.Ordering.{Ordering}
use Rattle.std.specs.declared.cmp.Ordering.TheVariants.{Less, Equal, Greater}
use Rattle.std.proofs.Math.Bool.{or-false}
use Rattle.uu_bundle.specs.Bundles.{records_text, text_with_refused}
use Rattle.uu_bundle.specs.Texts.{record_text}
use Rattle.uu_bundle.specs.declared.bundle.Record.TheVariants.{No}
use Rattle.uu_bundle.specs.declared.bundle.Refused.{Refused}
use Rattle.uu_core.specs.State.{State}
use Rattle.uu_core.specs.Verdict.{verdict}
use Rattle.uu_core.specs.declared.command.Command.{Command}
use Rattle.uu_core.specs.declared.command.Command.TheVariants.{Define, Remove, Queue, QueueOnce, Kill, Regrade, Rejuvenate, Failed, Done, Release, Entry, Forget}
use Rattle.uu_core.specs.declared.custody.Taken.{Taken}
use Rattle.uuspool.specs.Bundles.{hands_in, refused_among, refused_for}
use Rattle.uuspool.specs.Internal.Keys.{is_of_key}

-- ---- keys

same_number : (a b : ℕ) → is_eq (nat_cmp a b) ≡ (a == b)
same_number a b = go (nat_cmp a b) (ranked a b (nat_cmp a b) refl)
  where
    go : (r : Ordering) → MatchOrdering r (a < b) (a ≡ b) (b < a) → is_eq r ≡ (a == b)
    go Less less = grind (arith, nat_tests, less)
    go Equal equal = grind (arith, nat_tests, equal)
    go Greater less = grind (arith, nat_tests, less)

-- the key is there, or it is another's
pub key_found : (number mark other other_mark : ℕ) (old : Bool)
    → cond (is_eq (ordering_then (nat_cmp number other) (nat_cmp mark other_mark))) true old ≡ (old || (number == other && mark == other_mark))
key_found number mark other other_mark old =
    ap (λ b. cond b true old) (both (nat_cmp number other) (nat_cmp mark other_mark) ∙ ap₂ (λ a b. a && b) (same_number number other) (same_number mark other_mark))
    ∙ other_way (number == other && mark == other_mark) old
  where
    both : (a b : Ordering) → is_eq (ordering_then a b) ≡ (is_eq a && is_eq b)
    both Less b = refl
    both Equal b = refl
    both Greater b = refl

    other_way : (b old : Bool) → cond b true old ≡ (old || b)
    other_way true true = refl
    other_way true false = refl
    other_way false true = refl
    other_way false false = refl

-- one command more
pub keys_more : (number mark : ℕ) (commands : List Command) (i : ℕ) (command : Command) → i < length commands → command ≡ get_or commands i command
    → (list_any (is_of_key number mark) (take i commands) || is_of_key number mark command) ≡ list_any (is_of_key number mark) (take (i + 1) commands)
keys_more number mark commands i command inside is =
    sym (ap (list_any (is_of_key number mark)) (take_more commands i command inside ∙ ap (λ c. take i commands ++ c ∷ []) (sym is))
    ∙ list_any-append (is_of_key number mark) (take i commands) (command ∷ [])
    ∙ ap (λ b. list_any (is_of_key number mark) (take i commands) || b) (or-false (is_of_key number mark command)))

-- the row that was taken is of one of the keys
pub handed_in : (one : Taken) (commands : List Command) → list_any (is_of_key one.number one.mark) commands ≡ list_any (hands_in one) commands
handed_in one [] = refl
handed_in one (command ∷ commands) = ap₂ (λ a b. a || b) (same command) (handed_in one commands)
  where
    same : (command : Command) → is_of_key one.number one.mark command ≡ hands_in one command
    same (QueueOnce key job) = refl
    same (Define def) = refl
    same (Remove name) = refl
    same (Queue job) = refl
    same (Kill job by) = refl
    same (Regrade job grade by) = refl
    same (Rejuvenate job at by) = refl
    same (Failed system at why) = refl
    same (Done system at jobs) = refl
    same (Release system jobs) = refl
    same (Entry bytes) = refl
    same (Forget system below) = refl

-- ---- what would be refused

pub no_commands : (commands : List Command) → (let empty : List Command = [] in empty ≡ take 0 commands)
no_commands [] = refl
no_commands (command ∷ commands) = refl

-- nothing is added
pub none_refused : (text : List ℕ) → text ≡ text_with_refused text []
none_refused text = sym (append-nil text)

-- first these, and then those
refused_more : (text : List ℕ) (first then : List Refused) → text_with_refused (text_with_refused text first) then ≡ text_with_refused text (first ++ then)
refused_more text first then =
    append_assoc text (records_text (map No first)) (records_text (map No then))
    ∙ ap (λ records. text ++ records) (sym (ap records_text (map-append No first then) ∙ flat_map-append record_text (map No first) (map No then)))

-- what one command more hands in
pub refusals_more : (s : State) (text : List ℕ) (commands : List Command) (i : ℕ) (command : Command) → i < length commands → command ≡ get_or commands i command
    → text_with_refused (text_with_refused text (refused_among (take i commands) s)) (refused_for command (verdict s command)) ≡ text_with_refused text (refused_among (take (i + 1) commands) s)
refusals_more s text commands i command inside is =
    refused_more text (refused_among (take i commands) s) (refused_for command (verdict s command))
    ∙ ap (text_with_refused text)
    (ap (λ more. refused_among (take i commands) s ++ more) (sym (append-nil (refused_for command (verdict s command))))
    ∙ sym (ap (λ l. refused_among l s) (take_more commands i command inside ∙ ap (λ c. take i commands ++ c ∷ []) (sym is))
    ∙ flat_map-append (λ (c : Command). refused_for c (verdict s c)) (take i commands) (command ∷ [])))
