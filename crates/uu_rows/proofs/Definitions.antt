-- A definition and the bytes that are kept of it: each is got back from the other.
use Rattle.std.proofs.Common.{◌≡◌, ◌≤◌, ℕ, List, [], ◌∷◌, length, Result, Ok, Err, sym, ap, ◌∙◌, arith, length-append}
use Rattle.std.proofs.lemmas.List.Elements.{All-nil, All-cons}
use Rattle.sqlite.specs.declared.types.Value.TheVariants.{Text, Blob}
use Rattle.uu_names.specs.Text.{most_text}
use Rattle.uu_times.specs.declared.fault.TimeFault.{TimeFault}
use Rattle.uu_times.specs.declared.system.SysFile.{SysFile}
use Rattle.uu_times.specs.Printed.{IsSystem, system_text, sys_text}
use Rattle.uu_times.specs.SysFile.{sys_file_of}
use Rattle.uu_times.specs.System.{System}
use Rattle.uu_times.proofs.PrintedLengths.{length-system}
use Rattle.uu_times.proofs.PrintedSystems.{printed_read}
use Rattle.uu_tables.specs.Tables.{definition_text}

pub kept_read : (def : System) → IsSystem def → sys_file_of (definition_text def) ≡ Ok (record { systems = def ∷ []; skipped = [] })
unfolding definition_text
kept_read def good = printed_read (def ∷ []) (All-cons IsSystem def [] good (All-nil IsSystem)) (All-nil (λ other. ¬ (def.name ≡ other.name)), tt)

pub kept_short : (def : System) → IsSystem def → length (definition_text def) ≤ most_text
unfolding definition_text
kept_short def good = omega (arith, length-append (system_text def) [], length-system def good)

pub kept_text : (def : System) (bytes : List ℕ) → bytes ≡ sys_text (def ∷ []) → bytes ≡ definition_text def
unfolding definition_text
kept_text def bytes is = is

-- ---- back to the definition

abbrev first_of : List System → System
first_of [] = record { name = []; lines = []; max_retries = 0; success_wait = 0 }
first_of (def ∷ defs) = def

abbrev in_file : Result SysFile TimeFault → System
in_file (Ok file) = first_of file.systems
in_file (Err fault) = first_of []

-- plain, so that no text is read where this is met
pub definition_back : List ℕ → System
definition_back bytes = in_file (sys_file_of bytes)

pub definition_returns : (def : System) → IsSystem def → definition_back (definition_text def) ≡ def
unfolding definition_back
definition_returns def good = ap in_file (kept_read def good)

-- no two definitions are kept as the same bytes
pub same_definition : (a b : System) → IsSystem a → IsSystem b → definition_text a ≡ definition_text b → a ≡ b
same_definition a b good also same = sym (definition_returns a good) ∙ ap definition_back same ∙ definition_returns b also

-- ---- what columns hold

pub text_is : (a b : List ℕ) → Text a ≡ Text b → a ≡ b
text_is a b h = cc

pub blob_is : (a b : List ℕ) → Blob a ≡ Blob b → a ≡ b
blob_is a b h = cc
