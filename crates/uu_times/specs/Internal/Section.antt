-- The sections of a sys file, as they are read.
use Rattle.std.specs.Prelude.{ℕ, ◌≤◌, Option, None, Some, IfSome, List, [], ◌∷◌, ◌++◌, length, All}
use Rattle.uu_times.specs.declared.system.Line.{Line}
use Rattle.uu_times.specs.System.{System, HasRetry, most_lines, most_retries, most_success_wait}
use Rattle.uu_times.specs.SysFile.{Part, system_of}

-- a section without lines
abbrev pub no_part : Part
no_part = record { lines = []; max_retries = None; success_wait = None }

-- within the limits of a system
abbrev pub IsWithin : List Line → Option ℕ → Option ℕ → Type 0
IsWithin lines max_retries success_wait =
    (length lines ≤ most_lines) × All HasRetry lines × IfSome max_retries (λ n. n ≤ most_retries) × IfSome success_wait (λ n. n ≤ most_success_wait)

-- the sections so far: the systems that are complete, the name of the present section, its section,
-- and the defaults
pub record Parts : Type 0 where
  pub done : List System
  pub name : Option (List ℕ)
  pub part : Part
  pub defaults : Part

abbrev pub no_parts : Parts
no_parts = record { done = []; name = None; part = no_part; defaults = no_part }

-- the systems with the present one
abbrev pub all_systems : List System → Option (List ℕ) → Part → Part → List System
all_systems done None part defaults = done
all_systems done (Some name) part defaults = done ++ system_of name part defaults ∷ []

-- the lines before the first section are the defaults
abbrev pub defaults_with : Option (List ℕ) → Part → Part → Part
defaults_with None part defaults = part
defaults_with (Some name) part defaults = defaults

-- a section begins
abbrev pub begin_part : Parts → List ℕ → Parts
begin_part parts name = record {
  done = all_systems parts.done parts.name parts.part parts.defaults;
  name = Some name;
  part = no_part;
  defaults = defaults_with parts.name parts.part parts.defaults;
}

-- a time line
abbrev pub with_line : Parts → Line → Parts
with_line parts line = record parts { part = record parts.part { lines = parts.part.lines ++ line ∷ [] } }

-- a number of failures
abbrev pub with_retries : Parts → ℕ → Parts
with_retries parts number = record parts { part = record parts.part { max_retries = Some number } }

-- a wait after a successful call
abbrev pub with_success_wait : Parts → ℕ → Parts
with_success_wait parts seconds = record parts { part = record parts.part { success_wait = Some seconds } }
