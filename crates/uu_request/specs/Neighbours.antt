-- Which lines exchange bundles with a neighbour, and when a site doesn't do so (this project's
-- choice).
use Rattle.std.specs.Prelude.{ℕ, List, Option, Some, None, if◌then◌else◌, is_some}
use Rattle.uu_line.specs.Lines.{same_text}
use Rattle.uu_line.specs.declared.task.Task.{Task}
use Rattle.uu_line.specs.declared.task.Task.TheVariants as task
use Rattle.uu_settings.specs.declared.settings.Settings.{Settings}
use Rattle.uu_request.specs.declared.fault.WrongBundle.{WrongBundle}
use Rattle.uu_request.specs.declared.fault.WrongBundle.TheVariants.{OwnSite, Sealed}

-- the site with which a task exchanges bundles
abbrev pub neighbour_of : Task → Option (List ℕ)
neighbour_of (task.Pack system grade spool after most no_jobs) = Some system
neighbour_of (task.Unpack sender onward) = Some sender
neighbour_of (task.Settle system spool) = Some system
neighbour_of (task.Answer sender onward grade spool after most no_jobs) = Some sender
neighbour_of other = None

-- Why the site of these settings exchanges no bundles with this one: its bundles are sealed, and
-- these settings are for texts that aren't; or it is the site itself.
abbrev pub wrong_neighbour : Settings → Option (List ℕ) → Option WrongBundle
wrong_neighbour settings None = None
wrong_neighbour settings (Some name) =
    if is_some settings.seals then Some Sealed else if same_text name settings.name then Some OwnSite else None
