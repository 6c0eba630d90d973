-- The lists of the machine as a program, and what a command makes of them.
use Rattle.std.specs.Prelude.{◌≡◌, Result, MatchResult}
use Rattle.uu_core.specs.declared.command.Command.{Command}
use Rattle.uu_core.specs.declared.command.Reply.{Reply}
use Rattle.uu_core.specs.State.{State}
use Rattle.uu_core.specs.After.{after}
use Rattle.uu_plain.specs.declared.lists.Lists.{Lists}

-- the state that the lists hold
abbrev pub state_of : Lists → State
state_of lists = record { jobs = lists.jobs.items; systems = lists.systems.items; entries = lists.entries.items; next = lists.next; links = lists.links.items }

-- the command was carried out or refused with that reply, or there was no memory and nothing
-- changed
abbrev pub IsGiven : {E : Type 0} → State → Command → Result Reply E → State → Type 0
IsGiven old command result new = MatchResult result (λ reply. (new, reply) ≡ after old command) (λ _. new ≡ old)
