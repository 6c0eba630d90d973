-- What a list of commands makes of a state, one after the other.
use Rattle.std.specs.Prelude.{List, [], ◌∷◌}
use Rattle.uu_core.specs.declared.command.Command.{Command}
use Rattle.uu_core.specs.declared.command.Reply.{Reply}
use Rattle.uu_core.specs.State.{State}
use Rattle.uu_core.specs.After.{after}

-- the final state
abbrev pub state_after : State → List Command → State
state_after state [] = state
state_after state (command ∷ commands) = state_after (after state command).0 commands

-- the replies in order
abbrev pub replies_to : State → List Command → List Reply
replies_to state [] = []
replies_to state (command ∷ commands) = (after state command).1 ∷ replies_to (after state command).0 commands

abbrev pub run : State → List Command → State × List Reply
run state commands = (state_after state commands, replies_to state commands)
