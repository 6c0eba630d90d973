use Rattle.uu_core.specs.Definitions.{definitions_of}
use Rattle.uu_core.proofs.DefinitionLaws.{defined_again, printed_names, printed_systems, short_text}
use Rattle.uu_core.proofs.laws.definitions_are_read_back.Goals as goal

pub returns-clause-read : goal.returns-clause-read
returns-clause-read c state name good =
    c.printed_systems_are_read.ensures.read (definitions_of name state.systems) (printed_systems state good name) (printed_names state good name)

pub returns-clause-short : goal.returns-clause-short
returns-clause-short c state name good = short_text state name c.printed_systems_are_read.ensures.short good

pub returns-clause-again : goal.returns-clause-again
returns-clause-again c = defined_again
