use Rattle.std.proofs.Common.{refl}
use Rattle.uu_questions.proofs.OfSystems.{alone, are_theirs, are_of_none}
use Rattle.uu_questions.proofs.systems.are_of_systems.Goals as goal

pub returns-clause-yes : goal.returns-clause-yes
returns-clause-yes c is =
    let systems = c.args.systems.now in
    are_theirs systems c.are_tables.result (c.are_tables.ensures (alone systems) (record { next = refl; systems = refl; jobs = refl; bodies = refl; entries = refl; links = refl; taken = refl })) is

pub returns-clause-no : goal.returns-clause-no
returns-clause-no c is =
    let systems = c.args.systems.now in
    are_of_none systems c.are_tables.result (c.are_tables.ensures (alone systems) (record { next = refl; systems = refl; jobs = refl; bodies = refl; entries = refl; links = refl; taken = refl })) is
