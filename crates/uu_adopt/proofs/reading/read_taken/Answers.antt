use Rattle.uu_schema.specs.declared.version.Version.TheVariants.{Third, Fourth}
use Rattle.uu_adopt.proofs.reading.read_taken.Goals as goal

pub returns-in-Third : goal.returns-in-Third
returns-in-Third g c = rw c.in-Third.is (c.read_taken_of_table.ensures Third tt)

pub returns-in-Fourth : goal.returns-in-Fourth
returns-in-Fourth g c = rw c.in-Fourth.is (c.read_taken_of_table-in-Fourth.ensures Fourth tt)
