use Rattle.uu_schema.specs.declared.version.Version.TheVariants.{Second, Third}
use Rattle.uu_adopt.proofs.reading.read_waits.Goals as goal

pub returns-in-Second : goal.returns-in-Second
returns-in-Second g c = rw c.in-Second.is (c.read_waits_of_table.ensures Second tt)

pub returns-in-Third : goal.returns-in-Third
returns-in-Third g c = rw c.in-Third.is (c.read_waits_of_table-in-Third.ensures Third tt)
