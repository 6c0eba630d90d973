use Rattle.uu_statements.proofs.changes.write.Goals as goal

pub returns-in-AddSystem : goal.returns-in-AddSystem
returns-in-AddSystem g c = rw c.in-AddSystem.is c.add_system.ensures

pub returns-in-SetDefinition : goal.returns-in-SetDefinition
returns-in-SetDefinition g c = rw c.in-SetDefinition.is c.set_definition.ensures

pub returns-in-SetCall : goal.returns-in-SetCall
returns-in-SetCall g c = rw c.in-SetCall.is c.set_call.ensures

pub returns-in-RemoveSystem : goal.returns-in-RemoveSystem
returns-in-RemoveSystem g c = rw c.in-RemoveSystem.is c.remove_system.ensures

pub returns-in-AddJob : goal.returns-in-AddJob
returns-in-AddJob g c = rw c.in-AddJob.is c.add_job.ensures

pub returns-in-SetGrade : goal.returns-in-SetGrade
returns-in-SetGrade g c = rw c.in-SetGrade.is c.set_grade.ensures

pub returns-in-SetQueued : goal.returns-in-SetQueued
returns-in-SetQueued g c = rw c.in-SetQueued.is c.set_queued.ensures

pub returns-in-RemoveJob : goal.returns-in-RemoveJob
returns-in-RemoveJob g c = rw c.in-RemoveJob.is c.remove_job.ensures

pub returns-in-AddBody : goal.returns-in-AddBody
returns-in-AddBody g c = rw c.in-AddBody.is c.add_body.ensures

pub returns-in-RemoveEntry : goal.returns-in-RemoveEntry
returns-in-RemoveEntry g c = rw c.in-RemoveEntry.is c.remove_entry.ensures

pub returns-in-AddEntry : goal.returns-in-AddEntry
returns-in-AddEntry g c = rw c.in-AddEntry.is c.add_entry.ensures

pub returns-in-SetNext : goal.returns-in-SetNext
returns-in-SetNext g c = rw c.in-SetNext.is c.set_next.ensures

pub returns-in-AddLink : goal.returns-in-AddLink
returns-in-AddLink g c = rw c.in-AddLink.is c.add_link.ensures

pub returns-in-RemoveLink : goal.returns-in-RemoveLink
returns-in-RemoveLink g c = rw c.in-RemoveLink.is c.remove_link.ensures

pub returns-in-AddTaken : goal.returns-in-AddTaken
returns-in-AddTaken g c = rw c.in-AddTaken.is c.add_taken.ensures

pub returns-in-ForgetTaken : goal.returns-in-ForgetTaken
returns-in-ForgetTaken g c = rw c.in-ForgetTaken.is c.forget_taken.ensures
