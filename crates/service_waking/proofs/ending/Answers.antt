use Rattle.model.specs.Judge.{code_of}
use Rattle.service_waking.proofs.ending.Goals as goal

pub returns-in-Done : goal.returns-in-Done
unfolding code_of
returns-in-Done c = rw c.in-Done.is

pub returns-in-Sleep : goal.returns-in-Sleep
unfolding code_of
returns-in-Sleep c = rw c.in-Sleep.is

pub returns-in-Again : goal.returns-in-Again
unfolding code_of
returns-in-Again c = rw c.in-Again.is

pub returns-in-Range : goal.returns-in-Range
unfolding code_of
returns-in-Range c = rw c.in-Range.is
