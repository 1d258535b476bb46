use Rattle.std.proofs.Common.{rules}
use Rattle.model.specs.Judge.{code_of}
use Rattle.service.proofs.events.code_of.Goals as goal

pub returns-in-Done : goal.returns-in-Done
unfolding code_of
returns-in-Done c = search rules

pub returns-in-Sleep : goal.returns-in-Sleep
unfolding code_of
returns-in-Sleep c = search rules

pub returns-in-Again : goal.returns-in-Again
unfolding code_of
returns-in-Again c = search rules

pub returns-in-Range : goal.returns-in-Range
unfolding code_of
returns-in-Range c = search rules
