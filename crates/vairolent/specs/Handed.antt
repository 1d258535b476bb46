-- What an event leaves and tells, as a caller in another language has it.
use Rattle.std.specs.Prelude.{ℕ, Bool, true, false, cond, List, ℤ, Some, None}
use Rattle.model.specs.declared.Told.{Told}
use Rattle.host.specs.Holding.{Host, host_in}
use Rattle.wakings.specs.Wakings.{Place, places_in}
use Rattle.service.specs.After.{After, telling_at}
use Rattle.vairolent.specs.declared.Decided.{Decided}
use Rattle.vairolent.specs.declared.Reported.{Reported}
use Rattle.model.specs.Judge.{Position}
use Rattle.model.specs.State.{Wait}

-- the operation that decided: whether there is one, and its position, 0 if there is none
abbrev pub decided_of : Position → Decided
decided_of None = record { there = false; at = 0 }
decided_of (Some k) = record { there = true; at = k }

-- the wait of an operate: whether there is one, and its milliseconds
abbrev pub wait_by : Bool → ℕ → Wait
wait_by true n = Some n
wait_by false n = None

-- all that an event tells
abbrev pub report_of : Told → Reported
report_of t = record { code = t.code; value = t.value; looks = t.looks; woken = t.woken; position = decided_of t.position }

pub record Handed : Type 0 where
  pub host : Host
  pub wakings : List Place
  pub reported : Reported

-- what stands in what was lent, with what was returned
abbrev pub handed_in : List ℕ → List ℤ → List ℕ → Reported → Handed
handed_in h adjustments list r = record { host = host_in h adjustments; wakings = places_in list; reported = r }

-- .. of what an event of the service leaves
abbrev pub handed_of : After → Handed
handed_of y = record { host = y.host; wakings = y.wakings; reported = report_of y.told }

-- ---- read back

abbrev pub position_by : Decided → Position
position_by d = cond d.there (Some d.at) None

abbrev pub told_by : Reported → Told
told_by r = telling_at r.code (position_by r.position) r.value r.looks r.woken

abbrev pub after_by : Handed → After
after_by y = record { host = y.host; wakings = y.wakings; told = told_by y.reported }
