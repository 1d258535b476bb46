-- An export hands on what an event of the service leaves and tells. Read back, that is the service's own promise, and so a case of
-- its calls (crates/service/specs/Calls.antt): nothing of an answer is lost on the way to C.
use mathlib.Core.Path.{◌≡◌, refl, ap, ◌∙◌}
use mathlib.Core.List.{List}
use Rattle.model.specs.declared.Told.{Told}
use Rattle.host.specs.Holding.{Host}
use Rattle.wakings.specs.Wakings.{Place}
use Rattle.service.specs.After.{After}
use Rattle.vairolent.specs.declared.Reported.{Reported}
use Rattle.vairolent.specs.Handed.{decided_of, report_of, Handed, handed_of, position_by, after_by}
use Rattle.std.specs.Prelude.{Some, None}
use Rattle.model.specs.Judge.{Position}

-- what an export returns, from what the service tells
pub handed : {x : Host} {l : List Place} {t : Told} {r : Reported} {y : After} → r ≡ report_of t → record { host = x; wakings = l; told = t } ≡ y
    → record { host = x; wakings = l; reported = r } ≡ handed_of y
handed {x} {l} e p = ap (λ (r : Reported). record { host = x; wakings = l; reported = r }) e ∙ ap handed_of p

position_back : (p : Position) → position_by (decided_of p) ≡ p
position_back None = refl
position_back (Some k) = refl

-- read back
pub called : {z : Handed} {y : After} → z ≡ handed_of y → after_by z ≡ y
called {z} {y} e =
    ap after_by e
    ∙ ap (λ (p : Position). record { host = y.host; wakings = y.wakings; told = record { code = y.told.code; value = y.told.value; looks = y.told.looks; woken = y.told.woken; position = p } })
    (position_back y.told.position)
