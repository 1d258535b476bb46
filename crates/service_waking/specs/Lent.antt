-- What is lent to a waking, the world that it holds, and what each rule leaves of it.
use Rattle.std.specs.Prelude.{ℕ, ◌≤◌, ◌<◌, ◌≡◌, true, List, [], length, get_or, ℤ}
use Rattle.model.specs.declared.Engine.{Engine}
use Rattle.model.specs.declared.Outcome.{Outcome}
use Rattle.model.specs.declared.Outcome.TheVariants.{Done}
use Rattle.model.specs.declared.Copies.{Copies}
use Rattle.model.specs.Limits.{semaphores}
use Rattle.model.specs.State.{Table, Sleeper, no_sleeper}
use Rattle.model.specs.Judge.{finishes}
use Rattle.model.specs.Look.{look}
use Rattle.model.specs.Waking.{World, Ended, plain, quick, waker}
use Rattle.model.specs.Events.{treat_from}
use Rattle.model.specs.Invariant.{Good, Fits, Calm, count_at}
use Rattle.host.specs.Holding.{Host, host_in, host_with, sets_in, table_in, queue_in}
use Rattle.host.specs.Queue.{QueueHeld}
use Rattle.wakings.specs.Wakings.{Place, places_in, list_of, wakings_in}
use Rattle.service_table.specs.Numbered.{Numbered}
use Rattle.service_waking.specs.declared.Tally.{Tally}

-- the host, the list of wakings, and how many of it are filled
pub record Lent : Type 0 where
  pub host : Host
  pub wakings : List Place
  pub woken : ℕ

abbrev pub lent_in : List ℕ → List ℤ → List ℕ → ℕ → Lent
lent_in h adjustments list woken = record { host = host_in h adjustments; wakings = places_in list; woken = woken }

-- the world that it holds
unfoldable pub world_in : Lent → World
world_in x = record { table = table_in x.host; queue = queue_in x.host.row; wakings = wakings_in x.woken x.wakings }

-- .. with another world in it; the sets stay
unfoldable pub lent_with : Lent → World → Lent
lent_with x w = record { host = host_with x.host w.table w.queue; wakings = list_of w.wakings; woken = length w.wakings }

-- a host with another table and queue, once an event has changed them, and a list that nobody is on
abbrev pub unwoken : Host → Table → List Sleeper → Lent
unwoken x t q = record { host = host_with x t q; wakings = list_of []; woken = 0 }

-- .. with the looks so far: what a waking leaves
pub record Left : Type 0 where
  pub lent : Lent
  pub looks : ℕ

abbrev pub left_in : List ℕ → List ℤ → List ℕ → Tally → Left
left_in h adjustments list t = record { lent = lent_in h adjustments list t.woken; looks = t.looks }

abbrev pub left_with : Lent → Ended → Left
left_with x e = record { lent = lent_with x e.world; looks = e.looks }

-- what a waking can begin with: a world in which every sleeper is as the checks left it
pub record Ready (x : Lent) : Type 0 where
  pub counts : (slot : ℕ) → count_at (sets_in x.host.row) slot ≤ semaphores
  pub holds : x ≡ lent_with x (world_in x)
  pub calm : Calm (sets_in x.host.row) (world_in x)

-- how an array was judged: its outcome, the position where judging ended, and if it is done the copies as it leaves them
pub record JudgedAs (t : Table) (s : Sleeper) (o : Outcome) (i : ℕ) (c : Copies) : Type 0 where
  pub outcome : o ≡ (look t s).outcome
  pub position : i ≡ (look t s).position
  pub copies : o ≡ Done → c ≡ (look t s).copies

-- what settling the array of the sleeper at a position asks: it is there, as the checks left it
pub record Settleable (x : Host) (at : ℕ) : Type 0 where
  pub holding : QueueHeld x.row
  pub there : at < length (queue_in x.row)
  pub fits : Fits (sets_in x.row) (get_or (queue_in x.row) at no_sleeper)
  pub numbered : Numbered (get_or (queue_in x.row) at no_sleeper).array
  pub good : Good (table_in x)

-- what finishing the sleeper at a position asks: it is there, and was judged so that it is finished
pub record Finishable (x : Lent) (at : ℕ) (o : Outcome) (i : ℕ) (c : Copies) : Type 0 where
  pub ready : Ready x
  pub there : at < length (world_in x).queue
  pub finished : finishes o ≡ true
  pub judged : JudgedAs (world_in x).table (get_or (world_in x).queue at no_sleeper) o i c

-- what each rule leaves, for a slot and the looks so far; the quick rule begins with marks
abbrev pub plainly : ℕ → Lent → ℕ → Left
plainly slot x looks = left_with x (plain (length (world_in x).queue) slot (world_in x) looks)

abbrev pub quickly : ℕ → ℕ → Lent → ℕ → Left
quickly slot marks x looks = left_with x (quick (length (world_in x).queue) slot marks (world_in x) looks)

-- what an engine leaves once it has treated a slot with these touched semaphores, or the live slots from one on
abbrev pub treated : Engine → ℕ → ℕ → Lent → ℕ → Left
treated engine slot touched x looks = left_with x (waker engine slot touched (world_in x) looks)

abbrev pub treated_from : Engine → ℕ → List ℕ → Lent → ℕ → Left
treated_from engine slot touched x looks = left_with x (treat_from (waker engine) (sets_in x.host.row) slot touched (record { world = world_in x; looks = looks }))

-- far more looks than an event can have, and few enough to count on
abbrev pub looks_max : ℕ
looks_max = 1000
