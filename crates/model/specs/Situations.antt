-- "Situations on the reviewer's desk", and from 14 on those that show rules of document 02: a table of events and of what each
-- must show. proofs/Situations.antt proves every row.
use Rattle.std.specs.Prelude.{ℕ, zero, suc, ◌+◌, ◌*◌, ◌-◌, ◌/◌, ◌%◌, ◌≡◌, List, [], ◌∷◌, ◌++◌, map, replicate, ℤ, pos, negsuc, Some, None}
use Rattle.model.specs.declared.Engine.{Engine}
use Rattle.model.specs.declared.Engine.TheVariants.{Plain, Quick}
use Rattle.model.specs.declared.Waking.{Waking}
use Rattle.model.specs.Limits.{processes}
use Rattle.model.specs.State.{Callers, State, free_set, fresh_table, fresh_callers, fresh_state}
use Rattle.model.specs.Waking.{waking}
use Rattle.model.specs.Events as events
use Rattle.model.specs.Events.{Event, create, set_value, remove, exit, query, set_all, read_all, clock, act_as, Read, Answer, answer_at, answer, nothing_seen, Result}
use Rattle.model.specs.Runs.{run}

-- ---- operations and values

-- sixteen bits of a signed amount, and two bytes of sixteen bits
abbrev bits16 : ℤ → ℕ
bits16 (pos n) = n
bits16 (negsuc n) = 65535 - n

abbrev bytes2 : ℕ → List ℕ
bytes2 n = n % 256 ∷ n / 256 ∷ []

-- the six bytes of an operation: number, amount, flags
abbrev op : ℕ → ℤ → ℕ → List ℕ
op number amount flags = bytes2 number ++ bytes2 (bits16 amount) ++ bytes2 flags

-- .. so many times
abbrev times : ℕ → List ℕ → List ℕ
times zero o = []
times (suc n) o = o ++ times n o

abbrev none : ℕ
none = 0

abbrev no_wait : ℕ
no_wait = 2048

abbrev undo : ℕ
undo = 4096

abbrev minus : ℕ → ℤ
minus n = negsuc (n - 1)

-- thirty-two bits of a signed value, and the four bytes of each of several
abbrev bits32 : ℤ → ℕ
bits32 (pos n) = n
bits32 (negsuc n) = 4294967295 - n

abbrev values : List ℤ → List ℕ
values [] = []
values (v ∷ vs) = bytes2 (bits32 v % 65536) ++ bytes2 (bits32 v / 65536) ++ values vs

-- ---- calls

-- an array of a process at a set, without a wait
abbrev operate : ℕ → ℤ → List ℕ → Event
operate process set operations = events.operate process set None operations

-- .. that waits so many milliseconds at most
abbrev within : ℕ → ℕ → ℤ → List ℕ → Event
within wait process set operations = events.operate process set (Some wait) operations

-- ---- rows

-- an event, and what it shows: its answer, looks of the plain and of the quick rule, wakings
pub record Step : Type 0 where
  pub event : Event
  pub answer : Answer
  pub plain : ℕ
  pub quick : ℕ
  pub wakings : List Waking

-- the events of a situation, from a state on
pub record Situation : Type 0 where
  pub start : State
  pub steps : List Step

-- what an engine shows of an event
pub record Shown : Type 0 where
  pub answer : Answer
  pub looks : ℕ
  pub wakings : List Waking

abbrev shown : Result → Shown
shown r = record { answer = r.answer; looks = r.looks; wakings = r.wakings }

abbrev expected : Engine → Step → Shown
expected Plain s = record { answer = s.answer; looks = s.plain; wakings = s.wakings }
expected Quick s = record { answer = s.answer; looks = s.quick; wakings = s.wakings }

-- an engine shows what the row says
abbrev pub Shows : Engine → Situation → Type 0
Shows engine r = map shown (run engine r.start (map (λ (s : Step). s.event) r.steps)).results ≡ map (expected engine) r.steps

-- .. and so does the other
abbrev pub Holds : Situation → Type 0
Holds r = (engine : Engine) → Shows engine r

-- ---- the table

-- an event that shows an answer; a code alone
abbrev answers : Event → Answer → Step
answers e a = record { event = e; answer = a; plain = 0; quick = 0; wakings = [] }

abbrev gives : Event → ℤ → Step
gives e code = answers e (answer code)

-- a code by judging, and the position of the operation that decided
abbrev stops : Event → ℤ → ℕ → Step
stops e code position = answers e (answer_at code (Some position))

-- with code 0: a value; looks and wakings
abbrev tells : Event → ℕ → Step
tells e value = answers e (record { code = pos 0; position = None; value = value; seen = nothing_seen; all = [] })

abbrev wakes : Event → ℕ → ℕ → List Waking → Step
wakes e plain quick wakings = record { event = e; answer = answer (pos 0); plain = plain; quick = quick; wakings = wakings }

-- a query that shows a value and a last process, and that nobody waits
abbrev sees : Event → ℕ → ℕ → Step
sees e value last = answers e (record { code = pos 0; position = None; value = value; seen = record { last = last; increase = 0; zero = 0; increase_mask = 0; zero_mask = 0 }; all = [] })

-- a reading that shows the semaphores of a set: of each its value, and how many wait for an increase and for zero
abbrev reads : Event → List Read → Step
reads e all = answers e (record { code = pos 0; position = None; value = 0; seen = nothing_seen; all = all })

abbrev at : ℕ → ℕ → ℕ → Read
at value increase for_zero = record { value = value; increase = increase; zero = for_zero }

-- a waking with a code alone; one with 11 or 34, and the position of the operation that decided
abbrev woken : ℕ → ℤ → Waking
woken process code = waking process code None

abbrev ended : ℕ → ℤ → ℕ → Waking
ended process code position = waking process code (Some position)

abbrev done : ℤ
done = pos 0

abbrev asleep : ℤ
asleep = minus 1

-- the nine permission bits: of the owner, of the owning group, of any other
abbrev bits : ℕ → ℕ → ℕ → ℕ
bits owner group other = owner * 64 + group * 8 + other

-- on a fresh host, a set with so many semaphores that all may read and alter, whose identifier is 0. Process 8 makes it, and sets,
-- reads and removes it in the rows below: it is awake all the while.
abbrev fresh : ℕ → List Step → Situation
fresh count steps = record { start = fresh_state; steps = tells (create 8 count (bits 6 6 6)) 0 ∷ steps }

-- the set of these rows, and a second one
abbrev set0 : ℤ
set0 = pos 0

abbrev set1 : ℤ
set1 = pos 1

-- 1: value 0, array +1, -1 on it: done, value 0. Array -1, +1: asleep.
abbrev pub situation1 : Situation
situation1 =
    fresh 1
    (gives (operate 1 set0 (op 0 (pos 1) none ++ op 0 (minus 1) none)) done
    ∷ sees (query 8 set0 0) 0 1
    ∷ stops (operate 1 set0 (op 0 (minus 1) none ++ op 0 (pos 1) none)) asleep 0
    ∷ [])

-- 2: 32,766 and +1 gives 32,767; once more: 34.
abbrev pub situation2 : Situation
situation2 =
    fresh 1
    (gives (set_value 8 set0 0 (pos 32766)) done
    ∷ gives (operate 1 set0 (op 0 (pos 1) none)) done
    ∷ sees (query 8 set0 0) 32767 1
    ∷ stops (operate 2 set0 (op 0 (pos 1) none)) (pos 34) 0
    ∷ sees (query 8 set0 0) 32767 1
    ∷ [])

-- 3: 32,767 and -32,768 with IPC_NOWAIT: 11; without: asleep.
abbrev pub situation3 : Situation
situation3 =
    fresh 1
    (gives (set_value 8 set0 0 (pos 32767)) done
    ∷ stops (operate 1 set0 (op 0 (minus 32768) no_wait)) (pos 11) 0
    ∷ stops (operate 1 set0 (op 0 (minus 32768) none)) asleep 0
    ∷ [])

-- 4: process 1 does +3 with undo on 0, process 2 does -2, 1 exits: value 0.
abbrev pub situation4 : Situation
situation4 =
    fresh 1
    (gives (operate 1 set0 (op 0 (pos 3) undo)) done
    ∷ gives (operate 2 set0 (op 0 (minus 2) none)) done
    ∷ gives (exit 1) done
    ∷ sees (query 8 set0 0) 0 2
    ∷ [])

-- 5: value 0, -10 with undo after +10 without; another adds 32,765; exit: 32,767.
abbrev pub situation5 : Situation
situation5 =
    fresh 1
    (gives (operate 1 set0 (op 0 (pos 10) none)) done
    ∷ gives (operate 1 set0 (op 0 (minus 10) undo)) done
    ∷ gives (operate 2 set0 (op 0 (pos 32765) none)) done
    ∷ gives (exit 1) done
    ∷ sees (query 8 set0 0) 32767 2
    ∷ [])

-- 6: value 5, -5 with undo, set value 1, exit: value 1.
abbrev pub situation6 : Situation
situation6 =
    fresh 1
    (gives (set_value 8 set0 0 (pos 5)) done
    ∷ gives (operate 1 set0 (op 0 (minus 5) undo)) done
    ∷ gives (set_value 8 set0 0 (pos 1)) done
    ∷ gives (exit 1) done
    ∷ sees (query 8 set0 0) 1 1
    ∷ [])

-- 7: asleep on (0,+5),(1,-1) with values 0; set value of 0 to 32,765: woken with 34.
abbrev pub situation7 : Situation
situation7 =
    fresh 2
    (stops (operate 1 set0 (op 0 (pos 5) none ++ op 1 (minus 1) none)) asleep 1
    ∷ wakes (set_value 8 set0 0 (pos 32765)) 1 1 (ended 1 (pos 34) 0 ∷ [])
    ∷ sees (query 8 set0 0) 32765 0
    ∷ [])

-- 8: asleep on (0,0,IPC_NOWAIT),(1,-1); set value of 0 to 1: woken with 11.
abbrev pub situation8 : Situation
situation8 =
    fresh 2
    (stops (operate 1 set0 (op 0 (pos 0) no_wait ++ op 1 (minus 1) none)) asleep 1
    ∷ wakes (set_value 8 set0 0 (pos 1)) 1 1 (ended 1 (pos 11) 0 ∷ [])
    ∷ sees (query 8 set0 0) 1 0
    ∷ [])

-- 9: +32,767 with undo on 0, another process -1, then +1 with undo: 34.
abbrev pub situation9 : Situation
situation9 =
    fresh 1
    (gives (operate 1 set0 (op 0 (pos 32767) undo)) done
    ∷ gives (operate 2 set0 (op 0 (minus 1) none)) done
    ∷ stops (operate 1 set0 (op 0 (pos 1) undo)) (pos 34) 0
    ∷ [])

-- 10: an older sleeper wants 2, a newer 1, value becomes 1: the newer is woken; 3 looks under each rule.
abbrev pub situation10 : Situation
situation10 =
    fresh 1
    (stops (operate 1 set0 (op 0 (minus 2) none)) asleep 0
    ∷ stops (operate 2 set0 (op 0 (minus 1) none)) asleep 0
    ∷ wakes (operate 3 set0 (op 0 (pos 1) none)) 3 3 (woken 2 (pos 0) ∷ [])
    ∷ [])

-- 11: seven sleepers, number j (process j + 1) on (j,-1),(j-1,+1), number 0 on (0,-1) alone, in order 0 to 6. Set value of 6 to 1
-- wakes all, 6 first: 28 plain looks, 7 quick.
abbrev link : ℕ → Step
link j = stops (operate (j + 1) set0 (op j (minus 1) none ++ op (j - 1) (pos 1) none)) asleep 0

abbrev pub situation11 : Situation
situation11 =
    fresh 8
    (stops (operate 1 set0 (op 0 (minus 1) none)) asleep 0
    ∷ link 1
    ∷ link 2
    ∷ link 3
    ∷ link 4
    ∷ link 5
    ∷ link 6
    ∷ wakes (set_value 8 set0 6 (pos 1)) 28 7 (map (λ (p : ℕ). woken p (pos 0)) (7 ∷ 6 ∷ 5 ∷ 4 ∷ 3 ∷ 2 ∷ 1 ∷ []))
    ∷ [])

-- 12: slot 0 with identifier 0, sleepers 3 and 5, removed: 3=43 5=43; the next create gives 4; identifier 0 is 22.
abbrev pub situation12 : Situation
situation12 =
    fresh 1
    (stops (operate 3 set0 (op 0 (minus 1) none)) asleep 0
    ∷ stops (operate 5 set0 (op 0 (minus 1) none)) asleep 0
    ∷ wakes (remove 8 set0) 0 0 (woken 3 (pos 43) ∷ woken 5 (pos 43) ∷ [])
    ∷ tells (create 8 1 (bits 6 6 6)) 4
    ∷ gives (query 8 set0 0) (pos 22)
    ∷ [])

-- Identifier 262,140 removed: the next in that slot is 0. (A set in slot 0 that was removed 65,535 times before.)
abbrev pub situation12b : Situation
situation12b =
    record {
      start = record {
        sets = record { generation = 65535; count = 1; owner = 0; group = 0; mode = bits 6 6 6 } ∷ replicate 3 (free_set 0);
        callers = fresh_callers;
        table = fresh_table;
        queue = [];
        time = 0;
      };
      steps = gives (remove 8 (pos 262140)) done ∷ tells (create 8 1 (bits 6 6 6)) 0 ∷ [];
    }

-- 13: thirty-two operations are judged, thirty-three are 7, and 199 bytes, which are not whole, 22; number 7 in a set of 8 is
-- judged, 8 is 27.
abbrev pub situation13 : Situation
situation13 =
    fresh 8
    (gives (operate 1 set0 (times 32 (op 7 (pos 1) none))) done
    ∷ sees (query 8 set0 7) 32 1
    ∷ gives (operate 1 set0 (times 33 (op 7 (pos 1) none))) (pos 7)
    ∷ gives (operate 1 set0 (times 33 (op 7 (pos 1) none) ++ 0 ∷ [])) (pos 22)
    ∷ gives (operate 1 set0 (op 8 (pos 1) none)) (pos 27)
    ∷ [])

-- 14: value 0, last process 0, process 4 does a zero operation: last process 4.
abbrev pub situation14 : Situation
situation14 =
    fresh 1
    (sees (query 8 set0 0) 0 0
    ∷ gives (operate 4 set0 (op 0 (pos 0) none)) done
    ∷ sees (query 8 set0 0) 0 4
    ∷ [])

-- 15: process 2 asleep on (0,0),(1,0) with values 1 and 0; process 3 does -1 on 0: 2 is woken, and is the last process of both.
abbrev pub situation15 : Situation
situation15 =
    fresh 2
    (gives (set_value 8 set0 0 (pos 1)) done
    ∷ stops (operate 2 set0 (op 0 (pos 0) none ++ op 1 (pos 0) none)) asleep 0
    ∷ answers (query 8 set0 0) (record { code = done; position = None; value = 1; seen = record { last = 0; increase = 0; zero = 1; increase_mask = 0; zero_mask = 2 }; all = [] })
    ∷ sees (query 8 set0 1) 0 0
    ∷ wakes (operate 3 set0 (op 0 (minus 1) none)) 1 1 (woken 2 (pos 0) ∷ [])
    ∷ sees (query 8 set0 0) 0 2
    ∷ sees (query 8 set0 1) 0 2
    ∷ [])

-- 16: the operation that decided is named by its position. (0,+1),(1,-1) on values 0: asleep at 1; with IPC_NOWAIT on the second:
-- 11 at 1; on the first alone: asleep at 1. Value 32,767 at 0: both are woken with 34 at 0. 34 by the value at 1, and 34 by the
-- adjustment at 1. What a check refuses, and the 34 of set value, name none.
abbrev pub situation16 : Situation
situation16 =
    fresh 2
    (stops (operate 1 set0 (op 0 (pos 1) none ++ op 1 (minus 1) none)) asleep 1
    ∷ stops (operate 2 set0 (op 0 (pos 1) none ++ op 1 (minus 1) no_wait)) (pos 11) 1
    ∷ stops (operate 2 set0 (op 0 (pos 1) no_wait ++ op 1 (minus 1) none)) asleep 1
    ∷ wakes (operate 3 set0 (op 0 (pos 32767) undo)) 2 2 (ended 1 (pos 34) 0 ∷ ended 2 (pos 34) 0 ∷ [])
    ∷ stops (operate 4 set0 (op 1 (pos 0) none ++ op 0 (pos 1) none)) (pos 34) 1
    ∷ gives (operate 4 set0 (op 0 (minus 2) none)) done
    ∷ stops (operate 3 set0 (op 1 (pos 1) undo ++ op 0 (pos 1) undo)) (pos 34) 1
    ∷ gives (operate 3 set0 (op 0 (pos 1) none ++ op 2 (pos 1) none)) (pos 27)
    ∷ gives (set_value 8 set0 0 (pos 40000)) (pos 34)
    ∷ [])

-- 17: a waking names the operation where that look decided. Asleep at 0 on (0,-1),(1,0,IPC_NOWAIT) with values 0 and 1: when 0
-- comes to 1 it is woken with 11 at 1. Asleep at 0 on (0,-1),(1,+32,767): when 0 comes to 1 it is woken with 34 at 1.
abbrev pub situation17 : Situation
situation17 =
    fresh 2
    (gives (set_value 8 set0 1 (pos 1)) done
    ∷ stops (operate 1 set0 (op 0 (minus 1) none ++ op 1 (pos 0) no_wait)) asleep 0
    ∷ wakes (set_value 8 set0 0 (pos 1)) 1 1 (ended 1 (pos 11) 1 ∷ [])
    ∷ gives (set_value 8 set0 0 (pos 0)) done
    ∷ stops (operate 1 set0 (op 0 (minus 1) none ++ op 1 (pos 32767) none)) asleep 0
    ∷ wakes (operate 2 set0 (op 0 (pos 1) none)) 1 1 (ended 1 (pos 34) 1 ∷ [])
    ∷ sees (query 8 set0 1) 1 0
    ∷ [])

-- 18: a call may sleep on thirty-two operations. Process 1 on (0,+1) thirty-one times and (1,-1): asleep at 31. Process 2 on
-- (1,-2), (0,+1) thirty times and (0,+32,767): asleep at 0. When 1 comes to 3, process 1 is woken, and 2 with 34 at 31.
abbrev pub situation18 : Situation
situation18 =
    fresh 2
    (stops (operate 1 set0 (times 31 (op 0 (pos 1) none) ++ op 1 (minus 1) none)) asleep 31
    ∷ stops (operate 2 set0 (op 1 (minus 2) none ++ times 30 (op 0 (pos 1) none) ++ op 0 (pos 32767) none)) asleep 0
    ∷ wakes (set_value 8 set0 1 (pos 3)) 2 2 (woken 1 (pos 0) ∷ ended 2 (pos 34) 31 ∷ [])
    ∷ sees (query 8 set0 0) 31 1
    ∷ sees (query 8 set0 1) 2 1
    ∷ [])

-- 19: all values at once. Asleep: process 1 on (0,-1),(1,-1), then 2 on (0,-1). Both set to 1 at once: the older is woken, 2 sleeps
-- on. The same at another set, set one by one: 0 to 1 wakes the younger, and 1 to 1 wakes nobody.
abbrev pub situation19 : Situation
situation19 =
    fresh 2
    (stops (operate 1 set0 (op 0 (minus 1) none ++ op 1 (minus 1) none)) asleep 0
    ∷ stops (operate 2 set0 (op 0 (minus 1) none)) asleep 0
    ∷ wakes (set_all 8 set0 (values (pos 1 ∷ pos 1 ∷ []))) 2 2 (woken 1 (pos 0) ∷ [])
    ∷ reads (read_all 8 set0) (at 0 1 0 ∷ at 0 0 0 ∷ [])
    ∷ tells (create 8 2 (bits 6 6 6)) 1
    ∷ stops (operate 3 set1 (op 0 (minus 1) none ++ op 1 (minus 1) none)) asleep 0
    ∷ stops (operate 4 set1 (op 0 (minus 1) none)) asleep 0
    ∷ wakes (set_value 8 set1 0 (pos 1)) 3 3 (woken 4 (pos 0) ∷ [])
    ∷ wakes (set_value 8 set1 1 (pos 1)) 1 1 []
    ∷ reads (read_all 8 set1) (at 0 1 0 ∷ at 1 0 0 ∷ [])
    ∷ [])

-- 20: a setting with one bad value changes nothing, whichever it is; so does one with too few or too many values, and 22 is tested
-- first. Process 1 sleeps on, and the values are as they were.
abbrev pub situation20 : Situation
situation20 =
    fresh 3
    (gives (set_all 8 set0 (values (pos 1 ∷ pos 0 ∷ pos 2 ∷ []))) done
    ∷ stops (operate 1 set0 (op 1 (minus 1) none)) asleep 0
    ∷ gives (set_all 8 set0 (values (pos 5 ∷ pos 32768 ∷ pos 5 ∷ []))) (pos 34)
    ∷ gives (set_all 8 set0 (values (pos 5 ∷ pos 5 ∷ minus 1 ∷ []))) (pos 34)
    ∷ gives (set_all 8 set0 (values (minus 1 ∷ pos 5 ∷ pos 5 ∷ []))) (pos 34)
    ∷ gives (set_all 8 set0 (values (pos 5 ∷ pos 5 ∷ []))) (pos 22)
    ∷ gives (set_all 8 set0 (values (pos 5 ∷ pos 5 ∷ pos 5 ∷ pos 5 ∷ []))) (pos 22)
    ∷ gives (set_all 8 set0 (values (pos 40000 ∷ pos 5 ∷ []))) (pos 22)
    ∷ gives (set_all 8 set0 (values (pos 5 ∷ pos 5 ∷ pos 5 ∷ []) ++ 0 ∷ [])) (pos 22)
    ∷ gives (set_all 8 set0 []) (pos 22)
    ∷ gives (set_all 8 (pos 4) (values (pos 5 ∷ pos 5 ∷ pos 5 ∷ []))) (pos 22)
    ∷ reads (read_all 8 set0) (at 1 0 0 ∷ at 0 1 0 ∷ at 2 0 0 ∷ [])
    ∷ [])

-- 21: a reading after sleepers shows both counts, each sleeper where it now stops. Values 1, 0, 0; asleep: 1 on (0,0), 2 on (1,-1),
-- 3 on (1,0),(0,0), 4 on (0,-1),(1,-1). Set to 0, 0, 0: 1 and 3 are woken.
abbrev pub situation21 : Situation
situation21 =
    fresh 3
    (gives (set_all 8 set0 (values (pos 1 ∷ pos 0 ∷ pos 0 ∷ []))) done
    ∷ stops (operate 1 set0 (op 0 (pos 0) none)) asleep 0
    ∷ stops (operate 2 set0 (op 1 (minus 1) none)) asleep 0
    ∷ stops (operate 3 set0 (op 1 (pos 0) none ++ op 0 (pos 0) none)) asleep 1
    ∷ stops (operate 4 set0 (op 0 (minus 1) none ++ op 1 (minus 1) none)) asleep 1
    ∷ reads (read_all 8 set0) (at 1 0 2 ∷ at 0 2 0 ∷ at 0 0 0 ∷ [])
    ∷ gives (read_all 8 (pos 7)) (pos 22)
    ∷ wakes (set_all 8 set0 (values (pos 0 ∷ pos 0 ∷ pos 0 ∷ []))) 5 4 (woken 1 (pos 0) ∷ woken 3 (pos 0) ∷ [])
    ∷ reads (read_all 8 set0) (at 0 1 0 ∷ at 0 1 0 ∷ at 0 0 0 ∷ [])
    ∷ [])

-- 22: values that stay the same are touched too, and the adjustments of all processes are cleared before any look. Process 1 holds
-- +32,767 at 0, and sleeps on (0,+20,000,SEM_UNDO),(0,-20,000),(0,+20,000,SEM_UNDO),(1,-1); 2 holds -5 at 2; 3 sleeps on (2,-6).
-- Set to the values that there are: 1 is woken with 34 at 2, 3 is looked at too, the exit of 2 adds nothing, and the last processes
-- stay.
abbrev pub situation22 : Situation
situation22 =
    fresh 3
    (gives (set_all 8 set0 (values (pos 32767 ∷ pos 0 ∷ pos 0 ∷ []))) done
    ∷ gives (operate 1 set0 (op 0 (minus 32767) undo)) done
    ∷ gives (operate 2 set0 (op 2 (pos 5) undo)) done
    ∷ stops (operate 1 set0 (op 0 (pos 20000) undo ++ op 0 (minus 20000) none ++ op 0 (pos 20000) undo ++ op 1 (minus 1) none)) asleep 3
    ∷ stops (operate 3 set0 (op 2 (minus 6) none)) asleep 0
    ∷ wakes (set_all 8 set0 (values (pos 0 ∷ pos 0 ∷ pos 5 ∷ []))) 2 2 (ended 1 (pos 34) 2 ∷ [])
    ∷ wakes (exit 2) 1 0 []
    ∷ reads (read_all 8 set0) (at 0 0 0 ∷ at 0 0 0 ∷ at 5 1 0 ∷ [])
    ∷ sees (query 8 set0 0) 0 1
    ∷ sees (query 8 set0 1) 0 0
    ∷ answers (query 8 set0 2) (record { code = done; position = None; value = 5; seen = record { last = 2; increase = 1; zero = 0; increase_mask = 4; zero_mask = 0 }; all = [] })
    ∷ [])

-- 23: a wait ends at exactly start plus wait, and not a millisecond before. Time 1,000; asleep on (0,-1): process 1 for 250, and 2
-- without a wait. At 1,249 both sleep on, at 1,250 process 1 is ended with 11, and 2 is woken by an operate as ever.
abbrev pub situation23 : Situation
situation23 =
    fresh 1
    (gives (clock 1000) done
    ∷ stops (within 250 1 set0 (op 0 (minus 1) none)) asleep 0
    ∷ stops (operate 2 set0 (op 0 (minus 1) none)) asleep 0
    ∷ gives (clock 1249) done
    ∷ reads (read_all 8 set0) (at 0 2 0 ∷ [])
    ∷ wakes (clock 1250) 0 0 (woken 1 (pos 11) ∷ [])
    ∷ reads (read_all 8 set0) (at 0 1 0 ∷ [])
    ∷ wakes (operate 1 set0 (op 0 (pos 1) none)) 1 1 (woken 2 (pos 0) ∷ [])
    ∷ [])

-- 24: of two that are due at once the older is ended first, though it sleeps at a later set and its wait ends later. Process 3 at set
-- 1 for 500, then 2 at set 1 for 601, then 1 at set 0 for 200; time 600 ends 3 and 1, and 601 ends 2.
abbrev pub situation24 : Situation
situation24 =
    fresh 1
    (tells (create 8 1 (bits 6 6 6)) 1
    ∷ stops (within 500 3 set1 (op 0 (minus 1) none)) asleep 0
    ∷ stops (within 601 2 set1 (op 0 (minus 1) none)) asleep 0
    ∷ stops (within 200 1 set0 (op 0 (minus 1) none)) asleep 0
    ∷ wakes (clock 600) 0 0 (woken 3 (pos 11) ∷ woken 1 (pos 11) ∷ [])
    ∷ reads (read_all 8 set0) (at 0 0 0 ∷ [])
    ∷ reads (read_all 8 set1) (at 0 1 0 ∷ [])
    ∷ wakes (clock 601) 0 0 (woken 2 (pos 11) ∷ [])
    ∷ [])

-- 25: past its wait, but with no such time told, a sleeper sleeps on and can be woken with 0; a look leaves the start as it was.
-- Process 1 asleep on (0,-1) and 3 on (0,-2), both for 100, at time 0. At 99 an operate wakes 1, which is out of the queue when 100 is
-- told; 3 was looked at, and ends then.
abbrev pub situation25 : Situation
situation25 =
    fresh 1
    (stops (within 100 1 set0 (op 0 (minus 1) none)) asleep 0
    ∷ stops (within 100 3 set0 (op 0 (minus 2) none)) asleep 0
    ∷ gives (clock 99) done
    ∷ wakes (operate 2 set0 (op 0 (pos 1) none)) 2 2 (woken 1 (pos 0) ∷ [])
    ∷ wakes (clock 100) 0 0 (woken 3 (pos 11) ∷ [])
    ∷ sees (query 8 set0 0) 0 1
    ∷ [])

-- 26: a wait of 0 that would sleep is 11 at once, at the operation that stopped, and changes nothing. It is asked last: a done array
-- is done, IPC_NOWAIT is 11 and a range 34 as ever, and a check refuses before it.
abbrev pub situation26 : Situation
situation26 =
    fresh 2
    (stops (within 0 1 set0 (op 0 (pos 1) none ++ op 1 (minus 1) none)) (pos 11) 1
    ∷ gives (within 0 1 set0 (op 0 (pos 1) none)) done
    ∷ stops (within 0 1 set0 (op 0 (minus 1) none ++ op 1 (pos 0) none ++ op 0 (minus 1) no_wait)) (pos 11) 2
    ∷ stops (within 0 1 set0 (op 0 (pos 32767) none)) (pos 34) 0
    ∷ gives (within 0 1 set0 (op 1 (minus 1) none ++ op 2 (pos 0) none)) (pos 27)
    ∷ reads (read_all 8 set0) (at 1 0 0 ∷ at 0 0 0 ∷ [])
    ∷ gives (clock 0) done
    ∷ [])

-- 27: a time before the last one told, or above 2^63-1, is 22 and not told; the same time again is accepted. Process 1 asleep for 100
-- from 1,000 on; 999 is refused, and 2 begins at 1,000 too. Both are ended at 1,100.
abbrev pub situation27 : Situation
situation27 =
    fresh 1
    (gives (clock 1000) done
    ∷ stops (within 100 1 set0 (op 0 (minus 1) none)) asleep 0
    ∷ gives (clock 999) (pos 22)
    ∷ stops (within 100 2 set0 (op 0 (minus 1) none)) asleep 0
    ∷ gives (clock 1000) done
    ∷ gives (clock 9223372036854775808) (pos 22)
    ∷ gives (clock 18446744073709551615) (pos 22)
    ∷ gives (clock 1099) done
    ∷ wakes (clock 1100) 0 0 (woken 1 (pos 11) ∷ woken 2 (pos 11) ∷ [])
    ∷ gives (clock 9223372036854775807) done
    ∷ gives (clock 9223372036854775806) (pos 22)
    ∷ [])

-- 28: start plus wait is an exact sum. From 2^63-2^32 on the largest wait ends at the largest time, 2^63-1, and not before. Begun at
-- the largest time, a wait of 4,294,967,295 or of 1 is never over: both are woken by a setting.
abbrev pub situation28 : Situation
situation28 =
    fresh 1
    (gives (clock 9223372032559808512) done
    ∷ stops (within 4294967295 1 set0 (op 0 (minus 1) none)) asleep 0
    ∷ gives (clock 9223372036854775806) done
    ∷ wakes (clock 9223372036854775807) 0 0 (woken 1 (pos 11) ∷ [])
    ∷ stops (within 4294967295 2 set0 (op 0 (minus 1) none)) asleep 0
    ∷ stops (within 1 3 set0 (op 0 (minus 1) none)) asleep 0
    ∷ gives (clock 9223372036854775807) done
    ∷ gives (clock 18446744073709551615) (pos 22)
    ∷ wakes (set_value 8 set0 0 (pos 2)) 2 2 (woken 2 (pos 0) ∷ woken 3 (pos 0) ∷ [])
    ∷ [])

-- 29: one class only. Process 1, user 7 of group 9, makes a set that its group alone may read and alter. Itself is denied, since its
-- own bits deny; process 2, user 8 of group 9, is not; process 3, user 8 of group 8, is. Reading and altering are bits of their own:
-- of the second set, bits 0 4 2, process 2 may read and process 3 may alter.
abbrev pub situation29 : Situation
situation29 =
    record {
      start = fresh_state;
      steps = gives (act_as 1 7 9) done
          ∷ gives (act_as 2 8 9) done
          ∷ gives (act_as 3 8 8) done
          ∷ tells (create 1 1 (bits 0 6 0)) 0
          ∷ gives (query 1 set0 0) (pos 13)
          ∷ gives (set_value 1 set0 0 (pos 1)) (pos 13)
          ∷ gives (operate 1 set0 (op 0 (pos 1) none)) (pos 13)
          ∷ gives (set_value 2 set0 0 (pos 1)) done
          ∷ sees (query 2 set0 0) 1 0
          ∷ gives (query 3 set0 0) (pos 13)
          ∷ tells (create 1 1 (bits 0 4 2)) 1
          ∷ sees (query 2 set1 0) 0 0
          ∷ gives (set_value 2 set1 0 (pos 1)) (pos 13)
          ∷ gives (query 3 set1 0) (pos 13)
          ∷ gives (set_value 3 set1 0 (pos 1)) done
          ∷ gives (operate 3 set1 (op 0 (minus 1) none ++ op 0 (pos 0) none)) (pos 13)
          ∷ gives (operate 3 set1 (op 0 (minus 1) none)) done
          ∷ gives (operate 2 set1 (op 0 (pos 0) none)) done
          ∷ [];
    }

-- 30: user 0 passes bits 0, whatever its group; group 0 is nothing special.
abbrev pub situation30 : Situation
situation30 =
    record {
      start = fresh_state;
      steps = gives (act_as 1 7 9) done
          ∷ gives (act_as 2 0 5) done
          ∷ gives (act_as 3 5 0) done
          ∷ tells (create 1 1 (bits 0 0 0)) 0
          ∷ gives (set_value 2 set0 0 (pos 3)) done
          ∷ gives (operate 2 set0 (op 0 (minus 1) none)) done
          ∷ sees (query 2 set0 0) 2 2
          ∷ reads (read_all 2 set0) (at 2 0 0 ∷ [])
          ∷ gives (set_all 3 set0 (values (pos 4 ∷ []))) (pos 13)
          ∷ gives (read_all 3 set0) (pos 13)
          ∷ gives (remove 2 set0) done
          ∷ [];
    }

-- 31: removing needs owner or user 0. By the group, which may read and alter: 1; by one who was the owner's user and is no more: 1; by
-- another process that is the owner's user now: done. The next set in the slot has its own maker for owner.
abbrev pub situation31 : Situation
situation31 =
    record {
      start = fresh_state;
      steps = gives (act_as 1 7 9) done
          ∷ gives (act_as 2 8 9) done
          ∷ tells (create 1 1 (bits 6 6 6)) 0
          ∷ gives (remove 2 set0) (pos 1)
          ∷ gives (act_as 1 8 9) done
          ∷ gives (remove 1 set0) (pos 1)
          ∷ gives (act_as 2 7 1) done
          ∷ gives (remove 2 set0) done
          ∷ gives (remove 2 set0) (pos 22)
          ∷ tells (create 1 1 (bits 6 6 6)) 4
          ∷ gives (remove 2 (pos 4)) (pos 1)
          ∷ gives (remove 1 (pos 4)) done
          ∷ [];
    }

-- 32: permission is judged when a call begins and not again at waking. Process 1 fell asleep at a set of user 7 that user 7 alone
-- may alter, and is user 8 now: woken all the same. (No event changes the numbers of a process that sleeps: 16.)
abbrev changed : Callers
changed = record { users = 8 ∷ replicate 7 0; groups = replicate processes 0 }

abbrev pub situation32 : Situation
situation32 =
    record {
      start = record {
        sets = record { generation = 0; count = 1; owner = 7; group = 0; mode = bits 6 0 0 } ∷ replicate 3 (free_set 0);
        callers = changed;
        table = fresh_table;
        queue = record { process = 1; slot = 0; array = op 0 (minus 1) none; start = 0; wait = None } ∷ [];
        time = 0;
      };
      steps = gives (act_as 1 7 0) (pos 16)
          ∷ wakes (set_value 2 set0 0 (pos 1)) 1 1 (woken 1 (pos 0) ∷ [])
          ∷ sees (query 2 set0 0) 0 1
          ∷ gives (operate 1 set0 (op 0 (pos 1) none)) (pos 13)
          ∷ gives (act_as 1 7 0) done
          ∷ gives (operate 1 set0 (op 0 (pos 1) none)) done
          ∷ [];
    }

-- 33: a process asleep asks nothing: 16, before all else but 3. Exit leaves both numbers.
abbrev pub situation33 : Situation
situation33 =
    fresh 1
    (gives (act_as 1 7 9) done
    ∷ stops (operate 1 set0 (op 0 (minus 1) none)) asleep 0
    ∷ gives (query 1 set0 0) (pos 16)
    ∷ gives (query 1 set1 9) (pos 16)
    ∷ gives (read_all 1 set0) (pos 16)
    ∷ gives (create 1 0 512) (pos 16)
    ∷ gives (set_value 1 set0 0 (pos 1)) (pos 16)
    ∷ gives (set_all 1 set0 (values (pos 1 ∷ []))) (pos 16)
    ∷ gives (remove 1 set0) (pos 16)
    ∷ gives (act_as 1 8 8) (pos 16)
    ∷ gives (query 9 set0 0) (pos 3)
    ∷ gives (create 0 0 512) (pos 3)
    ∷ gives (exit 1) done
    ∷ tells (create 1 1 (bits 0 7 7)) 1
    ∷ gives (query 1 set1 0) (pos 13)
    ∷ gives (remove 1 set1) done
    ∷ [])

-- 34: bits 512 are 22, tested with the count; bits 511 are good. No slot is free: 28, behind both.
abbrev pub situation34 : Situation
situation34 =
    fresh 1
    (gives (create 1 1 512) (pos 22)
    ∷ gives (create 1 0 511) (pos 22)
    ∷ gives (create 1 9 65535) (pos 22)
    ∷ tells (create 1 1 511) 1
    ∷ tells (create 1 1 0) 2
    ∷ tells (create 1 1 1) 3
    ∷ gives (create 1 1 512) (pos 22)
    ∷ gives (create 1 1 511) (pos 28)
    ∷ [])

-- 35: permission comes behind the test for a live set and before all else, but in an operate, where a number that is too high comes
-- before it. Process 2, user 8, at a set of user 0 with bits 0.
abbrev pub situation35 : Situation
situation35 =
    record {
      start = fresh_state;
      steps = gives (act_as 2 8 8) done
          ∷ tells (create 1 1 (bits 6 0 0)) 0
          ∷ gives (query 2 set1 9) (pos 22)
          ∷ gives (query 2 set0 9) (pos 13)
          ∷ gives (query 1 set0 9) (pos 22)
          ∷ gives (set_value 2 set0 9 (pos 40000)) (pos 13)
          ∷ gives (set_value 1 set0 9 (pos 40000)) (pos 22)
          ∷ gives (set_all 2 set0 (values (pos 40000 ∷ []))) (pos 13)
          ∷ gives (set_all 2 set0 []) (pos 13)
          ∷ gives (set_all 1 set0 (values (pos 40000 ∷ []))) (pos 34)
          ∷ gives (remove 2 set1) (pos 22)
          ∷ gives (remove 2 set0) (pos 1)
          ∷ gives (operate 2 set0 (op 1 (pos 1) none)) (pos 27)
          ∷ gives (operate 2 set0 (op 0 (minus 1) no_wait)) (pos 13)
          ∷ [];
    }

abbrev pub table : List Situation
table =
    situation1
    ∷ situation2
    ∷ situation3
    ∷ situation4
    ∷ situation5
    ∷ situation6
    ∷ situation7
    ∷ situation8
    ∷ situation9
    ∷ situation10
    ∷ situation11
    ∷ situation12
    ∷ situation12b
    ∷ situation13
    ∷ situation14
    ∷ situation15
    ∷ situation16
    ∷ situation17
    ∷ situation18
    ∷ situation19
    ∷ situation20
    ∷ situation21
    ∷ situation22
    ∷ situation23
    ∷ situation24
    ∷ situation25
    ∷ situation26
    ∷ situation27
    ∷ situation28
    ∷ situation29
    ∷ situation30
    ∷ situation31
    ∷ situation32
    ∷ situation33
    ∷ situation34
    ∷ situation35
    ∷ []
