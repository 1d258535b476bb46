-- What an event leaves and answers: the host, the list of wakings, and what it tells.
use Rattle.std.specs.Prelude.{ℕ, ◌*◌, List, [], length, take, ℤ, None}
use Rattle.std.proofs.lemmas.List.Edits.{sets}
use Rattle.model.specs.declared.Told.{Told}
use Rattle.model.specs.declared.Queried.{Queried}
use Rattle.model.specs.declared.Reading.{Reading}
use Rattle.model.specs.declared.Reply.{Reply}
use Rattle.model.specs.declared.Reply.TheVariants as reply
use Rattle.model.specs.Events.{Event, Form, as_told, as_seen, as_read, form_of, Answer, Result, numbers_of}
use Rattle.host.specs.Holding.{Host, host_of, host_in}
use Rattle.wakings.specs.Wakings.{Place, places_in, list_of}
use Rattle.model.specs.Judge.{Position}

pub record After : Type 0 where
  pub host : Host
  pub wakings : List Place
  pub told : Told

-- what stands in what was lent, with what was returned
abbrev pub after_in : List ℕ → List ℤ → List ℕ → Told → After
after_in h adjustments list told = record { host = host_in h adjustments; wakings = places_in list; told = told }

-- a code, the operation that decided, and a value, with looks and a number of wakings
abbrev pub telling_at : ℤ → Position → ℕ → ℕ → ℕ → Told
telling_at code position value looks woken = record { code = code; value = value; looks = looks; woken = woken; position = position }

-- .. of a result
abbrev pub told_of : Result → Told
told_of r = telling_at r.answer.code r.answer.position r.answer.value r.looks (length r.wakings)

-- .. where no operation decided
abbrev pub telling : ℤ → ℕ → ℕ → ℕ → Told
telling code value looks woken = telling_at code None value looks woken

abbrev pub after_of : Result → After
after_of r = record { host = host_of r.state; wakings = list_of r.wakings; told = told_of r }

-- a query's answer, with its looks
abbrev pub showing : Answer → ℕ → Queried
showing a looks =
    record {
      code = a.code;
      value = a.value;
      last = a.seen.last;
      increase = a.seen.increase;
      zero = a.seen.zero;
      increase_mask = a.seen.increase_mask;
      zero_mask = a.seen.zero_mask;
      looks = looks;
    }

-- .. of a result
abbrev pub queried_of : Result → Queried
queried_of r = showing r.answer r.looks

-- what a reading answers: its code, and how many semaphores it shows
abbrev pub reading_of : Result → Reading
reading_of r = record { code = r.answer.code; count = length r.answer.all }

-- .. and in what it is lent for their numbers they stand from the first on; what lies behind stays as it was
abbrev pub read_out : List ℕ → Result → Reading × List ℕ
read_out numbers r = (reading_of r, sets numbers 0 (numbers_of r.answer.all))

-- ---- any event

-- "an answer is all that an event returns beside state, looks and wakings": what a query shows, what a reading shows, and what any
-- other event tells
abbrev pub reply_as : Form → Result → Reply
reply_as as_told r = reply.Told (told_of r)
reply_as as_seen r = reply.Seen (queried_of r)
reply_as as_read r = reply.Read (reading_of r)

-- the numbers that a reading shows; any other event shows none
abbrev pub read_as : Form → Result → List ℕ
read_as as_told r = []
read_as as_seen r = []
read_as as_read r = numbers_of r.answer.all

-- .. as they stand in what was lent for them, three for each semaphore
abbrev pub read_in : List ℕ → Reply → List ℕ
read_in numbers (reply.Told t) = []
read_in numbers (reply.Seen q) = []
read_in numbers (reply.Read q) = take (3 * q.count) numbers

pub record Replied : Type 0 where
  pub host : Host
  pub wakings : List Place
  pub reply : Reply
  pub read : List ℕ

-- what a call that tells leaves and returns; one that shows, which returns no host and is lent no list; and a reading
abbrev pub tells : After → Replied
tells y = record { host = y.host; wakings = y.wakings; reply = reply.Told y.told; read = [] }

abbrev pub shows : Host → Queried → Replied
shows x q = record { host = x; wakings = list_of []; reply = reply.Seen q; read = [] }

abbrev pub reads : Host → Reading → List ℕ → Replied
reads x q numbers = record { host = x; wakings = list_of []; reply = reply.Read q; read = read_in numbers (reply.Read q) }

abbrev pub replied_in : List ℕ → List ℤ → List ℕ → List ℕ → Reply → Replied
replied_in h adjustments list numbers r = record { host = host_in h adjustments; wakings = places_in list; reply = r; read = read_in numbers r }

abbrev pub replied_of : Event → Result → Replied
replied_of e r = record { host = host_of r.state; wakings = list_of r.wakings; reply = reply_as (form_of e) r; read = read_as (form_of e) r }

-- what is lent for the numbers of a reading, after any event
abbrev pub numbers_after : List ℕ → Event → Result → List ℕ
numbers_after numbers e r = sets numbers 0 (read_as (form_of e) r)
