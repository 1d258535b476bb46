-- The host is one row of bytes. This is the table of its parts; src/parts.rt has its twin.
use Rattle.std.specs.Prelude.{◌≡◌, ℕ, zero, suc, ◌+◌, ◌*◌, ◌/◌, ◌%◌, cond, List, [], ◌∷◌, ◌++◌, ◌==◌, slice_index, slice_index_or, slice_set, refl}
use Rattle.model.specs.Limits.{slots, processes, array_bytes, all_semaphores}

pub data Part : Type 0 where
  -- of each slot: its generation, its number of semaphores, its owner, its owning group, and its mode
  generations : Part
  counts : Part
  owners : Part
  owning_groups : Part
  modes : Part
  -- of each process: its user and its group
  users : Part
  groups : Part
  -- of each semaphore, by slot and number: its value and its last process
  values : Part
  lasts : Part
  -- the time last told
  clock : Part
  -- how many sleep, and their processes, oldest first
  asleep : Part
  order : Part
  -- what a process sleeps with: the slot, the bytes of its array, the mask of the semaphores that the array names, the time when
  -- it went to sleep, and its wait
  sleeps_at : Part
  sizes : Part
  names : Part
  starts : Part
  waits : Part
  -- the bytes of the arrays
  arrays : Part

-- the parts in their order: those of the sets, of the callers, of the table, of the clock, and of the queue
abbrev pub of_sets : List Part
of_sets = generations ∷ counts ∷ owners ∷ owning_groups ∷ modes ∷ []

abbrev pub of_callers : List Part
of_callers = users ∷ groups ∷ []

abbrev pub of_table : List Part
of_table = values ∷ lasts ∷ []

abbrev pub of_clock : List Part
of_clock = clock ∷ []

abbrev pub of_queue : List Part
of_queue = asleep ∷ order ∷ sleeps_at ∷ sizes ∷ names ∷ starts ∷ waits ∷ arrays ∷ []

abbrev pub parts : List Part
parts = of_sets ++ of_callers ++ of_table ++ of_clock ++ of_queue

-- a part's number: where it stands in that list
abbrev pub part : ℕ → Part
part n = slice_index_or parts n arrays

pub record Listed (p : Part) : Type 0 where
  pub number : ℕ
  pub stands : part number ≡ p

abbrev pub nth : (n : ℕ) → Listed (part n)
nth n = record { number = n; stands = refl }

abbrev pub listed : (p : Part) → Listed p
listed generations = nth 0
listed counts = nth 1
listed owners = nth 2
listed owning_groups = nth 3
listed modes = nth 4
listed users = nth 5
listed groups = nth 6
listed values = nth 7
listed lasts = nth 8
listed clock = nth 9
listed asleep = nth 10
listed order = nth 11
listed sleeps_at = nth 12
listed sizes = nth 13
listed names = nth 14
listed starts = nth 15
listed waits = nth 16
listed arrays = nth 17

abbrev pub number : Part → ℕ
number p = (listed p).number

-- how many bytes a number of a part has, and how many numbers the part has
pub record Shape : Type 0 where
  pub width : ℕ
  pub count : ℕ

abbrev pub shape : ℕ → ℕ → Shape
shape width count = record { width = width; count = count }

-- in the same order
abbrev pub shapes : List Shape
shapes =
    shape 2 slots
    ∷ shape 1 slots
    ∷ shape 4 slots
    ∷ shape 4 slots
    ∷ shape 2 slots
    ∷ shape 4 processes
    ∷ shape 4 processes
    ∷ shape 2 all_semaphores
    ∷ shape 1 all_semaphores
    ∷ shape 8 1
    ∷ shape 1 1
    ∷ shape 1 processes
    ∷ shape 1 processes
    ∷ shape 1 processes
    ∷ shape 1 processes
    ∷ shape 8 processes
    ∷ shape 8 processes
    ∷ shape 1 (processes * array_bytes)
    ∷ []

-- a part has its shape, and begins where the one before it ends
pub record Place : Type 0 where
  pub at : ℕ
  pub shape : Shape

abbrev pub place_from : ℕ → List Shape → ℕ → Place
place_from at [] n = record { at = at; shape = shape 0 0 }
place_from at (s ∷ ss) zero = record { at = at; shape = s }
place_from at (s ∷ ss) (suc n) = place_from (at + s.width * s.count) ss n

abbrev pub place : Part → Place
place p = place_from 0 shapes (number p)

abbrev pub behind : Place → ℕ
behind p = p.at + p.shape.width * p.shape.count

-- of the part that begins there, with so many numbers of so many bytes
abbrev pub AtPlace : ℕ → ℕ → ℕ → (Part → Type 0) → Type 0
AtPlace at width count holds = (p : Part) → place p ≡ record { at = at; shape = shape width count } → holds p

-- the bytes of the whole row
abbrev pub host_bytes : ℕ
host_bytes = behind (place arrays)

-- ---- numbers in bytes

-- the number of so many bytes from a place on, little-endian
unfoldable pub number_at : ℕ → List ℕ → ℕ → ℕ
number_at zero h at = 0
number_at (suc w) h at = slice_index h at + 256 * number_at w h (at + 1)

-- the bytes of a number, as many as it has
unfoldable pub bytes_of : ℕ → ℕ → List ℕ
bytes_of zero x = []
bytes_of (suc w) x = x % 256 ∷ bytes_of w (x / 256)

-- so many numbers of a width, from a place on
unfoldable pub numbers_from : ℕ → ℕ → ℕ → List ℕ → List ℕ
numbers_from w at zero h = []
numbers_from w at (suc n) h = number_at w h at ∷ numbers_from w (at + w) n h

-- ---- what the bytes say, part by part

abbrev pub Row : Type 0
Row = Part → List ℕ

-- the numbers of a part in the host's bytes
unfoldable pub row_in : List ℕ → Row
row_in h p = numbers_from (place p).shape.width (place p).at (place p).shape.count h

-- a row with one part replaced, and with one number of it
abbrev pub with : Row → Part → List ℕ → Row
with r p l = λ (q : Part). cond (number p == number q) l (r q)

abbrev pub put : Row → Part → ℕ → ℕ → Row
put r p i x = with r p (slice_set (r p) i x)
