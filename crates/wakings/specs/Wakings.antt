-- The wakings of an event in the list of bytes that it is lent: eight places of four bytes each, a process, its code, whether an
-- operation decided (1, else 0), and its position.
use Rattle.std.specs.Prelude.{ℕ, zero, suc, ◌+◌, ◌*◌, ◌-◌, List, [], ◌∷◌, ◌++◌, map, length, take, get_or, replicate, ℤ, pos, Some, None}
use Rattle.model.specs.declared.Waking.{Waking}
use Rattle.model.specs.Limits.{processes}
use Rattle.model.specs.Waking.{waking}
use Rattle.model.specs.Judge.{Position}

-- what stands at a place
pub record Place : Type 0 where
  pub process : ℕ
  pub code : ℤ
  pub decided : ℕ
  pub position : ℕ

abbrev pub place_at : List ℕ → ℕ → Place
place_at l i =
    record {
      process = get_or l (4 * i) 0;
      code = pos (get_or l (4 * i + 1) 0);
      decided = get_or l (4 * i + 2) 0;
      position = get_or l (4 * i + 3) 0;
    }

-- what stands at n places, from one on
unfoldable pub places_from : ℕ → ℕ → List ℕ → List Place
places_from zero i l = []
places_from (suc n) i l = place_at l i ∷ places_from n (i + 1) l

-- what stands at all places
unfoldable pub places_in : List ℕ → List Place
places_in l = places_from processes 0 l

-- ---- wakings

-- whether an operation decided, as a number; and its position, 0 if none did
abbrev pub decided_byte : Position → ℕ
decided_byte None = 0
decided_byte (Some k) = 1

abbrev pub position_byte : Position → ℕ
position_byte None = 0
position_byte (Some k) = k

-- a waking as a place has it
abbrev pub place_of : Waking → Place
place_of w = record { process = w.process; code = w.code; decided = decided_byte w.position; position = position_byte w.position }

-- .. and the waking that a place has
abbrev pub position_in : ℕ → ℕ → Position
position_in zero k = None
position_in (suc n) k = Some k

abbrev pub waking_in : Place → Waking
waking_in x = waking x.process x.code (position_in x.decided x.position)

-- an empty place
abbrev pub no_waking : Place
no_waking = record { process = 0; code = pos 0; decided = 0; position = 0 }

-- "this and remove's endings are listed as wakings": they stand first, and nothing behind them
unfoldable pub list_of : List Waking → List Place
list_of ws = map place_of ws ++ replicate (processes - length ws) no_waking

-- the first n wakings
unfoldable pub wakings_in : ℕ → List Place → List Waking
wakings_in n places = map waking_in (take n places)
