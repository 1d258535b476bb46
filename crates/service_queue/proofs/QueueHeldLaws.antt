-- A row whose parts hold a queue: it does so again after a change, one is taken out, and one joins.
use Prim.Native.Nat.{ℕ, min, ◌+◌, ◌*◌, ◌-◌, ◌<◌}
use mathlib.Core.Path.{◌≡◌, refl, sym, ap, ap₂, subst, ◌∙◌}
use mathlib.Core.List.{List, [], ◌∷◌, ◌++◌}
use lib.ListN.{length, get_or, take, replicate}
use lib.Seq.{sets}
use Rattle.model.specs.Limits.{processes, array_bytes}
use Rattle.model.specs.State.{Sleeper, no_sleeper}
use Rattle.model.specs.Marks.{named}
use Rattle.model.specs.Waking.{without}
use Rattle.host.specs.Parts.{Part, asleep, order, sizes, arrays, Row, with, put}
use Rattle.host.specs.Waits.{wait_number}
use Rattle.host.specs.Holding.{Kept, kept, with_queue, entry, with_call, with_wait, sleeper_in, queue_in}
use Rattle.host.specs.Queue.{Room, Queued, QueueHeld}
use Rattle.host.proofs.PartLaws.{by_groups}
use Rattle.host.proofs.ProcessLaws.{Awake}
use Rattle.host.proofs.QueueRows.{order_at, sleeper_read, with_entry, emptied, taken, joined_by, joined, queue_back}
use Rattle.service_queue.specs.Seated.{moved_up}
use Rattle.service_queue.proofs.MovingLaws.{order_moved}

-- ---- a queue is put into a row

pub queue_again : (r : Row) (p q : List Sleeper) → with_queue (with_queue r p) q ≡ with_queue r q
queue_again r p q = by_groups _ _ refl refl refl refl refl

module _ (r : Row) {r' : Row} {q : List Sleeper} (e : r' ≡ with_queue r q) (f : Queued q) where
  -- the row shows it
  pub shows : queue_in r' ≡ q
  shows = ap queue_in e ∙ queue_back r q f

  pub row_with : QueueHeld r'
  row_with =
      record {
        holds = e ∙ sym (queue_again r q q) ∙ ap₂ with_queue (sym e) (sym shows);
        fits = subst Queued (sym shows) f;
      }

-- ---- what such a row says

module _ {r : Row} (k : QueueHeld r) where
  abbrev queue : List Sleeper
  queue = queue_in r

  pub part_is : (p : Part) → r p ≡ with_queue r (queue_in r) p
  part_is p = ap (λ (x : Row). x p) k.holds

  pub asleep_is : get_or (r asleep) 0 0 ≡ length (queue_in r)
  asleep_is = ap (λ (l : List ℕ). get_or l 0 0) (part_is asleep)

  pub process_is : (i : ℕ) → i < length (queue_in r) → get_or (r order) i 0 ≡ (get_or (queue_in r) i no_sleeper).process
  process_is i h = ap (λ (l : List ℕ). get_or l i 0) (part_is order) ∙ order_at queue i h

  pub sleeper_is : (i : ℕ) → i < length (queue_in r) → {p : ℕ} → p ≡ get_or (r order) i 0 → sleeper_in r p ≡ get_or (queue_in r) i no_sleeper
  sleeper_is i h e = ap₂ sleeper_in k.holds (e ∙ process_is i h) ∙ sleeper_read queue k.fits i h r

-- ---- one is taken out: what its process has is put to 0, the order moves up, and its array is cleared

abbrev pub awoken : ℕ → Row → Row
awoken p r = with_entry kept p (λ (k : Kept). 0) r

abbrev shortened : ℕ → ℕ → Row → Row
shortened at last r = put (with r order (moved_up (r order) at last)) asleep 0 last

abbrev cleared_of : ℕ → ℕ → Row → Row
cleared_of p size r = with r arrays (sets (r arrays) (array_bytes * entry p) (replicate (min array_bytes size) 0))

module _ {r r₁ : Row} {p : ℕ} (k : QueueHeld r) (at : ℕ) (h : at < length (queue_in r)) (ep : p ≡ get_or (r order) at 0) (e₁ : r₁ ≡ awoken p r) where
  pub still_asleep : get_or (r₁ asleep) 0 0 ≡ length (queue_in r)
  still_asleep = ap (λ (x : Row). get_or (x asleep) 0 0) e₁ ∙ asleep_is k

  moved_out : moved_up (r order) at (length (queue_in r) - 1) ≡ without (r order) at ++ 0 ∷ []
  moved_out =
      subst (λ (l : List ℕ). moved_up l at (length (queue_in r) - 1) ≡ without l at ++ 0 ∷ []) (sym (part_is k order)) (order_moved (queue_in r) at h k.fits.few)

  pub taken_out : {r₂ r₃ r₄ : Row} {last size : ℕ} → size ≡ get_or (r sizes) (entry p) 0 → last ≡ get_or (r₁ asleep) 0 0 - 1
      → r₂ ≡ with r₁ order (moved_up (r₁ order) at last) → r₃ ≡ put r₂ asleep 0 last → r₄ ≡ cleared_of p size r₃
      → r₄ ≡ with_queue r (without (queue_in r) at)
  taken_out {r₂} {r₃} {r₄} {last} {size} es el e₂ e₃ e₄ =
      let q : List Sleeper = queue_in r in
      let s : Sleeper = get_or q at no_sleeper in
      let here : p ≡ s.process = ep ∙ process_is k at h in
      let few : last ≡ length q - 1 = el ∙ ap (λ (n : ℕ). n - 1) still_asleep in
      let whole : r₃ ≡ put (with (awoken p r) order (without (r order) at ++ 0 ∷ [])) asleep 0 (length q - 1) =
      e₃ ∙ ap (λ (x : Row). put x asleep 0 last) e₂ ∙ ap₂ (λ (x : Row) (n : ℕ). shortened at n x) e₁ few
      ∙ ap (λ (l : List ℕ). put (with (awoken p r) order l) asleep 0 (length q - 1)) moved_out in
      e₄ ∙ ap₂ (cleared_of p) es whole
      ∙ ap (λ (n : ℕ). cleared_of n (get_or (r sizes) (entry n) 0) (put (with (awoken n r) order (without (r order) at ++ 0 ∷ [])) asleep 0 (length q - 1))) here
      ∙ ap (emptied q k.fits at h) k.holds
      ∙ taken q k.fits at h r

-- ---- one joins

-- what its process keeps of it is written
pub kept_written : (r : Row) {r₁ r₂ : Row} (s : Sleeper) (mask start wait : ℕ) → r₁ ≡ with_call r s.process s.slot (length s.array) mask → r₂ ≡ with_wait r₁ s.process start wait
    → mask ≡ named s → start ≡ s.start → wait ≡ wait_number s.wait → r₂ ≡ with_entry kept s.process (λ (k : Kept). k.of s) r
kept_written r {r₁} s mask start wait e₁ e₂ m a w =
    let p : ℕ = s.process in
    e₂ ∙ ap₂ (λ (x y : ℕ). with_wait r₁ p x y) a w
    ∙ ap (λ (x : Row). with_wait x p s.start (wait_number s.wait)) (e₁ ∙ ap (with_call r p s.slot (length s.array)) m)

module _ {r r₁ r₂ : Row} {s : Sleeper} (k : QueueHeld r) (room : Room s) (a : Awake s.process (queue_in r)) (h : length (queue_in r) < processes)
    (e₁ : r₁ ≡ with r arrays (sets (r arrays) (array_bytes * entry s.process) (take array_bytes s.array)))
    (e₂ : r₂ ≡ with_entry kept s.process (λ (k : Kept). k.of s) r₁) where
  stored : r₂ ≡ with_entry kept s.process (λ (k : Kept). k.of s) (with r arrays (sets (r arrays) (array_bytes * entry s.process) (take array_bytes s.array)))
  stored = e₂ ∙ ap (with_entry kept s.process (λ (k : Kept). k.of s)) e₁

  pub before_it : get_or (r₂ asleep) 0 0 ≡ length (queue_in r)
  before_it = ap (λ (x : Row). get_or (x asleep) 0 0) stored ∙ asleep_is k

  pub joined_behind : {r₃ r₄ : Row} {n : ℕ} → n ≡ get_or (r₂ asleep) 0 0 → r₃ ≡ put r₂ order n s.process → r₄ ≡ put r₃ asleep 0 (n + 1) → r₄ ≡ with_queue r (queue_in r ++ s ∷ [])
  joined_behind {n = n} en e₃ e₄ =
      let q : List Sleeper = queue_in r in
      e₄ ∙ ap (λ (x : Row). put x asleep 0 (n + 1)) e₃
      ∙ ap₂ (λ (x : Row) (m : ℕ). put (put x order m s.process) asleep 0 (m + 1)) stored (en ∙ before_it)
      ∙ ap (joined_by q k.fits s a room h) k.holds
      ∙ joined q k.fits s a room h r
