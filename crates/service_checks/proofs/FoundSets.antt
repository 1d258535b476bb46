-- What the checks find in the sets, which they read from the row by slot: the set that an identifier names, and the lowest free
-- slot.
use Prim.Native.Nat.{ℕ, zero, suc, ◌+◌, ◌/◌, ◌%◌, ◌≤◌, ◌<◌}
use native.Mathlib.Nat.{mod-lt, zero-lt-suc}
use native.Mathlib.Omega.{arith}
use mathlib.Core.Path.{◌≡◌, refl, sym, ap, ◌∙◌}
use mathlib.Core.Logic.{◌≢◌, ◌⊎◌, inl, inr}
use mathlib.Core.Bool.{Bool, true, false, cond, ◌||◌}
use mathlib.Core.List.{List}
use borrow.Author.Tests.{eqb-true, eqb-false, ne_eqb, lt-ltb, le-ltb}
use lib.Dec.{eqb, ltb}
use lib.ListN.{get_or}
use lib.IntN.{ℤ, pos, negsuc, nat_abs}
use mir.Syntax.{w32}
use mir.Val.{SFits, to_z, of_z}
use mir.Facts.{to_z-of_z}
use Rattle.std.specs.Prelude.{Option, Some, None, MatchOption, Result, Ok, Err, IsErrAnd}
use Rattle.std.specs.Int.{FitsUnsignedBits}
use Rattle.std.specs.Option.{ok_or}
use Rattle.model.specs.declared.Refusal.{Refusal}
use Rattle.model.specs.declared.Refusal.TheVariants.{NoSlot}
use Rattle.model.specs.declared.Set.{Set}
use Rattle.model.specs.declared.Caller.{Caller}
use Rattle.model.specs.Limits.{slots, time_max}
use Rattle.model.specs.Refusal.{errno_of, code_in}
use Rattle.model.specs.State.{State, caller_of, no_set}
use Rattle.model.specs.Checks.{check, or_else, slot_of, live, names_set, no_process, asleep, check_caller, check_process, free_from, free_slot}
use Rattle.model.proofs.RefusalLaws.{refusal_decides}
use Rattle.host.specs.Parts.{Row}
use Rattle.host.specs.Holding.{set_at, sets_in, caller_in, callers_in}
use Rattle.service_checks.specs.Found.{slot_found}
use Rattle.host.proofs.SetRows.{set_in}
use Rattle.host.proofs.CallerRows.{caller_in_lem}

-- a set that was read is the one of the list
read : (r : Row) {slot : ℕ} {s : Set} → s ≡ set_at r slot → slot < slots → get_or (sets_in r) slot no_set ≡ s
read r {slot} e h = set_in r slot h ∙ sym e

-- ---- the set that an identifier names

-- what an earlier check refused is passed on by `?`, whatever the later ones say
pub passed_on : {A : Type 0} (refusal : Refusal) {code : ℕ} (r : Result A Refusal) (later : ℕ) → IsErrAnd r (λ e. e ≡ refusal) → errno_of refusal ≡ code → code_in r ≡ or_else code later
passed_on refusal (Ok x) later i e = absurd i
passed_on refusal (Err x) later i e = refusal_decides x later (ap errno_of i ∙ e)

-- a caller's checks begin with that for a process
pub caller_is : (s : State) (p : ℕ) → check_caller s p ≡ or_else (check_process p) (check (asleep p s.queue) 16 0)
unfolding check_caller check_process
caller_is s p = go (no_process p)
  where
    go : (b : Bool) → check b 3 (check (asleep p s.queue) 16 0) ≡ or_else (check b 3 0) (check (asleep p s.queue) 16 0)
    go true = refl
    go false = refl

-- the slot in an identifier is one of the four
pub slot_within : (i : ℤ) → slot_of i < slots
unfolding slot_of
slot_within (pos i) = mod-lt i (zero-lt-suc 3)
slot_within (negsuc i) = omega arith

-- the numbers of a caller that were read are those that it has
pub caller_found : (r : Row) {p : ℕ} {c : Caller} → 1 ≤ p → c ≡ caller_in r p → caller_of (callers_in r) p ≡ c
caller_found r {p} some e = caller_in_lem r p some ∙ sym e

-- what the calls with an identifier found: whether it names a set, and the set in its slot
module _ {i : ℤ} (f : SFits w32 i) where
  pub names_found : (sets : List Set) {b : Bool} → b ≡ names_set sets (to_z w32 (of_z w32 i)) → names_set sets i ≡ b
  names_found sets e = sym (rw (to_z-of_z f) at e)

  pub set_found : (r : Row) {slot : ℕ} {s : Set} → slot ≡ slot_of (to_z w32 (of_z w32 i)) → s ≡ set_at r slot → get_or (sets_in r) (slot_of i) no_set ≡ s
  set_found r {slot} k e = let n : slot ≡ slot_of i = rw (to_z-of_z f) at k in read r (rw n at e) (slot_within i)

-- an identifier that is no number without a sign names no set
pub names_none : (sets : List Set) (i : ℤ) → SFits w32 i → (FitsUnsignedBits 64 i → ⊥) → false ≡ names_set sets i
unfolding names_set
names_none sets (pos i) h f = absurd (f (omega (arith, h.sfits)))
names_none sets (negsuc i) h f = refl

-- .. one that is, by the set in its slot
pub natural : (i : ℤ) → FitsUnsignedBits 64 i → {n : ℕ} → n ≡ nat_abs i → i ≡ pos n
natural (pos i) f e = sym (ap pos e)
natural (negsuc i) f e = absurd f

module _ (r : Row) {i : ℤ} {m : ℕ} (n : i ≡ pos m) {s : Set} (e : s ≡ set_at r (m % slots)) where
  here : get_or (sets_in r) (m % slots) no_set ≡ s
  here = read r e (mod-lt m (zero-lt-suc 3))

  pub names_free : s.count ≡ 0 → false ≡ names_set (sets_in r) i
  unfolding names_set
  names_free z = rw (n, here, z)

  pub names_live : s.count ≢ 0 → eqb s.generation (m / slots) ≡ names_set (sets_in r) i
  unfolding names_set
  names_live z = rw (n, here, lt-ltb 0 s.count (omega arith))

-- ---- the lowest free slot

-- of n slots from one on: none is free, or the first that is
module _ (sets : List Set) where
  none_free : (at n : ℕ) → ((slot : ℕ) → at ≤ slot → slot < at + n → live sets slot ≡ true) → free_from sets at n ≡ at + n
  unfolding free_from
  none_free at zero h = omega arith
  none_free at (suc n) h = rw (h at (omega arith) (omega arith)) (none_free (at + 1) n (λ slot l m. h slot (omega (arith, l)) (omega (arith, m))) ∙ omega arith)

  first_free : (at n slot : ℕ) → at ≤ slot → slot < at + n → live sets slot ≡ false → ((k : ℕ) → at ≤ k → k < slot → live sets k ≡ true) → free_from sets at n ≡ slot
  unfolding free_from
  first_free at zero slot l m z h = absurd (omega (arith, l, m))
  first_free at (suc n) slot l m z h = go (eqb at slot) refl (λ o. first_free (at + 1) n slot (omega (arith, l, o)) (omega (arith, m)) z (λ k a b. h k (omega (arith, a)) b))
    where
      go : (b : Bool) → eqb at slot ≡ b → (at ≢ slot → free_from sets (at + 1) n ≡ slot) → cond (live sets at) (free_from sets (at + 1) n) at ≡ slot
      go true e more = let same : at ≡ slot = eqb-true at slot e in rw (same, z)
      go false e more = let o : at ≢ slot = eqb-false at slot e in rw (h at (omega arith) (omega (arith, l, o))) (more o)

-- what was found in the row, by the sets that were read there
pub free_found : (r : Row) (found : Option ℕ)
    → MatchOption found ((k : ℕ) → 0 ≤ k → k < slots → (set_at r k).count ≢ 0)
    (λ slot. (0 ≤ slot) × (slot < slots) × ((set_at r slot).count ≡ 0) × ((k : ℕ) → 0 ≤ k → k < slot → (set_at r k).count ≢ 0))
    → found ≡ slot_found (free_slot (sets_in r))
free_found r found h = go found h
  where
    taken : (slot : ℕ) → slot < slots → (set_at r slot).count ≢ 0 → live (sets_in r) slot ≡ true
    taken slot m n = rw (set_in r slot m, lt-ltb 0 (set_at r slot).count (omega (arith, n)))

    go : (found : Option ℕ)
        → MatchOption found ((k : ℕ) → 0 ≤ k → k < slots → (set_at r k).count ≢ 0)
        (λ slot. (0 ≤ slot) × (slot < slots) × ((set_at r slot).count ≡ 0) × ((k : ℕ) → 0 ≤ k → k < slot → (set_at r k).count ≢ 0))
        → found ≡ slot_found (free_slot (sets_in r))
    go None h = rw (none_free (sets_in r) 0 slots (λ slot l m. taken slot m (h slot l m)))
    go (Some slot) h =
        let free : live (sets_in r) slot ≡ false = rw (set_in r slot h.1, h.2) in
        let first : free_slot (sets_in r) ≡ slot = first_free (sets_in r) 0 slots slot h.0 h.1 free (λ k l m. taken k (omega (arith, m, h.1)) (h.3 k l m)) in
        let n : slot ≢ slots = omega (arith, h.1) in
        rw (first, ne_eqb slot slots n)

-- "no free slot: 28"
pub slot_code : (slot : ℕ) → code_in (ok_or (slot_found slot) NoSlot) ≡ check (eqb slot slots) 28 0
slot_code slot = go (eqb slot slots)
  where
    go : (b : Bool) → code_in (ok_or (cond b None (Some slot)) NoSlot) ≡ check b 28 0
    go true = refl
    go false = refl

-- ---- the clock

-- a time is refused that is before the last one, or later than the latest
pub time_refused : (now last : ℕ) → (now < last) ⊎ ((last ≤ now) × (time_max < now)) → ltb now last || ltb time_max now ≡ true
time_refused now last (inl h) = rw (lt-ltb now last h)
time_refused now last (inr h) = rw (le-ltb now last h.0, lt-ltb time_max now h.1)
