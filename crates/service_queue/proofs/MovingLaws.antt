-- The order moves up over one who is taken out: a turn of the loop, its end, and what that is of a queue.
use Prim.Native.Nat.{ℕ, zero, suc, ◌+◌, ◌-◌, ◌≤◌, ◌<◌}
use native.Mathlib.Nat.{not-suc-le-zero, le_of_suc-le-suc}
use native.Mathlib.Numerals.{add-one}
use native.Mathlib.Omega.{arith}
use mathlib.Core.Path.{◌≡◌, refl, sym, ap, ap₂, ◌∙◌}
use mathlib.Core.List.{List, [], ◌∷◌, ◌++◌, map, append_assoc}
use lib.ListN.{length, get_or, take, drop, set, replicate, length-drop, length-map, replicate-append-replicate, take-append-drop}
use lib.Seq.{paste, paste-zero, paste-suc, length_paste_head, get_or-drop, drop-cons, drop-drop, drop_at, set_at}
use Rattle.model.specs.Limits.{processes}
use Rattle.model.specs.State.{Sleeper}
use Rattle.model.specs.Waking.{without}
use Rattle.model.proofs.Lists.{get_d_paste_beside}
use Rattle.host.specs.Parts.{order, Row, with, put}
use Rattle.host.specs.Holding.{order_of}
use Rattle.host.proofs.PartLaws.{with_again, with_same}
use Rattle.host.proofs.QueueRows.{length_order}
use Rattle.service_queue.specs.Seated.{moved_up}

module _ {A : Type 0} where
  pub without_split : (l : List A) (i : ℕ) → i < length l → without l i ≡ take i l ++ drop (suc i) l
  unfolding without
  without_split [] i h = absurd (not-suc-le-zero h)
  without_split (x ∷ l) zero h = refl
  without_split (x ∷ l) (suc i) h = ap (λ (r : List A). x ∷ r) (without_split l i (le_of_suc-le-suc h))

  -- those behind a position have moved up, as far as another
  abbrev pub moved : List A → ℕ → ℕ → List A
  moved l at i = paste l at (drop (suc at) l) (i - at)

  module _ (l : List A) (at last : ℕ) (z : A) (inside : last < length l) where
    -- one more
    moved_more : (i : ℕ) → at ≤ i → i < last → set (moved l at i) i (get_or (moved l at i) (i + 1) z) ≡ moved l at (i + 1)
    moved_more i a h =
        let long : i - at < length (drop (suc at) l) = simp length-drop (omega arith) in
        let here : at + (i - at) ≡ i = omega arith in
        let next : suc at + (i - at) ≡ i + 1 = omega arith in
        let more : suc (i - at) ≡ i + 1 - at = omega arith in
        let e : get_or (moved l at i) (i + 1) z ≡ get_or (drop (suc at) l) (i - at) z =
        get_d_paste_beside l at (drop (suc at) l) (i - at) (i + 1) z (omega arith) (omega arith) (λ (k : at ≤ i + 1). omega arith)
        ∙ ap (λ (k : ℕ). get_or l k z) (sym next) ∙ sym (get_or-drop (suc at) l (i - at) z) in
        ap₂ (λ (k : ℕ) (x : A). set (moved l at i) k x) (sym here) e
        ∙ paste-suc l at (drop (suc at) l) (i - at) z (omega arith) long
        ∙ ap (λ (k : ℕ). paste l at (drop (suc at) l) k) more

    -- all of them, where what stands behind them is free as the last is
    moved_all : at ≤ last → z ∷ drop (suc last) l ≡ drop (suc last) l ++ z ∷ [] → set (moved l at last) last z ≡ without l at ++ z ∷ []
    moved_all a free =
        let s : List A = drop (suc at) l in
        let head : List A = take at l ++ take (last - at) s in
        let here : at + (last - at) ≡ last = omega arith in
        let behind : suc at + (last - at) ≡ suc last = omega arith in
        let long : length head ≡ last = length_paste_head l at s (last - at) (omega arith) (simp length-drop (omega arith)) ∙ here in
        let rest : drop (last - at) s ≡ drop (suc last) l = drop-drop (last - at) (suc at) l ∙ ap (λ (k : ℕ). drop k l) behind in
        let whole : head ++ drop (suc last) l ≡ without l at =
        append_assoc (take at l) (take (last - at) s) (drop (suc last) l)
        ∙ ap (λ (r : List A). take at l ++ (take (last - at) s ++ r)) (sym rest)
        ∙ ap (λ (r : List A). take at l ++ r) (take-append-drop (last - at) s)
        ∙ sym (without_split l at (omega arith)) in
        ap (λ (k : ℕ). set (head ++ drop k l) last z) here
        ∙ ap (λ (r : List A). set (head ++ r) last z) (drop-cons l last z inside)
        ∙ set_at head (get_or l last z) (drop (suc last) l) z last long
        ∙ ap (λ (r : List A). head ++ r) free
        ∙ sym (append_assoc head (drop (suc last) l) (z ∷ []))
        ∙ ap (λ (r : List A). r ++ z ∷ []) whole

  -- a free place in front of free places stands behind them too
  free_behind : (n : ℕ) (z : A) → z ∷ replicate n z ≡ replicate n z ++ z ∷ []
  free_behind n z = ap (λ (k : ℕ). replicate k z) (sym (add-one n)) ∙ sym (replicate-append-replicate n 1 z)

-- ---- the order of a queue

abbrev the_process : Sleeper → ℕ
the_process s = s.process

order_free : (q : List Sleeper) (k : ℕ) → k ≡ length q → 0 ∷ drop k (order_of q) ≡ drop k (order_of q) ++ 0 ∷ []
unfolding order_of
order_free q k e =
    let tail : drop k (order_of q) ≡ replicate (processes - length q) 0 =
    drop_at (map the_process q) (replicate (processes - length q) 0) k (length-map q the_process ∙ sym e) in
    rw tail (free_behind (processes - length q) 0)

pub order_moved : (q : List Sleeper) (at : ℕ) → at < length q → length q ≤ processes → moved_up (order_of q) at (length q - 1) ≡ without (order_of q) at ++ 0 ∷ []
order_moved q at h few =
    moved_all (order_of q) at (length q - 1) 0 (omega (arith, length_order q few)) (omega arith) (order_free q (suc (length q - 1)) (omega arith))

-- ---- the loop of `move_up`

pub record Moving (r₀ : Row) (at last : ℕ) (r : Row) (i : ℕ) : Type 0 where
  pub begun : at ≤ i
  pub within : i ≤ last
  pub same : r ≡ with r₀ order (moved (r₀ order) at i)

pub moving_none : (r : Row) (at last : ℕ) → at ≤ last → Moving r at last r at
moving_none r at last h =
    let z : 0 ≡ at - at = omega arith in
    record {
      begun = omega arith;
      within = h;
      same = with_same r order ∙ ap (λ (l : List ℕ). with r order l) (paste-zero (r order) at (drop (suc at) (r order)) ∙ ap (λ (k : ℕ). paste (r order) at (drop (suc at) (r order)) k) z);
    }

module _ {r₀ r : Row} {at last i : ℕ} (v : Moving r₀ at last r i) where
  written : {r' : Row} (k x : ℕ) → r' ≡ put r order k x → r' ≡ with r₀ order (set (moved (r₀ order) at i) k x)
  written k x e =
      let m : List ℕ = moved (r₀ order) at i in
      e ∙ ap (λ (y : Row). put y order k x) v.same ∙ with_again r₀ order m (set m k x)

  pub moving_more : {r' : Row} {next : ℕ} → last < length (r₀ order) → i < last → next ≡ get_or (r order) (i + 1) 0 → r' ≡ put r order i next → Moving r₀ at last r' (i + 1)
  moving_more {r'} {next} l h n e =
      let x : next ≡ get_or (moved (r₀ order) at i) (i + 1) 0 = n ∙ ap (λ (y : Row). get_or (y order) (i + 1) 0) v.same in
      record {
        begun = omega (arith, v.begun);
        within = omega arith;
        same = written i next e ∙ ap (λ (l : List ℕ). with r₀ order l) (ap (λ (k : ℕ). set (moved (r₀ order) at i) i k) x ∙ moved_more (r₀ order) at last 0 l i v.begun h);
      }

  pub moving_all : {r' : Row} → last ≤ i → r' ≡ put r order last 0 → r' ≡ with r₀ order (moved_up (r₀ order) at last)
  moving_all h e =
      let z : i ≡ last = omega (arith, v.within) in
      written last 0 e ∙ ap (λ (k : ℕ). with r₀ order (set (moved (r₀ order) at k) last 0)) z
