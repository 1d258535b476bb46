-- A property of every element of a list; parts of lists, and stores.
use Prim.Native.Nat.{ℕ, zero, suc, ◌+◌, ◌-◌, ◌≤◌, ◌<◌}
use native.Mathlib.Nat.{not-suc-le-zero, le_of_suc-le-suc, suc_inj, suc-ne-zero}
use native.Mathlib.Numerals.{add-one}
use native.Mathlib.Omega.{arith}
use native.Mathlib.Decide.{dec_lt}
use mathlib.Core.Path.{◌≡◌, refl, sym, ap, ◌∙◌}
use mathlib.Core.List.{List, [], ◌∷◌, ◌++◌}
use lib.ListN.{length, get_or, set, take, drop, replicate, length-append, get_or-append}
use lib.Seq.{slice, paste, sets, drop-cons, get_or-take, get_or-drop, get_or-append-add, get_or-set_other, drop-paste, length-take-le}
use Rattle.model.specs.Waking.{without}
use Rattle.model.specs.Runs.{All, none, also}

module _ {A : Type 0} where
  pub first : {P : A → Type 0} {x : A} {xs : List A} → All P (x ∷ xs) → P x
  first (also h t) = h

  pub rest : {P : A → Type 0} {x : A} {xs : List A} → All P (x ∷ xs) → All P xs
  rest (also h t) = t

  pub all_map : {P Q : A → Type 0} {l : List A} → ((x : A) → P x → Q x) → All P l → All Q l
  all_map f none = none
  all_map f (also {x = x} h t) = also (f x h) (all_map f t)

  pub all_of : {P : A → Type 0} (l : List A) → ((x : A) → P x) → All P l
  all_of [] f = none
  all_of (x ∷ l) f = also (f x) (all_of l f)

  -- several properties at once
  pub all_zip : {P Q R : A → Type 0} {l : List A} → ((x : A) → P x → Q x → R x) → All P l → All Q l → All R l
  all_zip f none k = none
  all_zip f (also {x = x} h t) k = also (f x h (first k)) (all_zip f t (rest k))

  pub all_zip3 : {P Q R S : A → Type 0} {l : List A} → ((x : A) → P x → Q x → R x → S x) → All P l → All Q l → All R l → All S l
  all_zip3 f none k j = none
  all_zip3 f (also {x = x} h t) k j = also (f x h (first k) (first j)) (all_zip3 f t (rest k) (rest j))

  pub all_zip4 : {P Q R S U : A → Type 0} {l : List A} → ((x : A) → P x → Q x → R x → S x → U x) → All P l → All Q l → All R l → All S l → All U l
  all_zip4 f none k j i = none
  all_zip4 f (also {x = x} h t) k j i = also (f x h (first k) (first j) (first i)) (all_zip4 f t (rest k) (rest j) (rest i))

  pub all_append : {P : A → Type 0} (xs ys : List A) → All P xs → All P ys → All P (xs ++ ys)
  all_append [] ys h k = k
  all_append (x ∷ xs) ys h k = also (first h) (all_append xs ys (rest h) k)

  pub all_replicate : {P : A → Type 0} (n : ℕ) (x : A) → P x → All P (replicate n x)
  all_replicate zero x h = none
  all_replicate (suc n) x h = also h (all_replicate n x h)

  pub all_get_d : (P : A → Type 0) (l : List A) (i : ℕ) (d : A) → All P l → P d → P (get_or l i d)
  all_get_d P [] i d h hd = hd
  all_get_d P (y ∷ l) zero d h hd = first h
  all_get_d P (y ∷ l) (suc i) d h hd = all_get_d P l i d (rest h) hd

  -- .. at a position that is there
  pub all_at : {P : A → Type 0} (l : List A) (i : ℕ) (d : A) → All P l → i < length l → P (get_or l i d)
  all_at [] i d h k = absurd (not-suc-le-zero k)
  all_at (y ∷ l) zero d h k = first h
  all_at (y ∷ l) (suc i) d h k = all_at l i d (rest h) (le_of_suc-le-suc k)

  pub all_set : {P : A → Type 0} (l : List A) (n : ℕ) (x : A) → All P l → P x → All P (set l n x)
  all_set [] n x h px = h
  all_set (y ∷ l) zero x h px = also px (rest h)
  all_set (y ∷ l) (suc n) x h px = also (first h) (all_set l n x (rest h) px)

  pub all_sets : {P : A → Type 0} (l : List A) (n : ℕ) (vs : List A) → All P l → All P vs → All P (sets l n vs)
  all_sets l n [] h k = h
  all_sets l n (x ∷ vs) h k = all_sets (set l n x) (suc n) vs (all_set l n x h (first k)) (rest k)

  pub all_take : {P : A → Type 0} (n : ℕ) (l : List A) → All P l → All P (take n l)
  all_take zero l h = none
  all_take (suc n) [] h = none
  all_take (suc n) (y ∷ l) h = also (first h) (all_take n l (rest h))

  pub all_drop : {P : A → Type 0} (n : ℕ) (l : List A) → All P l → All P (drop n l)
  all_drop zero l h = h
  all_drop (suc n) [] h = none
  all_drop (suc n) (y ∷ l) h = all_drop n l (rest h)

  pub all_slice : {P : A → Type 0} (f t : ℕ) (l : List A) → All P l → All P (slice f t l)
  all_slice f t l h = all_drop f (take t l) (all_take t l h)

  pub all_paste : {P : A → Type 0} (d : List A) (at : ℕ) (s : List A) (n : ℕ) → All P d → All P s → All P (paste d at s n)
  all_paste d at s n hd hs =
      all_append (take at d ++ take n s) (drop (at + n) d) (all_append (take at d) (take n s) (all_take at d hd) (all_take n s hs)) (all_drop (at + n) d hd)

  pub all_without : {P : A → Type 0} (l : List A) (i : ℕ) → All P l → All P (without l i)
  unfolding without
  all_without [] i h = none
  all_without (x ∷ l) zero h = rest h
  all_without (x ∷ l) (suc i) h = also (first h) (all_without l i (rest h))

  -- ---- a list without one of its elements; what stands at a position

  pub length_without : (l : List A) (i : ℕ) → i < length l → length (without l i) + 1 ≡ length l
  unfolding without
  length_without [] i h = absurd (not-suc-le-zero h)
  length_without (x ∷ l) zero h = add-one (length l)
  length_without (x ∷ l) (suc i) h = omega (arith, length_without l i (le_of_suc-le-suc h))

  pub drop_at : (l : List A) (i : ℕ) (d : A) → i < length l → drop i l ≡ get_or l i d ∷ drop (i + 1) l
  drop_at l i d h = rw add-one (drop-cons l i d h)

  -- ---- loads from a slice, from beside a paste, and from behind the same store

  pub get_d_slice : (f t : ℕ) (l : List A) (n : ℕ) (d : A) → f + n < t → get_or (slice f t l) n d ≡ get_or l (f + n) d
  get_d_slice f t l n d h = get_or-drop f (take t l) n d ∙ get_or-take t l (f + n) d h

  get_d_paste_below : (d : List A) (at : ℕ) (s : List A) (n : ℕ) (j : ℕ) (x : A) → at ≤ length d → j < at → get_or (paste d at s n) j x ≡ get_or d j x
  get_d_paste_below d at s n j x hd h =
      let e : length (take at d) ≡ at = length-take-le at d hd in
      get_or-append (take at d ++ take n s) (drop (at + n) d) x j (omega (arith, length-append (take at d) (take n s)))
      ∙ get_or-append (take at d) (take n s) x j (omega arith)
      ∙ get_or-take at d j x h

  get_d_paste_beyond : (d : List A) (at : ℕ) (s : List A) (n : ℕ) (j : ℕ) (x : A) → at ≤ length d → n ≤ length s → at + n ≤ j
      → get_or (paste d at s n) j x ≡ get_or d j x
  get_d_paste_beyond d at s n j x hd hs h =
      let e : j ≡ at + n + (j - (at + n)) = omega arith in
      rw e
      (sym (get_or-drop (at + n) (paste d at s n) (j - (at + n)) x)
      ∙ ap (λ (r : List A). get_or r (j - (at + n)) x) (drop-paste d at s n hd hs)
      ∙ get_or-drop (at + n) d (j - (at + n)) x)

  get_d_paste_inside : (d : List A) (at : ℕ) (s : List A) (n : ℕ) (j : ℕ) (x : A) → at ≤ length d → n ≤ length s → at ≤ j → j < at + n
      → get_or (paste d at s n) j x ≡ get_or s (j - at) x
  get_d_paste_inside d at s n j x hd hs le lt =
      let e : length (take at d) ≡ at = length-take-le at d hd in
      let f : length (take n s) ≡ n = length-take-le n s hs in
      let k : j ≡ length (take at d) + (j - at) = omega arith in
      get_or-append (take at d ++ take n s) (drop (at + n) d) x j (omega (arith, length-append (take at d) (take n s)))
      ∙ ap (λ (i : ℕ). get_or (take at d ++ take n s) i x) k
      ∙ get_or-append-add (take at d) (take n s) (j - at) x
      ∙ get_or-take n s (j - at) x (omega arith)

  -- a place is beside what was pasted if it is behind it whenever it is not before it
  pub get_d_paste_beside : (d : List A) (at : ℕ) (s : List A) (n : ℕ) (j : ℕ) (x : A) → at ≤ length d → n ≤ length s → (at ≤ j → at + n ≤ j)
      → get_or (paste d at s n) j x ≡ get_or d j x
  get_d_paste_beside d at s n j x hd hs h = go (dec_lt j at)
    where
      go : Dec (j < at) → get_or (paste d at s n) j x ≡ get_or d j x
      go (yes lt) = get_d_paste_below d at s n j x hd lt
      go (no ge) = get_d_paste_beyond d at s n j x hd hs (h (omega arith))

  -- what holds beside what was pasted, and of what was pasted, holds at any place
  pub get_d_paste : (P : A → Type 0) (d : List A) (at : ℕ) (s : List A) (n : ℕ) (j : ℕ) (x : A) → at ≤ length d → n ≤ length s
      → ((at ≤ j → at + n ≤ j) → P (get_or d j x)) → ((k : ℕ) → k < n → j ≡ at + k → P (get_or s k x)) → P (get_or (paste d at s n) j x)
  get_d_paste P d at s n j x hd hs beside inside = below (dec_lt j at) (dec_lt j (at + n))
    where
      below : Dec (j < at) → Dec (j < at + n) → P (get_or (paste d at s n) j x)
      below (yes lt) q = rw (get_d_paste_beside d at s n j x hd hs (λ le. omega arith)) (beside (λ le. omega arith))
      below (no ge) (no le) = rw (get_d_paste_beside d at s n j x hd hs (λ h. omega arith)) (beside (λ h. omega arith))
      below (no ge) (yes lt) =
          let k : j ≡ at + (j - at) = omega arith in
          let e : get_or (paste d at s n) j x ≡ get_or s (j - at) x = get_d_paste_inside d at s n j x hd hs (omega arith) lt in
          rw e (inside (j - at) (omega arith) k)

  -- .. and so after a store
  pub get_d_set : (P : A → Type 0) (l : List A) (i : ℕ) (a : A) (j : ℕ) (x : A) → P (get_or l j x) → (j ≡ i → P a) → P (get_or (set l i a) j x)
  get_d_set P [] i a j x h k = h
  get_d_set P (y ∷ l) zero a zero x h k = k refl
  get_d_set P (y ∷ l) zero a (suc j) x h k = h
  get_d_set P (y ∷ l) (suc i) a zero x h k = h
  get_d_set P (y ∷ l) (suc i) a (suc j) x h k = get_d_set P l i a j x h (λ e. k (ap suc e))

  -- a place beside a run of stores
  pub get_d_sets_beside : (l : List A) (i : ℕ) (vs : List A) (j : ℕ) (x : A) → (i ≤ j → i + length vs ≤ j) → get_or (sets l i vs) j x ≡ get_or l j x
  get_d_sets_beside l i [] j x h = refl
  get_d_sets_beside l i (v ∷ vs) j x h =
      get_d_sets_beside (set l i v) (suc i) vs j x (λ le. omega (arith, h (omega arith)))
      ∙ get_or-set_other l i j v x (λ e. omega (arith, e, h (omega (arith, e))))

  pub set_alike : (d : A) (u v : List A) (n : ℕ) (x : A) (j : ℕ) → length u ≡ length v → get_or u j d ≡ get_or v j d → get_or (set u n x) j d ≡ get_or (set v n x) j d
  set_alike d [] [] n x j e h = refl
  set_alike d [] (b ∷ v) n x j e h = absurd (suc-ne-zero (length v) (sym e))
  set_alike d (a ∷ u) [] n x j e h = absurd (suc-ne-zero (length u) e)
  set_alike d (a ∷ u) (b ∷ v) zero x zero e h = refl
  set_alike d (a ∷ u) (b ∷ v) zero x (suc j) e h = h
  set_alike d (a ∷ u) (b ∷ v) (suc n) x zero e h = h
  set_alike d (a ∷ u) (b ∷ v) (suc n) x (suc j) e h = set_alike d u v n x j (suc_inj e) h
