-- What stands by process follows the queue: a sleeper that joins, or is taken out, changes the entry of its process alone.
use Rattle.std.proofs.Common.{◌≡◌, ℕ, zero, suc, ◌+◌, ◌-◌, ◌*◌, ◌<◌, ◌≤◌, cond, eqb, ◌≢◌, List, [], ◌∷◌, ◌++◌, length, get_or, take, drop, set, replicate, sym, refl, ap, ◌∙◌, ap₂, append_assoc, append-nil, le_of_suc-le-suc, not-suc-le-zero, add-zero, mul-zero, zero-add, mul-suc, arith, length-append, length-take-le, take_all, take-take, take_at, drop_at, eq-eqb, ne_eqb}
use mathlib.Core.Path.{subst⁻¹}
use lib.ListN.{length-replicate, replicate-append-replicate}
use lib.Seq.{paste, take-append-le, drop-append-le, take-append-add, drop-append-add, take-length}
use Rattle.model.specs.Limits.{processes, array_bytes}
use Rattle.model.specs.State.{Sleeper, no_sleeper}
use Rattle.model.specs.Waking.{without}
use Rattle.model.specs.Runs.{All, none, also}
use Rattle.model.specs.Invariant.{Distinct, apart}
use Rattle.model.proofs.Lists.{all_at}
use Rattle.host.specs.Holding.{of_process, by_process, block_of, blocks_from}

-- nobody is of the process
abbrev pub Awake : ℕ → List Sleeper → Type 0
Awake p q = All (λ (s : Sleeper). s.process ≢ p) q

-- ---- what the sleeper of a process has

module _ {A : Type 0} (d : A) (f : Sleeper → A) where
  pub of_awake : (p : ℕ) (q r : List Sleeper) → Awake p q → of_process d f p (q ++ r) ≡ of_process d f p r
  unfolding of_process
  of_awake p [] r none = refl
  of_awake p (s ∷ q) r (also h t) = rw (ne_eqb s.process p h) (of_awake p q r t)

  pub of_none : (p : ℕ) (q : List Sleeper) → Awake p q → of_process d f p q ≡ d
  unfolding of_process
  of_none p q a = ap (of_process d f p) (sym (append-nil q)) ∙ of_awake p q [] a

  pub of_first : (s : Sleeper) → of_process d f s.process (s ∷ []) ≡ f s
  unfolding of_process
  of_first s = rw (eq-eqb s.process s.process refl)

  pub of_before : (j : ℕ) (q : List Sleeper) (s : Sleeper) → j ≢ s.process → of_process d f j (q ++ s ∷ []) ≡ of_process d f j q
  unfolding of_process
  of_before j [] s h = rw (ne_eqb s.process j (λ (e : s.process ≡ j). h (sym e)))
  of_before j (x ∷ q) s h = ap (λ (r : A). cond (eqb x.process j) (f x) r) (of_before j q s h)

  pub of_without : (j : ℕ) (q : List Sleeper) (i : ℕ) → j ≢ (get_or q i no_sleeper).process → of_process d f j (without q i) ≡ of_process d f j q
  unfolding of_process without
  of_without j [] i h = refl
  of_without j (s ∷ q) zero h = rw (ne_eqb s.process j (λ (e : s.process ≡ j). h (sym e)))
  of_without j (s ∷ q) (suc i) h = ap (λ (r : A). cond (eqb s.process j) (f s) r) (of_without j q i h)

  pub of_own : (q : List Sleeper) (i : ℕ) → Distinct q → i < length q → of_process d f (get_or q i no_sleeper).process q ≡ f (get_or q i no_sleeper)
  unfolding of_process
  of_own [] i g h = absurd (not-suc-le-zero h)
  of_own (s ∷ q) zero g h = rw (eq-eqb s.process s.process refl)
  of_own (s ∷ q) (suc i) (apart o g) h =
      let l : i < length q = le_of_suc-le-suc h in
      rw (ne_eqb s.process (get_or q i no_sleeper).process (λ (e : s.process ≡ (get_or q i no_sleeper).process). all_at q i no_sleeper o l (sym e)))
      (of_own q i g l)

-- ---- numbers by process

module _ (f : Sleeper → ℕ) where
  pub length_by : (n p : ℕ) (q : List Sleeper) → length (by_process f n p q) ≡ n
  unfolding by_process
  length_by zero p q = refl
  length_by (suc n) p q = ap suc (length_by n (p + 1) q)

  by_at : (n p k : ℕ) (q : List Sleeper) → k < n → get_or (by_process f n p q) k 0 ≡ of_process 0 f (p + k) q
  unfolding by_process
  by_at zero p k q h = absurd (not-suc-le-zero h)
  by_at (suc n) p zero q h = rw add-zero
  by_at (suc n) p (suc k) q h = let e : p + suc k ≡ p + 1 + k = omega arith in rw e (by_at n (p + 1) k q (le_of_suc-le-suc h))

  by_same : (n p : ℕ) (q r : List Sleeper) → ((j : ℕ) → p ≤ j → of_process 0 f j q ≡ of_process 0 f j r) → by_process f n p q ≡ by_process f n p r
  unfolding by_process
  by_same zero p q r e = refl
  by_same (suc n) p q r e = ap₂ (λ (x : ℕ) (l : List ℕ). x ∷ l) (e p (omega arith)) (by_same n (p + 1) q r (λ j h. e j (omega arith)))

  by_set : (n p k x : ℕ) (q r : List Sleeper) → k < n → of_process 0 f (p + k) r ≡ x → ((j : ℕ) → j ≢ p + k → of_process 0 f j q ≡ of_process 0 f j r)
      → set (by_process f n p q) k x ≡ by_process f n p r
  unfolding by_process
  by_set zero p k x q r h e o = absurd (not-suc-le-zero h)
  by_set (suc n) p zero x q r h e o =
      ap₂ (λ (y : ℕ) (l : List ℕ). y ∷ l) (sym (rw add-zero at e)) (by_same n (p + 1) q r (λ j l. o j (λ (z : j ≡ p + 0). omega arith)))
  by_set (suc n) p (suc k) x q r h e o =
      let z : p + suc k ≡ p + 1 + k = omega arith in
      ap₂ (λ (y : ℕ) (l : List ℕ). y ∷ l) (o p (λ (l : p ≡ p + suc k). omega arith)) (by_set n (p + 1) k x q r (le_of_suc-le-suc h) (rw z at e) (rw z at o))

  module _ (q : List Sleeper) (p : ℕ) (some : 1 ≤ p) (few : p ≤ processes) where
    numbered : 1 + (p - 1) ≡ p
    numbered = omega arith

    pub of_process_lem : get_or (by_process f processes 1 q) (p - 1) 0 ≡ of_process 0 f p q
    of_process_lem = by_at processes 1 (p - 1) q (omega arith) ∙ ap (λ (n : ℕ). of_process 0 f n q) numbered

    pub by_changed : (x : ℕ) (r : List Sleeper) → of_process 0 f p r ≡ x → ((j : ℕ) → j ≢ p → of_process 0 f j q ≡ of_process 0 f j r)
        → set (by_process f processes 1 q) (p - 1) x ≡ by_process f processes 1 r
    by_changed x r e o =
        by_set processes 1 (p - 1) x q r (omega arith) (subst⁻¹ (λ (n : ℕ). of_process 0 f n r ≡ x) numbered e) (λ j n. o j (λ (z : j ≡ p). n (z ∙ sym numbered)))

-- ---- lists made of blocks

module _ {A : Type 0} where
  -- a paste into the first of two lists, and into the second
  paste_left : (x y : List A) (i : ℕ) (s : List A) (m : ℕ) → i + m ≤ length x → paste (x ++ y) i s m ≡ paste x i s m ++ y
  paste_left x y i s m h =
      let g : i ≤ length x = omega arith in
      rw (take-append-le i x y g, drop-append-le (i + m) x y h) (sym (append_assoc (take i x ++ take m s) (drop (i + m) x) y))

  paste_right : (x y : List A) (i : ℕ) (s : List A) (m : ℕ) → paste (x ++ y) (length x + i) s m ≡ x ++ paste y i s m
  paste_right x y i s m =
      let e : length x + i + m ≡ length x + (i + m) = omega arith in
      rw (e, take-append-add x y i, drop-append-add x y (i + m)) (simp append_assoc)

  -- n blocks, from number p on
  abbrev blocks : (ℕ → List A) → ℕ → ℕ → List A
  blocks f zero p = []
  blocks f (suc n) p = f p ++ blocks f n (p + 1)

  blocks_same : (f g : ℕ → List A) (n p : ℕ) → ((j : ℕ) → p ≤ j → f j ≡ g j) → blocks f n p ≡ blocks g n p
  blocks_same f g zero p e = refl
  blocks_same f g (suc n) p e = ap₂ (λ (x y : List A). x ++ y) (e p (omega arith)) (blocks_same f g n (p + 1) (λ j h. e j (omega arith)))

  -- block k of w elements each begins at w * k: reading it, and writing within it
  module _ (w : ℕ) (f : ℕ → List A) (width : (p : ℕ) → length (f p) ≡ w) where
    length_blocks : (n p : ℕ) → length (blocks f n p) ≡ w * n
    length_blocks zero p = sym (mul-zero w)
    length_blocks (suc n) p = omega (arith, length-append (f p) (blocks f n (p + 1)), width p, length_blocks n (p + 1), mul-suc w n)

    next_block : (k : ℕ) (p : ℕ) → w * suc k ≡ length (f p) + w * k
    next_block k p = omega (arith, mul-suc w k, width p)

    read_blocks : (n p k m : ℕ) → k < n → m ≤ w → take m (drop (w * k) (blocks f n p)) ≡ take m (f (p + k))
    read_blocks zero p k m h hm = absurd (not-suc-le-zero h)
    read_blocks (suc n) p zero m h hm = rw (mul-zero, add-zero) (take-append-le m (f p) (blocks f n (p + 1)) (omega (arith, width p)))
    read_blocks (suc n) p (suc k) m h hm =
        let e : p + suc k ≡ p + 1 + k = omega arith in
        rw (next_block k p, drop-append-add (f p) (blocks f n (p + 1)) (w * k), e) (read_blocks n (p + 1) k m (le_of_suc-le-suc h) hm)

    -- g is f with m elements of s at the front of block k
    paste_blocks : (g : ℕ → List A) (s : List A) (n p k m : ℕ) → k < n → m ≤ w → g (p + k) ≡ paste (f (p + k)) 0 s m
        → ((j : ℕ) → j ≢ p + k → f j ≡ g j) → paste (blocks f n p) (w * k) s m ≡ blocks g n p
    paste_blocks g s zero p k m h hm e o = absurd (not-suc-le-zero h)
    paste_blocks g s (suc n) p zero m h hm e o =
        rw mul-zero
        (paste_left (f p) (blocks f n (p + 1)) 0 s m (omega (arith, width p))
        ∙ ap₂ (λ (x y : List A). x ++ y) (sym (rw add-zero at e)) (blocks_same f g n (p + 1) (λ j l. o j (λ (z : j ≡ p + 0). omega arith))))
    paste_blocks g s (suc n) p (suc k) m h hm e o =
        let z : p + suc k ≡ p + 1 + k = omega arith in
        rw (next_block k p, paste_right (f p) (blocks f n (p + 1)) (w * k) s m)
        (ap₂ (λ (x y : List A). x ++ y) (o p (λ (l : p ≡ p + suc k). omega arith))
        (paste_blocks g s n (p + 1) k m (le_of_suc-le-suc h) hm (rw z at e) (rw z at o)))

  -- a list with zeros behind it, in w elements
  module _ (w : ℕ) (z : A) (x : List A) where
    length_filled : length (take w (x ++ replicate w z)) ≡ w
    length_filled = length-take-le w (x ++ replicate w z) (omega (arith, length-append x (replicate w z), length-replicate w z))

    read_filled : length x ≤ w → take (length x) (take w (x ++ replicate w z)) ≡ x
    read_filled h = take-take (length x) w (x ++ replicate w z) h ∙ take_at x (replicate w z) (length x) refl

    -- the zeros that are left behind x, and those from its length on
    module _ (h : length x ≤ w) where
      zeros_left : take w (x ++ replicate w z) ≡ x ++ replicate (w - length x) z
      zeros_left =
          let a : w ≡ length x + (w - length x) = omega arith in
          let b : w - length x + length x ≡ w = omega arith in
          let c : replicate (w - length x) z ++ replicate (length x) z ≡ replicate w z = replicate-append-replicate (w - length x) (length x) z ∙ ap (λ (n : ℕ). replicate n z) b in
          ap (λ (n : ℕ). take n (x ++ replicate w z)) a
          ∙ take-append-add x (replicate w z) (w - length x)
          ∙ ap (λ (y : List A). x ++ take (w - length x) y) (sym c)
          ∙ ap (λ (y : List A). x ++ y) (take_at (replicate (w - length x) z) (replicate (length x) z) (w - length x) (length-replicate (w - length x) z))

      both : replicate (length x) z ++ replicate (w - length x) z ≡ replicate w z
      both =
          let a : length x + (w - length x) ≡ w = omega arith in
          replicate-append-replicate (length x) (w - length x) z ∙ ap (λ (n : ℕ). replicate n z) a

      zeros_from : drop (length x) (replicate w z) ≡ replicate (w - length x) z
      zeros_from =
          ap (λ (y : List A). drop (length x) y) (sym both) ∙ drop_at (replicate (length x) z) (replicate (w - length x) z) (length x) (length-replicate (length x) z)

      store_filled : take w (x ++ replicate w z) ≡ paste (take w (replicate w z)) 0 x (length x)
      store_filled = rw (zeros_left, zero-add, take_all w (replicate w z) (omega (arith, length-replicate w z)), zeros_from, take-length)

      -- zeros over x
      clear_filled : take w (replicate w z) ≡ paste (take w (x ++ replicate w z)) 0 (replicate (length x) z) (length x)
      clear_filled =
          rw (zeros_left, zero-add, take_all w (replicate w z) (omega (arith, length-replicate w z)), take_all (length x) (replicate (length x) z) (omega (arith, length-replicate (length x) z)), drop_at x (replicate (w - length x) z) (length x) refl)
          (sym both)

-- ---- the bytes of all arrays

abbrev pub array_of : ℕ → List Sleeper → List ℕ
array_of p q = of_process [] (λ (s : Sleeper). s.array) p q

as_blocks : (n p : ℕ) (q : List Sleeper) → blocks_from n p q ≡ blocks (λ (k : ℕ). block_of k q) n p
unfolding blocks_from
as_blocks zero p q = refl
as_blocks (suc n) p q = ap (λ (r : List ℕ). block_of p q ++ r) (as_blocks n (p + 1) q)

width : (q : List Sleeper) (p : ℕ) → length (block_of p q) ≡ array_bytes
width q p = length_filled array_bytes 0 (array_of p q)

pub length_arrays : (q : List Sleeper) → length (blocks_from processes 1 q) ≡ processes * array_bytes
length_arrays q = rw (as_blocks processes 1 q) (length_blocks array_bytes (λ (k : ℕ). block_of k q) (width q) processes 1)

module _ (q : List Sleeper) (p : ℕ) (some : 1 ≤ p) (few : p ≤ processes) where
  counted : 1 + (p - 1) ≡ p
  counted = omega arith

  -- r is q with another array for p
  changed : (r : List Sleeper) (s : List ℕ) (m : ℕ) → m ≤ array_bytes → block_of p r ≡ paste (block_of p q) 0 s m → ((j : ℕ) → j ≢ p → array_of j q ≡ array_of j r)
      → paste (blocks_from processes 1 q) (array_bytes * (p - 1)) s m ≡ blocks_from processes 1 r
  changed r s m h e o =
      ap (λ (l : List ℕ). paste l (array_bytes * (p - 1)) s m) (as_blocks processes 1 q)
      ∙ paste_blocks array_bytes (λ (k : ℕ). block_of k q) (width q) (λ (k : ℕ). block_of k r) s processes 1 (p - 1) m (omega arith) h
      (subst⁻¹ (λ (n : ℕ). block_of n r ≡ paste (block_of n q) 0 s m) counted e)
      (λ j n. ap (λ (a : List ℕ). take array_bytes (a ++ replicate array_bytes 0)) (o j (λ (z : j ≡ p). n (z ∙ sym counted))))
      ∙ sym (as_blocks processes 1 r)

  pub arrays_cleared : (r : List Sleeper) → array_of p r ≡ [] → length (array_of p q) ≤ array_bytes → ((j : ℕ) → j ≢ p → array_of j q ≡ array_of j r)
      → paste (blocks_from processes 1 q) (array_bytes * (p - 1)) (replicate (length (array_of p q)) 0) (length (array_of p q)) ≡ blocks_from processes 1 r
  arrays_cleared r e h o =
      changed r (replicate (length (array_of p q)) 0) (length (array_of p q)) h
      (ap (λ (a : List ℕ). take array_bytes (a ++ replicate array_bytes 0)) e ∙ clear_filled array_bytes 0 (array_of p q) h) o

  pub arrays_stored : (r : List Sleeper) → array_of p q ≡ [] → length (array_of p r) ≤ array_bytes → ((j : ℕ) → j ≢ p → array_of j q ≡ array_of j r)
      → paste (blocks_from processes 1 q) (array_bytes * (p - 1)) (array_of p r) (length (array_of p r)) ≡ blocks_from processes 1 r
  arrays_stored r e h o =
      changed r (array_of p r) (length (array_of p r)) h
      (store_filled array_bytes 0 (array_of p r) h
      ∙ ap (λ (a : List ℕ). paste (take array_bytes (a ++ replicate array_bytes 0)) 0 (array_of p r) (length (array_of p r))) (sym e)) o

  -- the first bytes of a process's block
  pub arrays_read : (m : ℕ) → m ≤ array_bytes → take m (drop (array_bytes * (p - 1)) (blocks_from processes 1 q)) ≡ take m (block_of p q)
  arrays_read m h =
      ap (λ (l : List ℕ). take m (drop (array_bytes * (p - 1)) l)) (as_blocks processes 1 q)
      ∙ read_blocks array_bytes (λ (k : ℕ). block_of k q) (width q) processes 1 (p - 1) m (omega arith) h
      ∙ ap (λ (n : ℕ). take m (block_of n q)) counted

  pub array_read : length (array_of p q) ≤ array_bytes → take (length (array_of p q)) (take array_bytes (drop (array_bytes * (p - 1)) (blocks_from processes 1 q))) ≡ array_of p q
  array_read h =
      ap (λ (l : List ℕ). take (length (array_of p q)) l) (arrays_read array_bytes (omega arith))
      ∙ take-take (length (array_of p q)) array_bytes (block_of p q) h
      ∙ read_filled array_bytes 0 (array_of p q) h
