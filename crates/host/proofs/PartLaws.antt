-- The parts of the row: a write to one of them leaves the others.
use Rattle.std.proofs.Common.{◌≡◌, ℕ, zero, suc, ◌+◌, ◌*◌, ◌^◌, ◌<◌, ◌≤◌, Bool, true, false, cond, eqb, ltb, ◌⊎◌, List, [], ◌∷◌, ◌++◌, map, length, get_or, set, sym, refl, ap, ◌∙◌, subst, ap₂, inl, inr, ⊎_elim, le_of_suc-le-suc, not-suc-le-zero, mul-le-mul_left, mul-suc, arith, ltb-false, ltb-true, eq-eqb, eqb-true}
use borrow.Author.Tests.{eqb-false}
use lib.ListN.{get_or-eq_default, get_or-map}
use lib.Seq.{sets, set_out}
use Rattle.host.specs.Parts.{Part, arrays, of_sets, of_callers, of_table, of_clock, of_queue, parts, part, listed, number, Shape, shapes, Place, place_from, place, behind, host_bytes, number_at, bytes_of, Row, row_in, with, put}
use Rattle.host.proofs.Numbers.{StoredAt, stored, number_stored, length_numbers, numbers_at, numbers_beyond, numbers_set, under, over}

-- a function is known by its values
pub by_values : {A B : Type 0} {f g : A → B} → ((x : A) → f x ≡ g x) → f ≡ g
by_values e = λ i x. e x i

pub less_or_not : (i m : ℕ) → (i < m) ⊎ (m ≤ i)
less_or_not i m = go (ltb i m) refl
  where
    go : (t : Bool) → ltb i m ≡ t → (i < m) ⊎ (m ≤ i)
    go true e = inl (ltb-true i m e)
    go false e = inr (ltb-false i m e)

-- ---- all parts

-- each stands at its number
found : {A : Type 0} (f : Part → A) (p : Part) → get_or (map f parts) (number p) (f arrays) ≡ f p
found f p = get_or-map f parts (number p) arrays ∙ ap f (listed p).stands

-- so parts are told apart by their numbers
told_apart : (p q : Part) → number p ≡ number q → p ≡ q
told_apart p q e = sym (listed p).stands ∙ ap part e ∙ (listed q).stands

-- there are no more of them than the table has
few : (p : Part) → number p < length shapes
few p = ⊎_elim (λ a. a) (λ b. absurd (none b)) (less_or_not (number p) (length shapes))
  where
    none : length shapes ≤ number p → ⊥
    none b = omega (arith, ap number (sym (get_or-eq_default parts arrays b) ∙ (listed p).stands))

-- a row is known by its parts, or by those of the sets, of the callers, of the table, of the clock and of the queue
pub by_parts : (r s : Row) → map r parts ≡ map s parts → r ≡ s
by_parts r s e = by_values (λ p. sym (found r p) ∙ ap₂ (λ (l : List (List ℕ)) (d : List ℕ). get_or l (number p) d) e last ∙ found s p)
  where
    last : r arrays ≡ s arrays
    last = ap (λ (l : List (List ℕ)). get_or l (number arrays) []) e

abbrev pub set_parts : Row → List (List ℕ)
set_parts r = map r of_sets

abbrev pub caller_parts : Row → List (List ℕ)
caller_parts r = map r of_callers

abbrev pub table_parts : Row → List (List ℕ)
table_parts r = map r of_table

abbrev pub clock_parts : Row → List (List ℕ)
clock_parts r = map r of_clock

abbrev pub queue_parts : Row → List (List ℕ)
queue_parts r = map r of_queue

pub by_groups : (r s : Row) → set_parts r ≡ set_parts s → caller_parts r ≡ caller_parts s → table_parts r ≡ table_parts s → clock_parts r ≡ clock_parts s → queue_parts r ≡ queue_parts s → r ≡ s
by_groups r s a b c d e = by_parts r s (both a (both b (both c (both d e))))
  where
    both : {w x y z : List (List ℕ)} → w ≡ x → y ≡ z → w ++ y ≡ x ++ z
    both p q = ap₂ (λ (l m : List (List ℕ)). l ++ m) p q

-- every number that the table has is a part's
abbrev count_from : ℕ → ℕ → List ℕ
count_from a zero = []
count_from a (suc n) = a ∷ count_from (suc a) n

count_at_lem : (d n a i : ℕ) → i < n → get_or (count_from a n) i d ≡ a + i
count_at_lem d zero a i l = absurd (not-suc-le-zero l)
count_at_lem d (suc n) a zero l = omega arith
count_at_lem d (suc n) a (suc i) l = count_at_lem d n (suc a) i (le_of_suc-le-suc l) ∙ omega arith

pub numbered : (n : ℕ) → n < length shapes → number (part n) ≡ n
numbered n l = sym (get_or-map number parts n arrays) ∙ count_at_lem (number arrays) (length shapes) 0 n l ∙ omega arith

-- ---- the places are in order

later : (a : ℕ) (t : List Shape) (j : ℕ) → a ≤ (place_from a t j).at
later a [] j = omega arith
later a (s ∷ t) zero = omega arith
later a (s ∷ t) (suc j) = omega (arith, later (a + s.width * s.count) t j)

ordered : (a : ℕ) (t : List Shape) (i j : ℕ) → i < j → j < length t → behind (place_from a t i) ≤ (place_from a t j).at
ordered a [] i j l m = absurd (not-suc-le-zero m)
ordered a (s ∷ t) i zero l m = absurd (not-suc-le-zero l)
ordered a (s ∷ t) zero (suc j) l m = later (a + s.width * s.count) t j
ordered a (s ∷ t) (suc i) (suc j) l m = ordered (a + s.width * s.count) t i j (le_of_suc-le-suc l) (le_of_suc-le-suc m)

before : (p q : Part) → number p < number q → behind (place p) ≤ (place q).at
before p q l = ordered 0 shapes (number p) (number q) l (few q)

pub inside : (p : Part) → behind (place p) ≤ host_bytes
inside p = ⊎_elim (λ a. omega (arith, before p arrays a)) (λ b. subst (λ (n : ℕ). behind (place_from 0 shapes n) ≤ host_bytes) (last b) (omega arith)) (less_or_not (number p) (number arrays))
  where
    last : number arrays ≤ number p → number arrays ≡ number p
    last b = omega (arith, few p)

-- ---- reading and writing a number

abbrev pub width : Part → ℕ
width p = (place p).shape.width

abbrev pub count : Part → ℕ
count p = (place p).shape.count

-- where a number of a part lies
abbrev pub spot : Part → ℕ → ℕ
spot p i = (place p).at + width p * i

pub length_part : (p : Part) (h : List ℕ) → length (row_in h p) ≡ count p
unfolding row_in
length_part p h = length_numbers (width p) (count p) (place p).at h

pub read_part : (p : Part) (i : ℕ) (h : List ℕ) → i < count p → get_or (row_in h p) i 0 ≡ number_at (width p) h (spot p i)
unfolding row_in
read_part p i h l = numbers_at (width p) (count p) (place p).at i h l

pub read_beyond : (p : Part) (i : ℕ) (h : List ℕ) → count p ≤ i → get_or (row_in h p) i 0 ≡ 0
unfolding row_in
read_beyond p i h l = numbers_beyond (width p) (count p) (place p).at i h l

-- a number written at its place is the one number that changes
pub write_part : (p : Part) (i x : ℕ) (h : List ℕ) → length h ≡ host_bytes → i < count p → x < 256 ^ width p
    → row_in (sets h (spot p i) (bytes_of (width p) x)) ≡ put (row_in h) p i x
unfolding row_in
write_part p i x h long l m = by_values (λ q. each q (eqb (number p) (number q)) refl)
  where
    h' : List ℕ
    h' = sets h (spot p i) (bytes_of (width p) x)

    w : StoredAt (spot p i) (spot p i + width p) h h'
    w = stored (width p) h (spot p i) x

    within : spot p i + width p ≤ behind (place p)
    within = room (width p) (count p) i l
      where
        room : (w n i : ℕ) → i < n → (place p).at + w * i + w ≤ (place p).at + w * n
        room w n i l = omega (arith, mul-le-mul_left w l, mul-suc w i)

    each : (q : Part) (b : Bool) → eqb (number p) (number q) ≡ b → row_in h' q ≡ cond b (set (row_in h p) i x) (row_in h q)
    each q true e =
        subst (λ (r : Part). row_in h' r ≡ set (row_in h p) i x) (told_apart p q (eqb-true (number p) (number q) e))
        (numbers_set (width p) (count p) (place p).at i h h' x l w (number_stored (width p) h (spot p i) x (omega (arith, within, inside p, long)) m))
    each q false e = ⊎_elim
        (λ a. over (width q) w (count q) (place q).at (omega (arith, within, before p q a)))
        (λ b. ⊎_elim
        (λ c. under (width q) w (count q) (place q).at (omega (arith, before q p c)))
        (λ d. absurd (eqb-false (number p) (number q) e (omega (arith, b, d))))
        (less_or_not (number q) (number p)))
        (less_or_not (number p) (number q))

-- what lies beyond is not written
pub write_beyond : (p : Part) (i x : ℕ) (h : List ℕ) → count p ≤ i → row_in h ≡ put (row_in h) p i x
write_beyond p i x h l = by_values (λ q. each q (eqb (number p) (number q)) refl)
  where
    each : (q : Part) (b : Bool) → eqb (number p) (number q) ≡ b → row_in h q ≡ cond b (set (row_in h p) i x) (row_in h q)
    each q true e = ap (row_in h) (sym (told_apart p q (eqb-true (number p) (number q) e))) ∙ sym (set_out (row_in h p) i x (omega (arith, length_part p h)))
    each q false e = refl

-- ---- the part that begins at a place

module _ (p : Part) (q : Place) (e : place p ≡ q) (i : ℕ) (h : List ℕ) where
  pub read_place : i < q.shape.count → number_at q.shape.width h (q.at + q.shape.width * i) ≡ get_or (row_in h p) i 0
  read_place = subst (λ (k : Place). i < k.shape.count → number_at k.shape.width h (k.at + k.shape.width * i) ≡ get_or (row_in h p) i 0) e (λ l. sym (read_part p i h l))

  pub none_at : q.shape.count ≤ i → 0 ≡ get_or (row_in h p) i 0
  none_at = subst (λ (k : Place). k.shape.count ≤ i → 0 ≡ get_or (row_in h p) i 0) e (λ l. sym (read_beyond p i h l))

  pub write_place : (x : ℕ) → length h ≡ host_bytes → i < q.shape.count → x < 256 ^ q.shape.width
      → row_in (sets h (q.at + q.shape.width * i) (bytes_of q.shape.width x)) ≡ put (row_in h) p i x
  write_place x long = subst (λ (k : Place). i < k.shape.count → x < 256 ^ k.shape.width → row_in (sets h (k.at + k.shape.width * i) (bytes_of k.shape.width x)) ≡ put (row_in h) p i x) e
      (λ l m. write_part p i x h long l m)

  pub kept_at : (x : ℕ) → q.shape.count ≤ i → row_in h ≡ put (row_in h) p i x
  kept_at x = subst (λ (k : Place). k.shape.count ≤ i → row_in h ≡ put (row_in h) p i x) e (λ l. write_beyond p i x h l)

-- ---- a row with parts replaced

-- replaced twice
pub with_again : (r : Row) (p : Part) (l m : List ℕ) → with (with r p l) p m ≡ with r p m
with_again r p l m = by_values (λ q. each q (eqb (number p) (number q)))
  where
    each : (q : Part) (b : Bool) → cond b m (cond b l (r q)) ≡ cond b m (r q)
    each q true = refl
    each q false = refl

-- replaced by itself
pub with_same : (r : Row) (p : Part) → r ≡ with r p (r p)
with_same r p = by_values (λ q. each q (eqb (number p) (number q)) refl)
  where
    each : (q : Part) (b : Bool) → eqb (number p) (number q) ≡ b → r q ≡ cond b (r p) (r q)
    each q true e = ap r (sym (told_apart p q (eqb-true (number p) (number q) e)))
    each q false e = refl

-- the part that was replaced
pub with_here : (r : Row) (p : Part) (l : List ℕ) → with r p l p ≡ l
with_here r p l = rw (eq-eqb (number p) (number p) refl)

-- one number after another is put
pub put_after : {r s t : Row} (p : Part) (i x : ℕ) → t ≡ put s p i x → s ≡ r → t ≡ put r p i x
put_after p i x e d = e ∙ ap (λ (y : Row). put y p i x) d
