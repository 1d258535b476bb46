-- The places of a list: reading and writing one, and a list in which wakings are noted one behind the other.
use Prim.Native.Nat.{ℕ, zero, suc, ◌+◌, ◌*◌, ◌-◌, ◌/◌, ◌%◌, ◌≤◌, ◌<◌}
use mathlib.Core.Path.{◌≡◌, refl, sym, ap, ap₂, ◌∙◌}
use mathlib.Core.Bool.{Bool, true, false}
use mathlib.Core.List.{List, [], ◌∷◌, ◌++◌, map, map-append}
use native.Mathlib.Nat.{not-suc-le-zero, le_of_suc-le-suc, add-zero}
use native.Mathlib.Omega.{arith}
use lib.Dec.{eqb, ltb}
use lib.ListN.{length, get_or, set, take, drop, replicate, length-append, length-set, get_or-eq_default}
use lib.Seq.{get_or-set_same, get_or-set_other, set_out, set-append_seam, append_snoc, take-append_seam, ext_get_or}
use lib.IntN.{ℤ, pos, nat_abs}
use Rattle.std.specs.Simd.{first_chunks}
use Rattle.std.proofs.lemmas.List.{drop-drop}
use Rattle.std.proofs.lemmas.Simd.{get_or-chunk}
use borrow.Author.Tests.{eqb-true, eqb-false, ltb-true, ltb-false}
use Rattle.model.specs.declared.Waking.{Waking}
use Rattle.model.specs.Limits.{processes}
use Rattle.wakings.specs.Wakings.{Place, place_at, places_from, places_in, place_of, decided_byte, position_byte, waking_in, no_waking, list_of, wakings_in}
use mir.Val.{bool_byte}
use Rattle.std.specs.Prelude.{is_some, unwrap_or, Some, None}
use Rattle.model.specs.Judge.{Position}

-- ---- reading

length_from : (n i : ℕ) (l : List ℕ) → length (places_from n i l) ≡ n
unfolding places_from
length_from zero i l = refl
length_from (suc n) i l = ap suc (length_from n (i + 1) l)

pub length_in : (l : List ℕ) → length (places_in l) ≡ processes
unfolding places_in
length_in l = length_from processes 0 l

at_from : (n i : ℕ) (l : List ℕ) (k : ℕ) → k < n → get_or (places_from n i l) k no_waking ≡ place_at l (i + k)
unfolding places_from
at_from zero i l k h = absurd (not-suc-le-zero h)
at_from (suc n) i l zero h = ap (place_at l) (sym (add-zero i))
at_from (suc n) i l (suc k) h =
    let e : i + 1 + k ≡ i + suc k = omega arith in
    at_from n (i + 1) l k (le_of_suc-le-suc h) ∙ ap (place_at l) e

pub at_place : (l : List ℕ) (k : ℕ) → k < processes → get_or (places_in l) k no_waking ≡ place_at l k
unfolding places_in
at_place l k h = at_from processes 0 l k h ∙ ap (place_at l) (omega arith)

pub at_none : (l : List ℕ) (k : ℕ) → processes ≤ k → get_or (places_in l) k no_waking ≡ no_waking
at_none l k h = get_or-eq_default (places_in l) no_waking (omega (arith, length_in l))

same_place : {p p' d d' n n' : ℕ} {c c' : ℤ} → p ≡ p' → c ≡ c' → d ≡ d' → n ≡ n'
    → ◌≡◌ {A = Place} (record { process = p; code = c; decided = d; position = n }) (record { process = p'; code = c'; decided = d'; position = n' })
same_place a b c d = cc

-- the pieces of four bytes that the list is cut into
piece_is : (n k : ℕ) (l d : List ℕ) → k < n → get_or (first_chunks 4 n l) k d ≡ take 4 (drop (k * 4) l)
piece_is zero k l d h = absurd (not-suc-le-zero h)
piece_is (suc n) zero l d h = refl
piece_is (suc n) (suc k) l d h =
    let e : 4 + k * 4 ≡ suc k * 4 = omega arith in
    piece_is n k (drop 4 l) d (le_of_suc-le-suc h) ∙ ap (take 4) (drop-drop (k * 4) 4 l ∙ rw e)

-- .. zeros beyond the last
pub piece_at : (l : List ℕ) (pieces : List (List ℕ)) (k : ℕ) → length l ≡ 4 * processes → pieces ≡ first_chunks 4 (length l / 4) l
    → place_at (get_or pieces k (replicate 4 0)) 0 ≡ get_or (places_in l) k no_waking
piece_at l pieces k hl cut = by (ltb k processes) refl
  where
    zeros : List ℕ
    zeros = replicate 4 0

    cut_in : pieces ≡ first_chunks 4 processes l
    cut_in = let n : length l / 4 ≡ processes = omega (arith, hl) in cut ∙ rw n

    byte : (j i : ℕ) → k < processes → j < 4 → k * 4 + j ≡ i → get_or (get_or pieces k zeros) j 0 ≡ get_or l i 0
    byte j i h lt e = rw (cut_in, piece_is processes k l zeros h, sym e) (get_or-chunk (k * 4) 4 l j 0 lt)

    by : (t : Bool) → ltb k processes ≡ t → place_at (get_or pieces k zeros) 0 ≡ get_or (places_in l) k no_waking
    by true z =
        let h = ltb-true k processes z in
        same_place (byte 0 (4 * k) h (omega arith) (omega arith)) (ap pos (byte 1 (4 * k + 1) h (omega arith) (omega arith)))
        (byte 2 (4 * k + 2) h (omega arith) (omega arith)) (byte 3 (4 * k + 3) h (omega arith) (omega arith))
        ∙ sym (at_place l k h)
    by false z =
        let h = ltb-false k processes z in
        let n : length pieces ≡ processes = ap length cut_in in
        ap (λ (x : List ℕ). place_at x 0) (get_or-eq_default pieces zeros (omega (arith, n))) ∙ sym (at_none l k h)

-- two lists with the same at every place are the same bytes
pub same_bytes : (l m : List ℕ) → length l ≡ 4 * processes → length m ≡ 4 * processes → places_in l ≡ places_in m → l ≡ m
same_bytes l m hl hm e = ext_get_or 0 l m (hl ∙ sym hm) each
  where
    place : (k : ℕ) → k < processes → place_at l k ≡ place_at m k
    place k h = sym (at_place l k h) ∙ ap (λ (xs : List Place). get_or xs k no_waking) e ∙ at_place m k h

    -- the r-th byte of a place
    byte : ℕ → Place → ℕ
    byte zero x = x.process
    byte (suc zero) x = nat_abs x.code
    byte (suc (suc zero)) x = x.decided
    byte (suc (suc (suc r))) x = x.position

    read : (n : List ℕ) (k r : ℕ) → r < 4 → get_or n (4 * k + r) 0 ≡ byte r (place_at n k)
    read n k zero h = ap (λ (j : ℕ). get_or n j 0) (add-zero (4 * k))
    read n k (suc zero) h = refl
    read n k (suc (suc zero)) h = refl
    read n k (suc (suc (suc zero))) h = refl
    read n k (suc (suc (suc (suc r)))) h = absurd (omega arith)

    each : (j : ℕ) → j < length l → get_or l j 0 ≡ get_or m j 0
    each j h =
        let d : j ≡ 4 * (j / 4) + j % 4 = omega arith in
        rw d (read l (j / 4) (j % 4) (omega arith) ∙ ap (byte (j % 4)) (place (j / 4) (omega arith)) ∙ sym (read m (j / 4) (j % 4) (omega arith)))

-- ---- writing

-- no waking stands in a list of zeros
pub none_in : places_in (replicate (4 * processes) 0) ≡ list_of []
unfolding places_from places_in list_of
none_in = refl

module _ (l : List ℕ) (k p c d n : ℕ) where
  -- the bytes of a waking stored at a place, one after another
  one : List ℕ
  one = set l (4 * k) p

  two : List ℕ
  two = set one (4 * k + 1) c

  three : List ℕ
  three = set two (4 * k + 2) d

  bytes : List ℕ
  bytes = set three (4 * k + 3) n

  -- what then stands there
  place : Place
  place = record { process = p; code = pos c; decided = d; position = n }

  here : length l ≡ 4 * processes → k < processes → place_at bytes k ≡ place
  unfolding bytes three two one place
  here hl hk = same_place first (ap pos second) third (get_or-set_same three (4 * k + 3) n 0 (omega (arith, l3)))
    where
      l1 : length one ≡ length l
      l1 = length-set l (4 * k) p

      l2 : length two ≡ length l
      l2 = length-set one (4 * k + 1) c ∙ l1

      l3 : length three ≡ length l
      l3 = length-set two (4 * k + 2) d ∙ l2

      third : get_or bytes (4 * k + 2) 0 ≡ d
      third = get_or-set_other three (4 * k + 3) (4 * k + 2) n 0 (λ e. omega arith) ∙ get_or-set_same two (4 * k + 2) d 0 (omega (arith, l2))

      second : get_or bytes (4 * k + 1) 0 ≡ c
      second =
          get_or-set_other three (4 * k + 3) (4 * k + 1) n 0 (λ e. omega arith)
          ∙ get_or-set_other two (4 * k + 2) (4 * k + 1) d 0 (λ e. omega arith)
          ∙ get_or-set_same one (4 * k + 1) c 0 (omega (arith, l1))

      first : get_or bytes (4 * k) 0 ≡ p
      first =
          get_or-set_other three (4 * k + 3) (4 * k) n 0 (λ e. omega arith)
          ∙ get_or-set_other two (4 * k + 2) (4 * k) d 0 (λ e. omega arith)
          ∙ get_or-set_other one (4 * k + 1) (4 * k) c 0 (λ e. omega arith)
          ∙ get_or-set_same l (4 * k) p 0 (omega arith)

  there : (i : ℕ) → (i ≡ k → ⊥) → place_at bytes i ≡ place_at l i
  unfolding bytes three two one
  there i ne = same_place (other (4 * i) (omega arith)) (ap pos (other (4 * i + 1) (omega arith))) (other (4 * i + 2) (omega arith)) (other (4 * i + 3) (omega arith))
    where
      other : (j : ℕ) → j / 4 ≡ i → get_or bytes j 0 ≡ get_or l j 0
      other j h =
          get_or-set_other three (4 * k + 3) j n 0 (λ e. ne (omega arith))
          ∙ get_or-set_other two (4 * k + 2) j d 0 (λ e. ne (omega arith))
          ∙ get_or-set_other one (4 * k + 1) j c 0 (λ e. ne (omega arith))
          ∙ get_or-set_other l (4 * k) j p 0 (λ e. ne (omega arith))

  -- a waking stored at its place
  pub stored : length l ≡ 4 * processes → k < processes
      → places_in (set (set (set (set l (4 * k) p) (4 * k + 1) c) (4 * k + 2) d) (4 * k + 3) n) ≡ set (places_in l) k (record { process = p; code = pos c; decided = d; position = n })
  unfolding bytes three two one place
  stored hl hk = ext_get_or no_waking (places_in bytes) (set (places_in l) k place) same each
    where
      same : length (places_in bytes) ≡ length (set (places_in l) k place)
      same = length_in bytes ∙ sym (length-set (places_in l) k place ∙ length_in l)

      each : (i : ℕ) → i < length (places_in bytes) → get_or (places_in bytes) i no_waking ≡ get_or (set (places_in l) k place) i no_waking
      each i h = at_place bytes i (omega (arith, length_in bytes)) ∙ by (eqb i k) refl
        where
          by : (t : Bool) → eqb i k ≡ t → place_at bytes i ≡ get_or (set (places_in l) k place) i no_waking
          by true z = rw (eqb-true i k z) (here hl hk ∙ sym (get_or-set_same (places_in l) k place no_waking (omega (arith, length_in l))))
          by false z =
              let ne = eqb-false i k z in
              there i ne ∙ sym (at_place l i (omega (arith, length_in bytes))) ∙ sym (get_or-set_other (places_in l) k i place no_waking ne)

-- beyond the last place nothing changes
pub not_stored : (l : List ℕ) (k : ℕ) (x : Place) → processes ≤ k → places_in l ≡ set (places_in l) k x
not_stored l k x h = sym (set_out (places_in l) k x (omega (arith, length_in l)))

-- ---- what the code asks of a position

pub decided_is : (p : Position) → bool_byte (is_some p) ≡ decided_byte p
decided_is None = refl
decided_is (Some k) = refl

pub position_is : (p : Position) → unwrap_or p 0 ≡ position_byte p
position_is None = refl
position_is (Some k) = refl

-- ---- a list in which wakings are noted

length_places : (ws : List Waking) → length (map place_of ws) ≡ length ws
length_places [] = refl
length_places (w ∷ ws) = ap suc (length_places ws)

-- one more waking, behind those that are noted
pub noted : (ws : List Waking) (w : Waking) → length ws < processes → set (list_of ws) (length ws) (place_of w) ≡ list_of (ws ++ w ∷ [])
unfolding list_of
noted ws w h =
    let k = processes - length (ws ++ w ∷ []) in
    let e : processes - length ws ≡ suc k = omega (arith, length-append ws (w ∷ [])) in
    ap (λ (m : ℕ). set (map place_of ws ++ replicate m no_waking) (length ws) (place_of w)) e
    ∙ ap (λ (j : ℕ). set (map place_of ws ++ no_waking ∷ replicate k no_waking) j (place_of w)) (sym (length_places ws))
    ∙ set-append_seam (map place_of ws) no_waking (replicate k no_waking) (place_of w)
    ∙ sym (append_snoc (map place_of ws) (place_of w) (replicate k no_waking))
    ∙ ap (λ (xs : List Place). xs ++ replicate k no_waking) (sym (map-append place_of ws (w ∷ [])))

-- a waking, from its place
back : (w : Waking) → waking_in (place_of w) ≡ w
back w = by w.position refl
  where
    by : (x : Position) → w.position ≡ x → waking_in (place_of w) ≡ w
    by None e = rw e
    by (Some k) e = rw e

-- the wakings, from the list and their number
pub take_listed : (ws : List Waking) → wakings_in (length ws) (list_of ws) ≡ ws
unfolding list_of wakings_in
take_listed ws =
    ap (λ (n : ℕ). map waking_in (take n (map place_of ws ++ replicate (processes - length ws) no_waking))) (sym (length_places ws))
    ∙ ap (map waking_in) (take-append_seam (map place_of ws) (replicate (processes - length ws) no_waking))
    ∙ each ws
  where
    each : (ws : List Waking) → map waking_in (map place_of ws) ≡ ws
    each [] = refl
    each (w ∷ ws) = ap₂ (λ (x : Waking) (xs : List Waking). x ∷ xs) (back w) (each ws)
