-- Numbers in a row of bytes: reading one, writing one, and what a write leaves alone.
use Rattle.std.proofs.Common.{◌≡◌, ℕ, zero, suc, ◌+◌, ◌*◌, ◌/◌, ◌%◌, ◌^◌, ◌<◌, ◌≤◌, List, [], ◌∷◌, length, get_or, set, sym, refl, ap, ◌∙◌, subst, ap₂, le_of_suc-le-suc, not-suc-le-zero, add-zero, mul_assoc, mul_comm, pow-suc, mul-zero, mul-suc, add-one, arith, length-set, get_or-set_other, get_or-set_same}
use native.Mathlib.Nat.{pow-succ'}
use lib.ListN.{get_or-eq_default}
use lib.Seq.{sets, length-sets}
use Rattle.std.specs.Int.{byte_at, byte_worth, bytes_low_first, sum_through}
use Rattle.std.specs.List.{between}
use Rattle.std.proofs.lemmas.List.Edits.{get_or-between}
use Rattle.std.proofs.Math.Nat.{div-div-eq-div-mul}
use Rattle.host.specs.Parts.{number_at, bytes_of, numbers_from}

-- two rows of bytes agree from a place to another
abbrev pub Same : ℕ → ℕ → List ℕ → List ℕ → Type 0
Same a b h h' = (j : ℕ) → a ≤ j → j < b → get_or h' j 0 ≡ get_or h j 0

-- only the bytes from a to b differ
pub record StoredAt (a b : ℕ) (h h' : List ℕ) : Type 0 where
  pub long : length h' ≡ length h
  pub below : (j : ℕ) → j < a → get_or h' j 0 ≡ get_or h j 0
  pub above : (j : ℕ) → b ≤ j → get_or h' j 0 ≡ get_or h j 0

-- ---- a number

pub length_bytes : (w x : ℕ) → length (bytes_of w x) ≡ w
unfolding bytes_of
length_bytes zero x = refl
length_bytes (suc w) x = ap suc (length_bytes w (x / 256))

-- a number of one byte, and of two
pub one_byte : (h : List ℕ) (k : ℕ) → number_at 1 h k ≡ get_or h k 0
unfolding number_at
one_byte h k = omega arith

pub two_bytes : (h : List ℕ) (k : ℕ) → number_at 2 h k ≡ get_or h k 0 + 256 * get_or h (k + 1) 0
unfolding number_at
two_bytes h k = omega arith

-- it is read from its own bytes alone
pub number_same : (w : ℕ) (h h' : List ℕ) (k : ℕ) → Same k (k + w) h h' → number_at w h' k ≡ number_at w h k
unfolding number_at
number_same zero h h' k s = refl
number_same (suc w) h h' k s =
    ap₂ (λ (x y : ℕ). x + 256 * y) (s k (omega arith) (omega arith)) (number_same w h h' (k + 1) (λ j a b. s j (omega arith) (omega arith)))

-- a number of a + b bytes is one of a bytes, and behind it one of b
pub further : (a n : ℕ) → 256 ^ suc a * n ≡ 256 * (256 ^ a * n)
further a n = rw pow-succ' (mul_assoc 256 (256 ^ a) n)

pub number_joined : (a b : ℕ) (h : List ℕ) (k : ℕ) → number_at (a + b) h k ≡ number_at a h k + 256 ^ a * number_at b h (k + a)
unfolding number_at
number_joined zero b h k =
    let e : 0 + b ≡ b = omega arith in
    let z : k + 0 ≡ k = omega arith in
    rw (e, z) (omega arith)
number_joined (suc a) b h k =
    let e : suc a + b ≡ suc (a + b) = omega arith in
    let z : k + suc a ≡ k + 1 + a = omega arith in
    rw (e, z) (omega (arith, further a (number_at b h (k + 1 + a)), number_joined a b h (k + 1)))

-- stores leave what lies below and above them
sets_below : (vs l : List ℕ) (i j : ℕ) → j < i → get_or (sets l i vs) j 0 ≡ get_or l j 0
sets_below [] l i j h = refl
sets_below (v ∷ vs) l i j h = sets_below vs (set l i v) (suc i) j (omega arith) ∙ get_or-set_other l i j v 0 (λ (e : j ≡ i). omega arith)

sets_above : (vs l : List ℕ) (i j : ℕ) → i + length vs ≤ j → get_or (sets l i vs) j 0 ≡ get_or l j 0
sets_above [] l i j h = refl
sets_above (v ∷ vs) l i j h = sets_above vs (set l i v) (suc i) j (omega arith) ∙ get_or-set_other l i j v 0 (λ (e : j ≡ i). omega arith)

pub stored : (w : ℕ) (h : List ℕ) (k x : ℕ) → StoredAt k (k + w) h (sets h k (bytes_of w x))
stored w h k x =
    record {
      long = length-sets h k (bytes_of w x);
      below = λ j l. sets_below (bytes_of w x) h k j l;
      above = λ j l. sets_above (bytes_of w x) h k j (omega (arith, length_bytes w x));
    }

-- it is read as it was written
pub number_stored : (w : ℕ) (h : List ℕ) (k x : ℕ) → k + w ≤ length h → x < 256 ^ w → number_at w (sets h k (bytes_of w x)) k ≡ x
unfolding number_at bytes_of
number_stored zero h k x l m = omega arith
number_stored (suc w) h k x l m =
    let b : x / 256 < 256 ^ w = omega (arith, m, pow-suc 256 w) in
    let e : suc k ≡ k + 1 = sym (add-one k) in
    let first : get_or (sets (set h k (x % 256)) (suc k) (bytes_of w (x / 256))) k 0 ≡ x % 256 =
    sets_below (bytes_of w (x / 256)) (set h k (x % 256)) (suc k) k (omega arith) ∙ get_or-set_same h k (x % 256) 0 (omega arith) in
    let more : number_at w (sets (set h k (x % 256)) (suc k) (bytes_of w (x / 256))) (k + 1) ≡ x / 256 =
    subst (λ (n : ℕ). number_at w (sets (set h k (x % 256)) (suc k) (bytes_of w (x / 256))) n ≡ x / 256) e
    (number_stored w (set h k (x % 256)) (suc k) (x / 256) (omega (arith, length-set h k (x % 256))) b) in
    omega (arith, first, more)

-- ---- numbers of one width, one behind the other

module _ (w : ℕ) where
  pub length_numbers : (n at : ℕ) (h : List ℕ) → length (numbers_from w at n h) ≡ n
  unfolding numbers_from
  length_numbers zero at h = refl
  length_numbers (suc n) at h = ap suc (length_numbers n (at + w) h)

  pub numbers_at : (n at i : ℕ) (h : List ℕ) → i < n → get_or (numbers_from w at n h) i 0 ≡ number_at w h (at + w * i)
  unfolding numbers_from
  numbers_at zero at i h l = absurd (not-suc-le-zero l)
  numbers_at (suc n) at zero h l = rw (mul-zero, add-zero)
  numbers_at (suc n) at (suc i) h l =
      let e : at + w * suc i ≡ at + w + w * i = omega (arith, mul-suc w i) in
      rw e (numbers_at n (at + w) i h (le_of_suc-le-suc l))

  pub numbers_beyond : (n at i : ℕ) (h : List ℕ) → n ≤ i → get_or (numbers_from w at n h) i 0 ≡ 0
  numbers_beyond n at i h l = get_or-eq_default (numbers_from w at n h) 0 (omega (arith, length_numbers n at h))

  pub numbers_same : (n at : ℕ) (h h' : List ℕ) → Same at (at + w * n) h h' → numbers_from w at n h' ≡ numbers_from w at n h
  unfolding numbers_from
  numbers_same zero at h h' s = refl
  numbers_same (suc n) at h h' s =
      ap₂ (λ (x : ℕ) (y : List ℕ). x ∷ y) (number_same w h h' at (λ j a b. s j a (omega (arith, mul-suc w n))))
      (numbers_same n (at + w) h h' (λ j a b. s j (omega arith) (omega (arith, mul-suc w n))))

  pub numbers_set : (n at i : ℕ) (h h' : List ℕ) (x : ℕ) → i < n → StoredAt (at + w * i) (at + w * i + w) h h' → number_at w h' (at + w * i) ≡ x
      → numbers_from w at n h' ≡ set (numbers_from w at n h) i x
  unfolding numbers_from
  numbers_set zero at i h h' x l v e = absurd (not-suc-le-zero l)
  numbers_set (suc n) at zero h h' x l v e =
      let z : at + w * 0 ≡ at = rw (mul-zero, add-zero) in
      ap₂ (λ (x : ℕ) (y : List ℕ). x ∷ y) (rw z at e) (numbers_same n (at + w) h h' (λ j a b. v.above j (omega (arith, z))))
  numbers_set (suc n) at (suc i) h h' x l v e =
      let z : at + w * suc i ≡ at + w + w * i = omega (arith, mul-suc w i) in
      ap₂ (λ (x : ℕ) (y : List ℕ). x ∷ y) (number_same w h h' at (λ j a b. v.below j (omega (arith, z))))
      (numbers_set n (at + w) i h h' x (le_of_suc-le-suc l) (rw z at v) (rw z at e))

  -- a write that lies behind them, or before them, leaves them
  module _ {a b : ℕ} {h h' : List ℕ} (v : StoredAt a b h h') (n at : ℕ) where
    pub under : at + w * n ≤ a → numbers_from w at n h' ≡ numbers_from w at n h
    under l = numbers_same n at h h' (λ j p q. v.below j (omega arith))

    pub over : b ≤ at → numbers_from w at n h' ≡ numbers_from w at n h
    over l = numbers_same n at h h' (λ j p q. v.above j (omega arith))

-- ---- as the library reads and writes them

-- a number that is read from bytes that stand elsewhere too
module _ (bs h : List ℕ) (at n : ℕ) (same : (d : ℕ) → d < n → get_or bs d 0 ≡ get_or h (at + d) 0) where
  pub number_moved : (w j : ℕ) → j + w ≤ n → number_at w bs j ≡ number_at w h (at + j)
  unfolding number_at
  number_moved zero j l = refl
  number_moved (suc w) j l =
      let e : at + j + 1 ≡ at + (j + 1) = omega arith in
      rw e (omega (arith, same j (omega arith), number_moved w (j + 1) (omega arith)))

-- `from_le_bytes`
number_summed : (k : ℕ) (bs : List ℕ) → sum_through (λ i. byte_worth i (get_or bs i 0)) k ≡ number_at (suc k) bs 0
number_summed zero bs = sym (one_byte bs 0)
number_summed (suc k) bs =
    let e : suc (suc k) ≡ suc k + 1 = omega arith in
    let z : 0 + suc k ≡ suc k = omega arith in
    rw (e, number_joined (suc k) 1 bs 0, one_byte bs (0 + suc k), z) (omega (arith, number_summed k bs, mul_comm (get_or bs (suc k) 0) (256 ^ suc k)))

pub number_read : (k at : ℕ) (h : List ℕ) → sum_through (λ i. byte_worth i (get_or (between at (at + suc k) h) i 0)) k ≡ number_at (suc k) h at
number_read k at h =
    let z : at + 0 ≡ at = omega arith in
    number_summed k (between at (at + suc k) h)
    ∙ number_moved (between at (at + suc k) h) h at (suc k) (λ d l. get_or-between h at (at + suc k) d 0 (omega arith)) (suc k) 0 (omega arith)
    ∙ ap (λ (j : ℕ). number_at (suc k) h j) z

-- `to_le_bytes`
bytes_listed : (i k x : ℕ) → bytes_low_first i k x ≡ bytes_of k (x / 256 ^ i)
unfolding bytes_of
bytes_listed i zero x = refl
bytes_listed i (suc k) x = ap₂ (λ (b : ℕ) (r : List ℕ). b ∷ r) (one i) (bytes_listed (suc i) k x ∙ ap (bytes_of k) more)
  where
    one : (i : ℕ) → byte_at i x ≡ x / 256 ^ i % 256
    one zero = omega arith
    one (suc i) = refl

    more : x / 256 ^ suc i ≡ x / 256 ^ i / 256
    more = ap (λ (n : ℕ). x / n) (pow-suc 256 i) ∙ sym (div-div-eq-div-mul x (256 ^ i) 256)

pub bytes_written : (k x : ℕ) → bytes_low_first 0 k x ≡ bytes_of k x
bytes_written k x = bytes_listed 0 k x ∙ ap (bytes_of k) (omega arith)
