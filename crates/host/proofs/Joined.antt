-- Numbers and arrays put together: a number written in two halves, a row that one number more is written in, and the array that is
-- lent from the row.
use Rattle.std.proofs.Common.{◌≡◌, ℕ, zero, suc, ◌+◌, ◌-◌, ◌*◌, ◌/◌, ◌%◌, ◌^◌, ◌<◌, ◌≤◌, min, List, ◌∷◌, ◌++◌, length, get_or, take, drop, sym, refl, ap, ◌∙◌, mod-lt, pow-suc, ⊎_elim, arith, length-take, take_all, take-take}
use native.Mathlib.Nat.{div-add-mod, one-le-pow, min-eq_left, min-eq_right, min-le_left}
use lib.Seq.{sets, length-sets}
use Rattle.model.specs.Limits.{processes, array_bytes}
use Rattle.host.specs.Parts.{Part, sizes, arrays, place, host_bytes, bytes_of, Row, row_in, put}
use Rattle.host.specs.Holding.{entry, array_in}
use Rattle.host.proofs.Numbers.{further, length_bytes}
use Rattle.host.proofs.PartLaws.{width, count, spot, less_or_not, write_part}
use Rattle.host.proofs.RowLaws.{sets_append}
use Rattle.host.proofs.SleeperLaws.{bytes_of_part}

-- a number of a + b bytes is one of a bytes, and behind it one of b
bytes_joined : (a b low high : ℕ) → low < 256 ^ a → bytes_of (a + b) (low + 256 ^ a * high) ≡ bytes_of a low ++ bytes_of b high
unfolding bytes_of
bytes_joined zero b low high l =
    let e : 0 + b ≡ b = omega arith in
    let z : low + 256 ^ 0 * high ≡ high = omega arith in
    rw (e, z)
bytes_joined (suc a) b low high l =
    let e : suc a + b ≡ suc (a + b) = omega arith in
    let first : (low + 256 ^ suc a * high) % 256 ≡ low % 256 = omega (arith, further a high) in
    let more : (low + 256 ^ suc a * high) / 256 ≡ low / 256 + 256 ^ a * high = omega (arith, further a high) in
    rw (e, first, more) (ap (λ (r : List ℕ). low % 256 ∷ r) (bytes_joined a b (low / 256) high (omega (arith, l, pow-suc 256 a))))

pub sets_joined : (a b : ℕ) (h : List ℕ) (k x : ℕ) → sets (sets h k (bytes_of a (x % 256 ^ a))) (k + a) (bytes_of b (x / 256 ^ a)) ≡ sets h k (bytes_of (a + b) x)
sets_joined a b h k x =
    let low = bytes_of a (x % 256 ^ a) in
    let high = bytes_of b (x / 256 ^ a) in
    let whole : x % 256 ^ a + 256 ^ a * (x / 256 ^ a) ≡ x = omega (arith, div-add-mod x (256 ^ a)) in
    ap (λ (n : ℕ). sets (sets h k low) (k + n) high) (sym (length_bytes a (x % 256 ^ a)))
    ∙ sym (sets_append low high h k)
    ∙ ap (λ (l : List ℕ). sets h k l) (sym (bytes_joined a b (x % 256 ^ a) (x / 256 ^ a) (mod-lt x (one-le-pow a 256 (omega arith)))) ∙ ap (bytes_of (a + b)) whole)

-- what a row of bytes says
pub record Says (h : List ℕ) (r : Row) : Type 0 where
  pub long : length h ≡ host_bytes
  pub same : row_in h ≡ r

pub says : (h : List ℕ) → length h ≡ host_bytes → Says h (row_in h)
says h long = record { long = long; same = refl }

-- one more is written, of any width
pub says_number : {h h' : List ℕ} {r : Row} → Says h r → (p : Part) (i x : ℕ) → i < count p → x < 256 ^ width p → h' ≡ sets h (spot p i) (bytes_of (width p) x) → Says h' (put r p i x)
says_number {h} k p i x l m e =
    let b = bytes_of (width p) x in
    record { long = ap length e ∙ length-sets h (spot p i) b ∙ k.long; same = ap row_in e ∙ write_part p i x h k.long l m ∙ ap (λ (y : Row). put y p i x) k.same }

pub take_min : (m n : ℕ) (l : List ℕ) → take m (take n l) ≡ take (min n m) l
take_min m n l = ⊎_elim
    (λ a. let b : m ≤ n = omega arith in take-take m n l b ∙ ap (λ (k : ℕ). take k l) (sym (min-eq_right b)))
    (λ b. take_all m (take n l) (omega (arith, length-take n l, min-le_left n (length l))) ∙ ap (λ (k : ℕ). take k l) (sym (min-eq_left b)))
    (less_or_not m n)

-- the array that a process sleeps on
module _ (h : List ℕ) (p i : ℕ) (e : i ≡ entry p) where
  -- `&all[from..to]`
  abbrev lent : ℕ → List ℕ
  lent n = take ((place arrays).at + array_bytes * i + n - ((place arrays).at + array_bytes * i)) (drop ((place arrays).at + array_bytes * i) h)

  lent_is : (n : ℕ) → length h ≡ host_bytes → i < processes → n ≤ array_bytes → lent n ≡ take n (drop (array_bytes * entry p) (row_in h arrays))
  lent_is n long l m =
      let d : (place arrays).at + array_bytes * i + n - ((place arrays).at + array_bytes * i) ≡ n = omega arith in
      ap (λ (k : ℕ). take k (drop ((place arrays).at + array_bytes * i) h)) d
      ∙ sym (bytes_of_part arrays h refl long (array_bytes * i) n (omega arith))
      ∙ ap (λ (m : ℕ). take n (drop (array_bytes * m) (row_in h arrays))) e

  pub array_there : (n size : ℕ) → length h ≡ host_bytes → i < processes → size ≡ get_or (row_in h sizes) (entry p) 0 → n ≡ min array_bytes size
      → lent n ≡ array_in (row_in h) p
  unfolding array_in
  array_there n size long l es en =
      lent_is n long l (omega (arith, en, min-le_left array_bytes size))
      ∙ ap (λ (k : ℕ). take k (drop (array_bytes * entry p) (row_in h arrays))) (en ∙ ap (λ (k : ℕ). min array_bytes k) es)
      ∙ sym (take_min (get_or (row_in h sizes) (entry p) 0) array_bytes (drop (array_bytes * entry p) (row_in h arrays)))
