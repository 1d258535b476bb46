-- Elements of a list from a place on: the loops that read and write them, and what they are where all of them are there.
use Rattle.std.proofs.Common.{◌≡◌, ℕ, zero, suc, ◌+◌, ◌<◌, ◌≤◌, List, [], ◌∷◌, ◌++◌, map, length, get_or, take, drop, set, replicate, sym, refl, ap, ◌∙◌, ap₂, add-zero, add-one, arith, length-set, length-take-le, take_all, take-suc, take-suc-set}
use lib.ListN.{get_or-eq_default}
use lib.Seq.{sets, sets-eq, paste, slice, slice-cons, slice_empty, set_out}
use borrow.Rule.Slice.PartMut.{put_mid}
use Rattle.std.proofs.lemmas.Slice.{put_mid-paste}
use Rattle.host.specs.Rows.{from}

-- each of them is read, as numbers that values stand for
pub from_each : {A B : Type 0} (f : A → B) (d : B) (n at : ℕ) (l : List B) (out : List A) → length out ≡ n → ((i : ℕ) (e : A) → i < n → f (get_or out i e) ≡ get_or l (at + i) d) → map f out ≡ from d n at l
unfolding from
from_each f d zero at l [] e g = refl
from_each f d zero at l (x ∷ out) e g = absurd (omega arith)
from_each f d (suc n) at l [] e g = absurd (omega arith)
from_each {A} {B} f d (suc n) at l (x ∷ out) e g =
    let more : (i : ℕ) → at + suc i ≡ at + 1 + i = λ i. omega arith in
    ap₂ (λ (y : B) (r : List B). y ∷ r) (rw add-zero at (g 0 x (omega arith))) (from_each f d n (at + 1) l out (omega arith) (λ i z h. rw (more i) at (g (suc i) z (omega arith))))

module _ {A : Type 0} where
  -- ---- reading

  -- one more
  pub from_more : (d : A) (n at : ℕ) (l : List A) → from d (n + 1) at l ≡ from d n at l ++ get_or l (at + n) d ∷ []
  unfolding from
  from_more d zero at l = rw add-zero
  from_more d (suc n) at l =
      let e : at + suc n ≡ at + 1 + n = omega arith in
      let m : suc n + 1 ≡ suc (n + 1) = omega arith in
      rw (e, m) (ap (λ (r : List A). get_or l at d ∷ r) (from_more d n (at + 1) l))

  -- all of them are there
  pub from_slice : (d : A) (n at : ℕ) (l : List A) → at + n ≤ length l → from d n at l ≡ slice at (at + n) l
  unfolding from
  from_slice d zero at l h = let e : at + 0 ≡ at = omega arith in rw e (sym (slice_empty at l))
  from_slice d (suc n) at l h =
      let e : at + suc n ≡ at + 1 + n = omega arith in
      rw e
      (ap (λ (r : List A). get_or l at d ∷ r) (from_slice d n (at + 1) l (omega arith) ∙ ap (λ (k : ℕ). slice k (at + 1 + n) l) (add-one at))
      ∙ sym (slice-cons at (at + 1 + n) l d (omega arith) (omega arith)))

  -- none of them is
  pub from_beyond : (d : A) (n at : ℕ) (l : List A) → length l ≤ at → from d n at l ≡ replicate n d
  unfolding from
  from_beyond d zero at l h = refl
  from_beyond d (suc n) at l h = ap₂ (λ (x : A) (r : List A). x ∷ r) (get_or-eq_default l d h) (from_beyond d n (at + 1) l (omega arith))

  -- the loop: the first j of n are read
  pub record Reading (d : A) (n at : ℕ) (l out : List A) (j : ℕ) : Type 0 where
    pub within : j ≤ n
    pub long : length out ≡ n
    pub same : take j out ≡ from d j at l

  pub read_none : (d : A) (n at : ℕ) (l out : List A) → length out ≡ n → Reading d n at l out 0
  unfolding from
  read_none d n at l out h = record { within = omega arith; long = h; same = refl }

  pub read_more : {d : A} {n at : ℕ} {l out : List A} {j : ℕ} (x : A) → Reading d n at l out j → j < n → x ≡ get_or l (at + j) d → Reading d n at l (set out j x) (j + 1)
  read_more {d} {n} {at} {l} {out} {j} x h lt e =
      let lo : j < length out = omega (arith, h.long) in
      record {
        within = omega arith;
        long = length-set out j x ∙ h.long;
        same = rw add-one (take-suc-set out j x lo) ∙ ap₂ (λ (r : List A) (y : A). r ++ y ∷ []) h.same e ∙ sym (from_more d j at l);
      }

  pub read_all : {d : A} {n at : ℕ} {l out : List A} {j : ℕ} → Reading d n at l out j → n ≤ j → out ≡ from d n at l
  read_all {d} {n} {at} {l} {out} {j} h k =
      let e : j ≡ n = omega (arith, h.within) in
      sym (take_all n out (omega (arith, h.long))) ∙ (rw e at h.same)

  -- ---- writing

  pub sets_append : (xs ys l : List A) (at : ℕ) → sets l at (xs ++ ys) ≡ sets (sets l at xs) (at + length xs) ys
  sets_append [] ys l at = ap (λ (k : ℕ). sets l k ys) (sym (add-zero at))
  sets_append (x ∷ xs) ys l at =
      let e : suc at + length xs ≡ at + suc (length xs) = omega arith in
      sets_append xs ys (set l at x) (suc at) ∙ ap (λ (k : ℕ). sets (sets (set l at x) (suc at) xs) k ys) e

  -- the loop: the first j of the new ones are written
  pub sets_more : (vs l : List A) (at j : ℕ) (z : A) → j < length vs → set (sets l at (take j vs)) (at + j) (get_or vs j z) ≡ sets l at (take (j + 1) vs)
  sets_more vs l at j z h =
      let e : length (take j vs) ≡ j = length-take-le j vs (omega arith) in
      sym (rw (add-one j, take-suc vs j z h) (sets_append (take j vs) (get_or vs j z ∷ []) l at ∙ ap (λ (k : ℕ). set (sets l at (take j vs)) (at + k) (get_or vs j z)) e))

  -- all of them are there
  pub sets_paste : (vs l : List A) (at n : ℕ) → length vs ≡ n → at + n ≤ length l → sets l at vs ≡ paste l at vs n
  sets_paste vs l at n e h =
      sets-eq vs l at (omega arith) ∙ ap₂ (λ (r : List A) (k : ℕ). take at l ++ r ++ drop (at + k) l) (sym (take_all n vs (omega arith))) e

  -- written as `s[at..e]`
  pub sets_part : (vs l ys : List A) (at k : ℕ) → ys ≡ vs → length vs ≡ k → at + k ≤ length l → put_mid at k l ys ≡ sets l at vs
  sets_part vs l ys at k e n h = put_mid-paste at k l ys vs k e refl (sym n) ∙ sym (sets_paste vs l at k n h)

  -- none of them is
  pub sets_beyond : (vs l : List A) (at : ℕ) → length l ≤ at → sets l at vs ≡ l
  sets_beyond [] l at h = refl
  sets_beyond (v ∷ vs) l at h = ap (λ (r : List A). sets r (suc at) vs) (set_out l at v h) ∙ sets_beyond vs l (suc at) (omega arith)
