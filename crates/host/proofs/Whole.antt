-- Nothing is forgotten: two rows of bytes that say the same, part by part, are the same row.
use Rattle.std.proofs.Common.{◌≡◌, ℕ, zero, suc, ◌+◌, ◌-◌, ◌*◌, ◌/◌, ◌%◌, ◌<◌, ◌≤◌, List, [], ◌∷◌, length, get_or, sym, ap, ◌∙◌, subst, ⊎_elim, le_of_suc-le-suc, not-suc-le-zero, mod-lt, mul_comm, div-lt_iff_lt-mul, div-add-mod', zero-mul, arith, ext_get_or}
use Rattle.host.specs.Parts.{part, Shape, shapes, Place, place_from, host_bytes, number_at, numbers_from, Row, row_in}
use Rattle.host.proofs.Numbers.{numbers_at}
use Rattle.host.proofs.PartLaws.{less_or_not, numbered}

-- every element is a byte
abbrev pub Bytes : List ℕ → Type 0
Bytes h = (i : ℕ) → get_or h i 0 < 256

-- where shapes that begin at a place end
abbrev ending : ℕ → List Shape → ℕ
ending a [] = a
ending a (s ∷ t) = ending (a + s.width * s.count) t

module _ (h h' : List ℕ) (b : Bytes h) (b' : Bytes h') where
  -- a number says its bytes
  number_says : (w k : ℕ) → number_at w h' k ≡ number_at w h k → (d : ℕ) → d < w → get_or h' (k + d) 0 ≡ get_or h (k + d) 0
  unfolding number_at
  number_says zero k e d l = absurd (not-suc-le-zero l)
  number_says (suc w) k e zero l = let z : k + 0 ≡ k = omega arith in rw z (omega (arith, e, b k, b' k))
  number_says (suc w) k e (suc d) l =
      let z : k + suc d ≡ k + 1 + d = omega arith in
      rw z (number_says w (k + 1) (omega (arith, e, b k, b' k)) d (le_of_suc-le-suc l))

  -- numbers of one width say all their bytes
  numbers_say : (w n a : ℕ) → numbers_from w a n h' ≡ numbers_from w a n h → (j : ℕ) → a ≤ j → j < a + w * n → get_or h' j 0 ≡ get_or h j 0
  numbers_say w n a e j l m =
      let wide : 0 < w = some w n (omega arith) in
      let i : ℕ = (j - a) / w in
      let d : ℕ = (j - a) % w in
      let split : i * w + d ≡ j - a = div-add-mod' (j - a) w in
      let there : a + w * i + d ≡ j = omega (arith, split, mul_comm w i) in
      let few : i < n = (div-lt_iff_lt-mul wide).1 (omega (arith, mul_comm w n)) in
      subst (λ (k : ℕ). get_or h' k 0 ≡ get_or h k 0) there
      (number_says w (a + w * i) (sym (numbers_at w n a i h' few) ∙ ap (λ (r : List ℕ). get_or r i 0) e ∙ numbers_at w n a i h few) d (mod-lt (j - a) wide))
    where
      some : (w n : ℕ) → 0 < w * n → 0 < w
      some zero n l = absurd (omega (arith, l, zero-mul n))
      some (suc w) n l = omega arith

  -- the same at one place of a list of shapes
  abbrev Same : Place → Type 0
  Same p = numbers_from p.shape.width p.at p.shape.count h' ≡ numbers_from p.shape.width p.at p.shape.count h

  -- lists of shapes say all their bytes
  shapes_say : (t : List Shape) (a : ℕ) → ((n : ℕ) → n < length t → Same (place_from a t n)) → (j : ℕ) → a ≤ j → j < ending a t → get_or h' j 0 ≡ get_or h j 0
  shapes_say [] a g j l m = absurd (omega arith)
  shapes_say (s ∷ t) a g j l m = ⊎_elim
      (λ x. numbers_say s.width s.count a (g 0 (omega arith)) j l x)
      (λ y. shapes_say t (a + s.width * s.count) (λ n k. g (suc n) (omega arith)) j y m)
      (less_or_not j (a + s.width * s.count))

  pub whole : length h' ≡ host_bytes → length h ≡ host_bytes → row_in h' ≡ row_in h → h' ≡ h
  unfolding row_in
  whole n' n e = ext_get_or 0 h' h (n' ∙ sym n) (λ j l. shapes_say shapes 0 all j (omega arith) (omega arith))
    where
      all : (n : ℕ) → n < length shapes → Same (place_from 0 shapes n)
      all n l = subst (λ (m : ℕ). Same (place_from 0 shapes m)) (numbered n l) (ap (λ (r : Row). r (part n)) e)
