-- What a write or a read that fails leaves: a beginning of the text, and of a file that was good one line, by which it is refused.
use Prim.Native.Nat.{ℕ, zero, suc, ◌+◌, ◌-◌, ◌<◌, ◌≤◌}
use mathlib.Core.Path.{◌≡◌, refl, sym}
use mathlib.Core.Bool.{Bool, true, false, cond}
use mathlib.Core.List.{List, [], ◌++◌, append_assoc}
use native.Mathlib.Omega.{arith}
use lib.Dec.{ltb}
use lib.ListN.{length, take}
use lib.Seq.{take-append-le}
use Rattle.model.specs.declared.Engine.{Engine}
use Rattle.runfile.specs.Table.{table_end, count_in}
use Rattle.runfile.specs.File.{code_of_file}
use Rattle.runfile.proofs.Beginnings.{beginning}
use Rattle.lines.specs.Buffer.{line_bytes}
use Rattle.replaying.specs.Replay.{Stage, replayed, begun, piece_of, texts_from, together}
use Rattle.replaying.specs.Texts.{firsts, RanNothing}
use Rattle.replaying.proofs.Whole.{whole}
use Rattle.replaying.proofs.Texts.{ran_nothing}

-- ---- of the text

record Begins (t text : List ℕ) : Type 0 where
  rest : List ℕ
  is : text ≡ t ++ rest

behind : (p : List ℕ) {t text : List ℕ} → Begins t text → Begins (p ++ t) (p ++ text)
behind p {t} b = record { rest = b.rest; is = rw b.is (sym (append_assoc p t b.rest)) }

module _ (engine : Engine) (file : List ℕ) where
  texts_begin : (k m : ℕ) (s : Stage) (out : List ℕ) → Begins (texts_from k engine file s out) (texts_from (k + m) engine file s out)
  unfolding texts_from
  texts_begin zero m s out = record { rest = texts_from (zero + m) engine file s out; is = refl }
  texts_begin (suc k) m s out =
      let e : suc k + m ≡ suc (k + m) = omega arith in
      let w = piece_of engine file s out in
      rw e (by (ltb 0 s.left) (behind (take w.written w.out) (texts_begin k m w.stage w.out)))
    where
      by : (b : Bool) {t text : List ℕ} → Begins t text → Begins (cond b t []) (cond b text [])
      by true g = g
      by false g = record { rest = []; is = refl }

  -- Whatever part of them was written, it is a beginning of the whole text.
  pub written_begins : (out : List ℕ) (k n : ℕ) → line_bytes ≤ length out → k ≤ (begun file out).stage.left → n ≤ length (firsts engine file out k)
      → take n (firsts engine file out k) ≡ take n (replayed engine file)
  unfolding together
  written_begins out k n room h l =
      let w = begun file out in
      let e : k + (w.stage.left - k) ≡ w.stage.left = omega arith in
      let b = behind (take w.written w.out) (rw e at (texts_begin k (w.stage.left - k) w.stage w.out)) in
      rw (← whole engine file out room, b.is) (sym (take-append-le n (firsts engine file out k) b.rest l))

-- ---- of the file

-- the first n bytes of a good one
pub beginning_runs_nothing : (engine : Engine) (file : List ℕ) (n : ℕ) → code_of_file file ≡ 0 → n < length file
    → RanNothing engine (take n file) (cond (ltb n (table_end (count_in file))) 201 202)
beginning_runs_nothing engine file n good h = ran_nothing engine (take n file) _ (beginning file n good h)
