-- Texts written one behind the other.
use Prim.Native.Nat.{ℕ, ◌+◌, ◌≤◌}
use mathlib.Core.Path.{◌≡◌, refl, sym, ap, subst, ◌∙◌}
use mathlib.Core.Bool.{Bool, true, false}
use mathlib.Core.List.{List, [], ◌++◌, append_assoc}
use native.Mathlib.Nat.{add_assoc}
use native.Mathlib.Omega.{arith}
use lib.ListN.{length, take, length-append, length-drop}
use lib.Seq.{paste, paste-zero, length-paste, take-paste, drop-paste, drop-drop, take-length, length-take-le}
use borrow.Author.Tests.{leb-true}
use Rattle.lines.specs.declared.writer.Writer.{Writer}
use Rattle.lines.specs.Buffer.{written, Put, Wrote, line_bytes, has_room, put_line}

module _ (out : List ℕ) (at : ℕ) where
  pub length_written : (s : List ℕ) → at + length s ≤ length out → length (written out at s) ≡ length out
  length_written s h = length-paste out at s (length s) h (omega arith)

  -- a text behind a text
  pub written_append : (s t : List ℕ) → at + length s ≤ length out → written (written out at s) (at + length s) t ≡ written out at (s ++ t)
  written_append s t h =
      let a : at ≤ length out = omega arith in
      let n : length s ≤ length s = omega arith in
      rw (take-paste out at s (length s) a n, ← drop-drop (length t) (at + length s) (paste out at s (length s)), drop-paste out at s (length s) a n, drop-drop, take-length (s ++ t))
      (simp (take-length, length-append, add_assoc, append_assoc))

-- ---- one piece of a line after another

pub then : {out after last : List ℕ} {at next end : ℕ} {s t : List ℕ} → Put out at s after next → Put after next t last end → Put out at (s ++ t) last end
then {out} {after} {last} {at} {next} {end} {s} {t} p q =
    record {
      room = let e : length after ≡ length out = ap length p.buffer ∙ length_written out at s p.room in rw length-append (omega (arith, p.room, p.place, q.room));
      place = rw length-append (omega (arith, p.place, q.place));
      buffer = q.buffer ∙ rw (p.buffer, p.place) (written_append out at s t p.room);
    }

-- ---- with a bound on their length

pub nothing : (w : Writer) → w.at ≤ length w.out.now → Wrote 0 w [] w
nothing w h =
    record {
      same_reference = refl;
      put = record { room = omega arith; place = omega arith; buffer = paste-zero w.out.now w.at [] };
      short = omega arith;
      same_length = refl;
    }

-- one more piece
pub also : {m n : ℕ} {before between after : Writer} {s t : List ℕ} → Wrote m before s between → Wrote n between t after → Wrote (m + n) before (s ++ t) after
also p q =
    record {
      same_reference = q.same_reference ∙ p.same_reference;
      put = then p.put q.put;
      short = rw length-append (omega (arith, p.short, q.short));
      same_length = q.same_length ∙ p.same_length;
    }

pub at_most : {m n : ℕ} {before after : Writer} {s : List ℕ} → Wrote m before s after → m ≤ n → Wrote n before s after
at_most p h = record { same_reference = p.same_reference; put = p.put; short = omega (arith, p.short); same_length = p.same_length }

-- a sign or none, and digits
pub signed : {most : ℕ} {before between after : Writer} {sign digits text : List ℕ} → Wrote (length sign) before sign between → Wrote (length digits) between digits after
    → text ≡ sign ++ digits → length text ≤ most → Wrote most before text after
signed {most} {before} {between} {after} {sign} {digits} p q e h =
    subst (λ (t : List ℕ). Wrote most before t after) (sym e) (at_most (also p q) (omega (arith, h, ap length e ∙ length-append sign digits)))

-- ---- whole lines

-- what the test tells
pub roomy : (out : List ℕ) (at : ℕ) → has_room out at ≡ true → at + line_bytes ≤ length out
roomy out at h = leb-true (at + line_bytes) (length out) h

-- a line function's answer and buffer, and that the line fits
abbrev pub Line : List ℕ → ℕ → List ℕ → List ℕ → ℕ → Type 0
Line out at text after next = ((next, after) ≡ put_line out at text) × (next ≤ at + line_bytes)

-- with room for any line, and without
pub line : {before after : Writer} {text : List ℕ} → has_room before.out.now before.at ≡ true → Wrote line_bytes before text after
    → Line before.out.now before.at text after.out.now after.at
unfolding put_line
line h p = (rw (h, p.put.place, p.put.buffer), omega (arith, p.put.place, p.short))

pub no_line_lem : (out text : List ℕ) (at : ℕ) → has_room out at ≡ false → Line out at text out at
unfolding put_line
no_line_lem out text at h = (rw h, omega arith)

-- where there is room, the line stands behind what was written before
module _ (out text : List ℕ) (at : ℕ) {after : List ℕ} {next : ℕ} (e : (next, after) ≡ put_line out at text) (h : has_room out at ≡ true) where
  put_there : ◌≡◌ {A = ℕ × List ℕ} (next, after) (at + length text, written out at text)
  unfolding put_line
  put_there = rw h at e

  pub line_place : next ≡ at + length text
  line_place = ap (λ (x : ℕ × List ℕ). x.0) put_there

  pub line_buffer : after ≡ written out at text
  line_buffer = ap (λ (x : ℕ × List ℕ). x.1) put_there

-- the text up to the position behind a line grows by it
pub line_text : (out text : List ℕ) (at : ℕ) → at ≤ length out → take (at + length text) (written out at text) ≡ take at out ++ text
line_text out text at h = rw (take-paste out at text (length text) h (omega arith), take-length)

-- no text makes a buffer shorter
pub length_grows : (out : List ℕ) (at : ℕ) (text : List ℕ) → at ≤ length out → length out ≤ length (written out at text)
length_grows out at text h = simp (length-append, take-length) (omega (arith, length-take-le at out h, length-drop (at + length text) out))

-- the position behind a line lies within the buffer
pub line_fits : (out text : List ℕ) (at : ℕ) {after : List ℕ} {next : ℕ} → (next, after) ≡ put_line out at text → next ≤ at + line_bytes → at ≤ length out
    → next ≤ length out
unfolding put_line
line_fits out text at {after} {next} e f h = by (has_room out at) refl
  where
    by : (t : Bool) → has_room out at ≡ t → next ≤ length out
    by true r = omega (arith, roomy out at r)
    by false r =
        let z : ◌≡◌ {A = ℕ × List ℕ} (next, after) (at, out) = rw r at e in
        omega (arith, ap (λ (x : ℕ × List ℕ). x.0) z)
