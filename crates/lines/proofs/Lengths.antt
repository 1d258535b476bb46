-- No line is longer than `line_bytes`, whatever its numbers are within their types, whoever of eight is woken and however many of
-- eight semaphores are shown.
use Prim.Native.Nat.{ℕ, zero, suc, ◌*◌, ◌≤◌}
use mathlib.Core.List.{List}
use native.Mathlib.Omega.{arith}
use lib.ListN.{length, length-append}
use lib.IntN.{ℤ}
use mir.Syntax.{w8, w16, w32, w64}
use mir.Val.{Fits, SFits}
use Rattle.model.specs.declared.Waking.{Waking}
use Rattle.model.specs.Limits.{semaphores, processes}
use Rattle.model.specs.Runs.{All, none, also}
use Rattle.lines.specs.Text.{word_line, position_text, waking_text, wakings_text, event_text, query_text, numbers_text, read_text}
use Rattle.lines.specs.Buffer.{position_bytes, waking_bytes, number_bytes, line_bytes}
use Rattle.lines.proofs.Digits.{digits_fit}
use Rattle.lines.proofs.Signs.{signed_short}
use Rattle.std.specs.Prelude.{Some, None}
use Rattle.model.specs.Judge.{Position}

-- a position within its type
pub data Near : Position → Type 0 where
  nowhere : Near None
  near : {k : ℕ} → Fits w8 k → Near (Some k)

pub position_short : {p : Position} → Near p → length (position_text p) ≤ position_bytes
unfolding position_text
position_short nowhere = omega arith
position_short (near h) = omega (arith, digits_fit w8 2 tt h)

-- a waking within its types
pub record Typed (w : Waking) : Type 0 where
  pub process : Fits w32 w.process
  pub code : SFits w32 w.code
  pub position : Near w.position

waking_short : {w : Waking} → Typed w → length (waking_text w.process w.code w.position) ≤ waking_bytes
unfolding waking_text
waking_short {w} t = simp length-append (omega (arith, digits_fit w32 9 tt t.process, signed_short w.code t.code, position_short t.position))

wakings_short : (n : ℕ) {ws : List Waking} → length ws ≤ n → All Typed ws → length (wakings_text ws) ≤ waking_bytes * n
unfolding wakings_text
wakings_short n h none = omega arith
wakings_short zero h (also t ts) = absurd (no h)
  where
    no : {m : ℕ} → suc m ≤ 0 → ⊥
    no z = omega arith
wakings_short (suc n) h (also t ts) = simp length-append (omega (arith, waking_short t, wakings_short n (omega arith) ts))

pub event_short : {position value looks : ℕ} {code : ℤ} {decided : Position} {ws : List Waking} → Fits w64 position → SFits w32 code → Near decided → Fits w32 value → Fits w64 looks
    → length ws ≤ processes → All Typed ws → length (event_text position code decided value looks ws) ≤ line_bytes
unfolding event_text
event_short {code = code} p c d v l n ws =
    simp length-append
    (omega (arith, digits_fit w64 19 tt p, signed_short code c, position_short d, digits_fit w32 9 tt v, digits_fit w64 19 tt l, wakings_short processes n ws))

pub query_short : {position value last increase for_zero : ℕ} {code : ℤ} → Fits w64 position → SFits w32 code → Fits w16 value → Fits w8 last
    → Fits w32 increase → Fits w32 for_zero → length (query_text position code value last increase for_zero) ≤ line_bytes
unfolding query_text
query_short {code = code} p c v l i z =
    simp length-append
    (omega (arith, digits_fit w64 19 tt p, signed_short code c, digits_fit w16 4 tt v, digits_fit w8 2 tt l, digits_fit w32 9 tt i, digits_fit w32 9 tt z))

numbers_short : (n : ℕ) {ns : List ℕ} → length ns ≤ n → All (Fits w32) ns → length (numbers_text ns) ≤ number_bytes * n
unfolding numbers_text
numbers_short n h none = omega arith
numbers_short zero h (also f fs) = absurd (no h)
  where
    no : {m : ℕ} → suc m ≤ 0 → ⊥
    no z = omega arith
numbers_short (suc n) h (also f fs) = simp length-append (omega (arith, digits_fit w32 9 tt f, numbers_short n (omega arith) fs))

pub read_short : {position : ℕ} {code : ℤ} {numbers : List ℕ} → Fits w64 position → SFits w32 code → length numbers ≤ 3 * semaphores → All (Fits w32) numbers
    → length (read_text position code numbers) ≤ line_bytes
unfolding read_text
read_short {code = code} p c n ns = simp length-append (omega (arith, digits_fit w64 19 tt p, signed_short code c, numbers_short (3 * semaphores) n ns))

pub word_short : (word : List ℕ) {n : ℕ} → length word ≤ 8 → Fits w64 n → length (word_line word n) ≤ line_bytes
unfolding word_line
word_short word h f = simp length-append (omega (arith, digits_fit w64 19 tt f))
