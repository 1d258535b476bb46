-- How far a piece has come: a turn of its definition, and the invariant of its loop.
use Prim.Native.Nat.{ℕ, zero, suc, ◌+◌, ◌-◌, ◌<◌, ◌≤◌}
use mathlib.Core.Path.{◌≡◌, refl, sym, ◌∙◌}
use mathlib.Core.Bool.{true, false}
use mathlib.Core.List.{List}
use native.Mathlib.Omega.{arith}
use lib.ListN.{length}
use Rattle.model.specs.declared.Engine.{Engine}
use Rattle.host.specs.Holding.{Host}
use Rattle.runfile.specs.Body.{next_at}
use Rattle.lines.specs.Buffer.{written, has_room}
use Rattle.lines.proofs.Writing.{roomy, line_place, line_buffer}
use Rattle.replaying.specs.Replay.{Stage, onward, next_line, Came, went, wrote, piece_from, piece_of}
use Rattle.replaying.proofs.Turns.{stage, none}
use Rattle.replaying.proofs.Replies.{Turned}

-- with room and an event left the piece goes on; else it ends
module _ (engine : Engine) (file : List ℕ) (p : Stage) (at : ℕ) (out : List ℕ) where
  pub piece_turn : (n : ℕ) → 0 < n → has_room out at ≡ true
      → piece_from n engine file p at out
      ≡ piece_from (n - 1) engine file (onward engine file p) (at + length (next_line engine file p)) (written out at (next_line engine file p))
  unfolding piece_from
  piece_turn zero l h = none l
  piece_turn (suc n) l h = let e : suc n - 1 ≡ n = omega arith in rw (h, e)

  pub piece_over : (n : ℕ) → n ≡ 0 → piece_from n engine file p at out ≡ wrote p at out
  unfolding piece_from
  piece_over n h = rw h

  pub piece_full : (n : ℕ) → has_room out at ≡ false → piece_from n engine file p at out ≡ wrote p at out
  unfolding piece_from
  piece_full zero h = refl
  piece_full (suc n) h = rw h

-- from `p` to `q`, with so many bytes written: what the definition gives from here is what it gives from the start
pub record Going (engine : Engine) (file : List ℕ) (p : Stage) (out₀ : List ℕ) (q : Stage) (out : List ℕ) (next : ℕ) : Type 0 where
  pub came : Came file q
  pub same : piece_from q.left engine file q next out ≡ piece_of engine file p out₀
  pub fits : next ≤ length out
  pub size : length out ≡ length out₀

pub begins : (engine : Engine) (file : List ℕ) (p : Stage) (out : List ℕ) → Came file p → Going engine file p out p out 0
begins engine file p out k = record { came = k; same = refl; fits = omega arith; size = refl }

module _ {engine : Engine} {file : List ℕ} {p : Stage} {out₀ : List ℕ} {q : Stage} {out : List ℕ} {next : ℕ} (g : Going engine file p out₀ q out next) where
  -- one more event
  pub goes_on : {x : Host} {out' : List ℕ} {next' at' : ℕ} → 0 < q.left → has_room out next ≡ true → length out' ≡ length out
      → at' ≡ next_at file q.at → Turned engine file q out next x out' next'
      → Going engine file p out₀ (stage x (q.position + 1) (q.left - 1) at') out' next'
  unfolding onward
  goes_on {x} {out'} {next'} {at'} h r same a t =
      rw (t.host, a)
      (record {
        came = went g.came h engine;
        same = rw (line_place out (next_line engine file q) next t.put r, line_buffer out (next_line engine file q) next t.put r) (sym (piece_turn engine file q next out q.left h r) ∙ g.same);
        fits = omega (arith, t.fits, roomy out next r);
        size = same ∙ g.size;
      })

  -- the end: no event is left, or there is no room
  pub ends_over : q.left ≡ 0 → wrote q next out ≡ piece_of engine file p out₀
  ends_over h = sym (piece_over engine file q next out q.left h) ∙ g.same

  pub ends_full : has_room out next ≡ false → wrote q next out ≡ piece_of engine file p out₀
  ends_full h = sym (piece_full engine file q next out q.left h) ∙ g.same
