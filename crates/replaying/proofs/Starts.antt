-- The first line, and what is left behind it.
use Prim.Native.Nat.{ℕ}
use mathlib.Core.Path.{◌≡◌, ◌∙◌}
use mathlib.Core.List.{List}
use Rattle.model.specs.State.{fresh_state}
use Rattle.host.specs.Holding.{host_of}
use Rattle.runfile.specs.Table.{table_end, count_in}
use Rattle.runfile.specs.File.{code_of_file}
use Rattle.runfile.proofs.Walk.{good_events, bad_code_lem}
use Rattle.lines.specs.Text.{head_line, bad_line}
use Rattle.lines.specs.Buffer.{put_line}
use Rattle.replaying.specs.Replay.{first_line, wrote, begun}
use Rattle.replaying.proofs.Turns.{stage, length_events, start_bad, start_good}

module _ (file : List ℕ) (out : List ℕ) {out' : List ℕ} {next : ℕ} where
  -- a refused file: its one line, and nothing is left
  pub bad_begun : {code : ℕ} → code ≡ code_of_file file → (code ≡ 0 → ⊥) → (next, out') ≡ put_line out 0 (bad_line code)
      → wrote (stage (host_of fresh_state) 0 0 (table_end 0)) next out' ≡ begun file out
  unfolding begun first_line
  bad_begun c n w =
      let no : code_of_file file ≡ 0 → ⊥ = λ z. n (c ∙ z) in
      rw (start_bad file no, bad_code_lem file no, ← c, ← w)

  -- a good one: the number of its events, and all of them are left
  pub good_begun : {n : ℕ} → code_of_file file ≡ 0 → n ≡ count_in file → (next, out') ≡ put_line out 0 (head_line n)
      → wrote (stage (host_of fresh_state) 0 n (table_end n)) next out' ≡ begun file out
  unfolding begun first_line
  good_begun g e w =
      rw (start_good file g, good_events file g, length_events file (table_end (count_in file)) (count_in file), ← e, ← w)
