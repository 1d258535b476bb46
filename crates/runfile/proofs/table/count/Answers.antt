use Rattle.std.proofs.Common.{◌≡◌, ℕ, ◌<◌, ◌≤◌, List, length, ◌∙◌}
use Rattle.std.specs.Prelude.{Option, Some, None, MatchOption, unwrap_or}
use borrow.Author.Tests.{lt-ltb}
use Rattle.runfile.specs.Table.{count_in, head_bytes}
use Rattle.runfile.proofs.table.count.Goals as goal

-- the number, where there is a head and where there is none
number : (file : List ℕ) (n : Option ℕ) → MatchOption n (length file < head_bytes) (λ n. (head_bytes ≤ length file) × (n ≡ count_in file)) → unwrap_or n 0 ≡ count_in file
unfolding count_in
number file None short = rw (lt-ltb _ _ short)
number file (Some n) there = there.1

pub returns : goal.returns
returns c = c.unwrap_or.ensures ∙ number c.args.file.now c.head.result c.head.ensures
