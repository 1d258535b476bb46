use borrow.Author.Tests.{lt-ltb, le-ltb}
use Rattle.runfile.specs.File.{file_of, bad_code}
use Rattle.runfile.proofs.table.check.Goals as goal

-- `runfile::table::check` meets its contract, test by test.
pub returns-then-file-gt-FILE_MAX : goal.returns-then-file-gt-FILE_MAX
unfolding file_of bad_code
returns-then-file-gt-FILE_MAX c = rw (lt-ltb _ _ c.if-file-gt-FILE_MAX.true)

pub returns-in_default : goal.returns-in_default
unfolding file_of bad_code
returns-in_default c = rw (le-ltb _ _ c.if-file-gt-FILE_MAX.false, lt-ltb _ _ c.in_default.ensures)

pub returns-then-file-n : goal.returns-then-file-n
unfolding file_of bad_code
returns-then-file-n c =
    let there = c.in-Some.ensures in
    rw (← there.1, le-ltb _ _ c.if-file-gt-FILE_MAX.false, le-ltb _ _ there.0, lt-ltb _ _ c.if-file-n.true)

pub returns : goal.returns
unfolding file_of
returns c =
    let there = c.in-Some.ensures in
    rw (← there.1, le-ltb _ _ c.if-file-gt-FILE_MAX.false, le-ltb _ _ there.0, le-ltb _ _ c.if-file-n.false)
    c.check_bodies.ensures
