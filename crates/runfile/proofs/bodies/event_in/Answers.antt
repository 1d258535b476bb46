use mathlib.Core.Path.{◌≡◌, sym, ◌∙◌}
use mir.Syntax.{w32}
use mir.Val.{to_z, of_z}
use mir.Facts.{to_z-of_z}
use Rattle.runfile.specs.Body.{identifier_in, handed_in, event_in}
use Rattle.runfile.proofs.Numbers.{half_is, word_is, long_is, signed_is}
use Rattle.runfile.proofs.bodies.event_in.Goals as goal
use Rattle.runfile.proofs.bodies.event_in.Goals.{After-from_le_bytes-identifier}

-- the identifier, of each kind that names a set
identifier-is : (c : After-from_le_bytes-identifier) → to_z w32 (of_z w32 c.from_le_bytes-identifier.result) ≡ identifier_in c.args.body.now
identifier-is c = to_z-of_z {w = w32} (record { sfits = c.from_le_bytes-identifier.type_inv }) ∙ c.from_le_bytes-identifier.ensures ∙ signed_is _ 2 _ c.bytes_at.ensures

pub returns-in-Create : goal.returns-in-Create
unfolding event_in
returns-in-Create c = rw (sym c.requires, c.in-Create.is, c.byte_at-process.ensures, c.byte_at.ensures, c.from_le_bytes.ensures, half_is _ 3 _ c.bytes_at-in-Create.ensures)

pub returns-in-Operate : goal.returns-in-Operate
unfolding event_in handed_in
returns-in-Operate c = rw (sym c.requires, c.in-Operate.is, c.byte_at-process.ensures, identifier-is (goal.at.returns-in-Operate c).After-from_le_bytes-identifier)

pub returns-in-SetValue : goal.returns-in-SetValue
unfolding event_in
returns-in-SetValue c = rw (sym c.requires, c.in-SetValue.is, c.byte_at-process.ensures, identifier-is (goal.at.returns-in-SetValue c).After-from_le_bytes-identifier, c.from_le_bytes-in-SetValue.ensures, half_is _ 6 _ c.bytes_at-in-SetValue.ensures, to_z-of_z (record { sfits = c.from_le_bytes-in-SetValue-2.type_inv }), c.from_le_bytes-in-SetValue-2.ensures, signed_is _ 8 _ c.bytes_at-in-SetValue-2.ensures)

pub returns-in-Remove : goal.returns-in-Remove
unfolding event_in
returns-in-Remove c = rw (sym c.requires, c.in-Remove.is, c.byte_at-process.ensures, identifier-is (goal.at.returns-in-Remove c).After-from_le_bytes-identifier)

pub returns-in-Signal : goal.returns-in-Signal
unfolding event_in
returns-in-Signal c = rw (sym c.requires, c.in-Signal.is, c.byte_at-process.ensures)

pub returns-in-Exit : goal.returns-in-Exit
unfolding event_in
returns-in-Exit c = rw (sym c.requires, c.in-Exit.is, c.byte_at-process.ensures)

pub returns-in-Query : goal.returns-in-Query
unfolding event_in
returns-in-Query c = rw (sym c.requires, c.in-Query.is, c.byte_at-process.ensures, identifier-is (goal.at.returns-in-Query c).After-from_le_bytes-identifier, c.from_le_bytes-in-Query.ensures, half_is _ 6 _ c.bytes_at-in-Query.ensures)

pub returns-in-OperateWithin : goal.returns-in-OperateWithin
unfolding event_in handed_in
returns-in-OperateWithin c = rw (sym c.requires, c.in-OperateWithin.is, c.byte_at-process.ensures, identifier-is (goal.at.returns-in-OperateWithin c).After-from_le_bytes-identifier, c.from_le_bytes-in-OperateWithin.ensures, word_is _ 6 _ c.bytes_at-in-OperateWithin.ensures)

pub returns-in-Clock : goal.returns-in-Clock
unfolding event_in
returns-in-Clock c = rw (sym c.requires, c.in-Clock.is, c.from_le_bytes-in-Clock.ensures, long_is _ 1 _ c.bytes_at-in-Clock.ensures)

pub returns-in-SetAll : goal.returns-in-SetAll
unfolding event_in handed_in
returns-in-SetAll c = rw (sym c.requires, c.in-SetAll.is, c.byte_at-process.ensures, identifier-is (goal.at.returns-in-SetAll c).After-from_le_bytes-identifier)

pub returns-in-ReadAll : goal.returns-in-ReadAll
unfolding event_in
returns-in-ReadAll c = rw (sym c.requires, c.in-ReadAll.is, c.byte_at-process.ensures, identifier-is (goal.at.returns-in-ReadAll c).After-from_le_bytes-identifier)

pub returns-in-ActAs : goal.returns-in-ActAs
unfolding event_in
returns-in-ActAs c = rw (sym c.requires, c.in-ActAs.is, c.byte_at-process.ensures, c.from_le_bytes-in-ActAs.ensures, word_is _ 2 _ c.bytes_at-in-ActAs.ensures, c.from_le_bytes-in-ActAs-2.ensures, word_is _ 6 _ c.bytes_at-in-ActAs-2.ensures)
