use Prim.Native.Nat.{◌+◌}
use native.Mathlib.Omega.{arith}
use mathlib.Core.Path.{◌≡◌, sym, ◌∙◌}
use Rattle.model.specs.State.{row}
use Rattle.host.specs.Parts.{values, row_in, put}
use Rattle.service_table.proofs.SettingLaws.{put_more, put_end}
use Rattle.service_table.proofs.put_all.Goals as goal
use Rattle.service_table.proofs.put_all.Goals.{After-put_value}

-- one value stands where it belongs
wrote : (c : After-put_value) → row_in c.put_value.new.host ≡ put (row_in c.loop-n.host) values (row c.args.slot.index + c.loop-n.n) c.value_in.result
wrote c = c.put_value.ensures

pub loop-n-preserved : goal.loop-n-preserved
loop-n-preserved c = put_more c.args.bytes.now (row_in c.loop-n.host) (row_in c.put_value.new.host) (row c.args.slot.index) c.loop-n.n c.loop-n-test.true (wrote (goal.at.loop-n-preserved c).After-put_value) c.value_in.ensures ∙ c.loop-n.invariant

pub returns : goal.returns
returns c = sym (put_end _ _ _ c.loop-n.n (omega arith)) ∙ c.loop-n.invariant
