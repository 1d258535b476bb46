use Rattle.std.proofs.Common.{ap, ap₂, ◌∙◌, ℕ, List, take}
use Rattle.host.specs.Holding.{array_in}
use Rattle.host.proofs.SleeperLaws.{take_there}
use Rattle.host.proofs.sleepers.array_of.Goals as goal

pub returns : goal.returns
unfolding array_in
returns c =
    let room = c.room_of-room.result.now in
    ap (λ (n : ℕ). take n room) c.min-size.ensures ∙ take_there c.size_at.result room
    ∙ ap₂ (λ (n : ℕ) (l : List ℕ). take n l) c.size_at.ensures c.room_of-room.ensures
