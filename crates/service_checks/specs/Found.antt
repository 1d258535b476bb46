-- A slot that was looked for.
use Rattle.std.specs.Prelude.{ℕ, Option, Some, None, if◌then◌else◌, ◌==◌}
use Rattle.model.specs.Limits.{slots}

-- the slot, if it is one of the four
abbrev pub slot_found : ℕ → Option ℕ
slot_found slot = if slot == slots then None else Some slot
