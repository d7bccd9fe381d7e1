use Rattle.std.proofs.Common.{◌≡◌, [], Some, map}
use Rattle.std.specs.List.{range_with_len}
use Rattle.trail_desk.specs.Views.{keeping}
use Rattle.trail_desk.specs.Passes.{new_pass}
use Rattle.trail_desk.proofs.pass.Pass.for_seats.Given as goal

abbrev pub invariant-loop-made : goal.invariant-loop-made
invariant-loop-made g l =
    (l.keeper.table_id ≡ l.table.shared.table_id)
    × (l.keeper.me ≡ (keeping (Some (record { opening = l.table.shared.key; made = l.made; trail = [] })), []))
    × (l.passes.items ≡ map (new_pass (record { table = l.table.shared.table_id; opening = l.table.shared.key })) (range_with_len 1 l.made))
