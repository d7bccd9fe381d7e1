use Rattle.std.proofs.Common.{◌≡◌, [], ◌++◌, take}
use Rattle.std.specs.Prelude.{reverse}
use Rattle.run_setting.specs.Hashed.{hashed}
use Rattle.sync_model.specs.Report.{pass_number, entity_lines}
use Rattle.replay_world.proofs.report_entities.write_last.Given as goal

abbrev pub invariant-loop-place : goal.invariant-loop-place
invariant-loop-place l = l.out.items ≡ l.fn.out.items ++ entity_lines hashed (pass_number hashed []) (reverse l.writes) (reverse (take l.place l.writes))
