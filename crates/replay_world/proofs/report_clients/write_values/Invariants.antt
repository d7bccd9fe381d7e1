use Rattle.std.proofs.Common.{◌≡◌, [], ◌++◌, length}
use Rattle.run_setting.specs.Hashed.{hashed}
use Rattle.sync_model.specs.Report.{pass_number, value_lines}
use Rattle.replay_world.proofs.report_clients.write_values.Given as goal

abbrev pub invariant-keys : goal.invariant-keys
invariant-keys l = l.out.items ++ value_lines hashed (pass_number hashed []) l.number l.kind l.states ≡ l.initial.out.items ++ value_lines hashed (pass_number hashed []) l.number l.kind l.initial.states

abbrev pub decreases-keys : goal.decreases-keys
decreases-keys l = length l.states
