use Rattle.std.proofs.Common.{◌≡◌, ◌+◌, ◌++◌, drop}
use Rattle.run_setting.specs.Hashed.{hashed}
use Rattle.sync_model.specs.Report.{clients_lines}
use Rattle.replay_world.proofs.world.World.write_clients.Given as goal

abbrev pub invariant-loop-place : goal.invariant-loop-place
invariant-loop-place l = l.out.items ++ clients_lines hashed l.self (l.place + 1) (drop l.place l.self.clients) ≡ l.initial.out.items ++ clients_lines hashed l.self 1 l.self.clients
