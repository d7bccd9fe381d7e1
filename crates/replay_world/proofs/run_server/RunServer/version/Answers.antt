use Rattle.std.proofs.Common.{length, ap, ◌∙◌}
use Rattle.std.proofs.lemmas.List.{length-map}
use Rattle.std.specs.Prelude.{reverse}
use Rattle.replay_messages.specs.Forms.{form}
use Rattle.replay_world.proofs.run_server.RunServer.version.Goals as goal

pub returns : goal.returns
returns c =
    c.counter.ensures ∙ ap length (c.self.invariant.stored 0) ∙ length-map (reverse c.self.inside.writes.items) (form 0)
    ∙ ap length c.self.view_is
