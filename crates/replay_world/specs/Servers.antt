-- The server of a run, with its writes as the clients made them.
use Rattle.std.specs.Prelude.{◌≡◌, ℕ, List, map, reverse}
use Rattle.std.specs.List.{AllByRecursion}
use Rattle.sync_model.specs.declared.message.Content.{Content}
use Rattle.sync_model.specs.declared.message.Entry.{Entry}
use Rattle.sync_model.specs.History.{IsBased}
use Rattle.sync_model.specs.Worlds.{STORE_BIRTHDAY}
use Rattle.replay_messages.specs.Forms.{form, IsPlain}
use Rattle.replay_world.specs.declared.run_server.RunServer.TheInside.{Inside}

-- the history: the writes, the newest first
abbrev pub history_of : Inside → List (Entry Content)
history_of server = reverse server.writes.items

-- The server has the writes as they are sent in a run of any seed; nothing seals them, and each is based on the one before it of its key.
pub record IsServer (server : Inside) : Type 0 where
  pub birthday : server.server.birthday ≡ STORE_BIRTHDAY
  pub stored : (seed : ℕ) → server.server.history ≡ map (form seed) (history_of server)
  pub plain : AllByRecursion IsPlain (history_of server)
  pub based : IsBased (history_of server)
