-- Bytes that are a message's.
use Rattle.std.specs.Prelude.{◌≡◌, ℕ, List}
use Rattle.sync_messages.specs.declared.message.FromServer.{FromServer}
use Rattle.sync_messages.specs.declared.message.ToServer.{ToServer}
use Rattle.sync_messages.specs.Laws.{IsSayable, IsSayableRequest}
use Rattle.sync_messages.specs.Spellings.{to_bytes, from_bytes}

-- these are the canonical bytes of a message to a server
pub record IsRequestBytes (bytes : List ℕ) : Type 0 where
  pub message : ToServer
  pub is_sayable : IsSayableRequest message.request
  pub are_bytes : bytes ≡ to_bytes message

-- these are the canonical bytes of a message from a server
pub record IsReplyBytes (bytes : List ℕ) : Type 0 where
  pub message : FromServer
  pub is_sayable : IsSayable message
  pub are_bytes : bytes ≡ from_bytes message
