-- A key of a client.
use Rattle.std.specs.Prelude.{ℕ, List}
use Rattle.sync_model.specs.declared.state.KeyState.{KeyState}

-- the hash of a key, what the client knows of it, and the number of the last edit that was acknowledged or settled
pub record Tracked : Type 0 where
  pub hash : List ℕ
  pub state : KeyState
  pub acked : ℕ
