-- A text that HMAC-SHA-1 takes in piece by piece.
use Rattle.std.specs.Prelude.{ℕ, List, ◌++◌}
use Rattle.sha1.specs.Sha1.{sha1, Holds as HashHolds}
use Rattle.key_derivation.specs.Hmac.{inner_key, outer_key}
use Rattle.key_derivation.specs.declared.hmac.HmacSha1.{HmacSha1}

-- the state has taken in this text under this key
pub record Holds (state : HmacSha1) (key text : List ℕ) : Type 0 where
  pub inner : HashHolds state.inner (inner_key sha1 key ++ text)
  pub outer : HashHolds state.outer (outer_key sha1 key)
