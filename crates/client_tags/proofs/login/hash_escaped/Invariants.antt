use Rattle.std.proofs.Common.{ℕ, List, ◌++◌, take}
use Rattle.sha1.specs.Sha1.{Holds}
use Rattle.client_tags.specs.Tags.{escaped}
use Rattle.client_tags.proofs.login.hash_escaped.Given as goal

abbrev pub invariant-loop-byte : goal.invariant-loop-byte
invariant-loop-byte l = (before : List ℕ) → Holds l.fn.hasher before → Holds l.hasher (before ++ escaped (take l.byte-index l.text))
