use Rattle.std.proofs.Common.{◌≡◌, ◌++◌, take}
use Rattle.client_tags.specs.Tags.{escaped}
use Rattle.client_tags.proofs.tag.push_escaped.Given as goal

abbrev pub invariant-loop-byte : goal.invariant-loop-byte
invariant-loop-byte l = l.tag.items ≡ l.fn.tag.items ++ escaped (take l.byte-index l.text)
