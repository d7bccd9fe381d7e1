use Rattle.std.proofs.Common.{◌≡◌, drop}
use Rattle.std.specs.List.{list_all}
use Rattle.command_words.specs.Commands.{may_name}
use Rattle.command_words.proofs.options.may_all_name.Given as goal

abbrev pub invariant-loop-byte : goal.invariant-loop-byte
invariant-loop-byte l = list_all may_name (drop l.byte-index l.bytes) ≡ list_all may_name l.bytes
