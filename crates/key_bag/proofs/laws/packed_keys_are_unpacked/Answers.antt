use Rattle.key_bag.proofs.LawLemmas.{packed_keys_are_unpacked}
use Rattle.key_bag.proofs.laws.packed_keys_are_unpacked.Goals as goal

pub returns : goal.returns
returns c = packed_keys_are_unpacked c.written_values_are_read.ensures.bags c.bytes_say_one_thing.ensures.bags
