-- Small facts of the crates below, which those keep to themselves.
use Rattle.std.proofs.Common.{◌≡◌, ℕ, ◌*◌, ◌+◌, ◌<◌, ◌^◌, List, [], Result, Ok, refl, arith}
use Rattle.base64.specs.Engines.{standard}
use Rattle.base64.specs.GeneralPurpose.{decode_of}
use Rattle.base64.proofs.EngineFacts.{decode_of-encode_of}
use Rattle.wire_format.specs.Fields.{IsHeader}
use Rattle.wire_format.specs.Faults.{IsNumber}
use Rattle.wire_format.specs.Spellings.{header_of}
use Rattle.wire_format.proofs.WrittenFields.{least_varint}
use Rattle.client_tags.specs.Hashes.{hash_text, IsHash}

-- the header of a number and a kind is one
pub header_is : (number kind : ℕ) → kind < 8 → IsNumber number → IsHeader (header_of number kind) number kind
header_is number kind small is = record {
  is_varint = least_varint (number * 8 + kind) (omega (arith, is.1, small));
  is_number = is.0;
  is_small = is.1;
}

-- the text of a hash decodes to its bytes
pub decode_of-hash_text : (bytes : List ℕ) → IsHash bytes → decode_of standard (hash_text bytes) ≡ Ok bytes
unfolding hash_text
decode_of-hash_text bytes is = decode_of-encode_of standard bytes refl is.are_bytes
