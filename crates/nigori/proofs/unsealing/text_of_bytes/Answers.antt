use Rattle.std.proofs.Common.{rules, ◌≡◌, ◌≢◌, ◌∙◌, ℕ, List}
use Rattle.aes_cbc.specs.Chaining.{AreWholeBlocks}
use Rattle.nigori.proofs.Parts.{AreParts, parts_from}
use Rattle.nigori.proofs.Verdicts.{verdict_of_cipher, bad_tag_of_parts}
use Rattle.nigori.proofs.unsealing.text_of_bytes.Goals as goal

pub returns-then-ne : goal.returns-then-ne
returns-then-ne c =
    let cipher : List ℕ = c.in-Some-split_last_chunk.cipher.now in
    let found : List ℕ = c.in-Some-split_last_chunk.found.now in
    let whole : AreWholeBlocks cipher = search rules in
    let parts : AreParts c.args.bytes.now c.in-Some.iv.now cipher found =
    parts_from _ _ c.in-Some.rest.now _ _ c.in-Some.ensures.cases.0 c.in-Some.ensures.cases.1 c.in-Some.ensures.cases.2
    c.in-Some-split_last_chunk.ensures.cases.0 c.in-Some-split_last_chunk.ensures.cases.1 c.in-Some-split_last_chunk.ensures.cases.2 whole in
    let differ : found ≢ c.hmac_sha256-computed.result = search rules in
    bad_tag_of_parts c.args.key.now _ _ _ _ _ parts c.hmac_sha256-computed.ensures differ

pub returns : goal.returns
returns c =
    let cipher : List ℕ = c.in-Some-split_last_chunk.cipher.now in
    let found : List ℕ = c.in-Some-split_last_chunk.found.now in
    let whole : AreWholeBlocks cipher = search rules in
    let parts : AreParts c.args.bytes.now c.in-Some.iv.now cipher found =
    parts_from _ _ c.in-Some.rest.now _ _ c.in-Some.ensures.cases.0 c.in-Some.ensures.cases.1 c.in-Some.ensures.cases.2
    c.in-Some-split_last_chunk.ensures.cases.0 c.in-Some-split_last_chunk.ensures.cases.1 c.in-Some-split_last_chunk.ensures.cases.2 whole in
    let same : found ≡ c.hmac_sha256-computed.result = search rules in
    verdict_of_cipher c.args.key.now _ _ _ _ parts (same ∙ c.hmac_sha256-computed.ensures) c.text_of_cipher.result c.text_of_cipher.ensures
