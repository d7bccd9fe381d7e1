use Rattle.std.proofs.Common.{◌≡◌, ℕ, ◌+◌, List, take, ap, ◌∙◌, arith}
use Rattle.key_derivation.specs.DerivedKeys.{salt, derive_key}
use Rattle.key_derivation.specs.Pbkdf2.{first_text}
use Rattle.key_derivation.specs.Turning.{IsAfter}
use Rattle.key_derivation.proofs.Blocks.{first_key}
use Rattle.key_derivation.proofs.derivation.derive.Goals as goal

pub returns : goal.returns
unfolding salt derive_key
returns c =
    let pass : List ℕ = c.args.pass.now in
    let text : List ℕ = first_text salt 1 in
    let begun : IsAfter c.first-block.result pass text 1 = c.first-block.ensures pass c.new-keyed.ensures in
    let user : IsAfter c.turn.new.self pass text 1002 = c.turn.ensures pass text 1 (omega arith) c.new-keyed.ensures begun in
    let enc : IsAfter c.turn-2.new.self pass text 1003 = c.turn-2.ensures pass text 1002 (omega arith) c.new-keyed.ensures user in
    let mac : IsAfter c.turn-3.new.self pass text 1004 = c.turn-3.ensures pass text 1003 (omega arith) c.new-keyed.ensures enc in
    λ i. record {
      user = (c.key_in-user.ensures ∙ ap (take 16) user.bytes ∙ first_key pass salt 1002) i;
      enc = (c.key_in-enc.ensures ∙ ap (take 16) enc.bytes ∙ first_key pass salt 1003) i;
      mac = (c.key_in-mac.ensures ∙ ap (take 16) mac.bytes ∙ first_key pass salt 1004) i;
    }
