use Rattle.std.proofs.Common.{◌≡◌, ℕ, ◌+◌, List, ap, sym, subst, ◌∙◌, arith}
use Rattle.sha1.specs.Sha1.{sha1}
use Rattle.key_derivation.specs.Hmac.{hmac}
use Rattle.key_derivation.specs.Pbkdf2.{turn_value, xor_of_turns, xor_bytes}
use Rattle.key_derivation.specs.Turning.{IsAfter}
use Rattle.key_derivation.proofs.Turns.{turn_value_more, xor_of_turns_more}
use Rattle.key_derivation.proofs.pbkdf.Block.turn.Goals as goal

pub loop-turn-init : goal.loop-turn-init
loop-turn-init c pass text before some holds is = subst (IsAfter c.args.self.now pass text) (omega arith) is

pub loop-turn-preserved : goal.loop-turn-preserved
loop-turn-preserved c pass text before some holds is =
    let was = c.loop-turn.invariant pass text before some holds is in
    let prf : List ℕ → List ℕ = hmac sha1 pass in
    let turns : ℕ = before + c.loop-turn._turn in
    let value : c.next_turn-self.result ≡ turn_value prf text (turns + 1) =
    c.next_turn-self.ensures pass holds ∙ ap prf was.value ∙ sym (turn_value_more prf text turns) in
    subst (IsAfter (record { value = c.next_turn-self.result; bytes = c.xor_into.new.block }) pass text) (omega arith) record {
      value = value;
      bytes = c.xor_into.ensures
          ∙ ap (λ (block : List ℕ). xor_bytes block c.next_turn-self.result) was.bytes
          ∙ ap (xor_bytes (xor_of_turns prf text turns)) value
          ∙ sym (xor_of_turns_more prf text turns (omega (arith, some)));
    }

pub returns : goal.returns
returns c pass text before some holds is =
    subst (λ turns. IsAfter c.loop-turn.self pass text (before + turns)) (omega (arith, c.loop-turn.auto._turn-end, c.loop-turn-test.false))
    (c.loop-turn.invariant pass text before some holds is)
