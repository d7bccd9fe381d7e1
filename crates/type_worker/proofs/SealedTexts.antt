-- Texts that a bag seals by name.
use Rattle.std.proofs.Common.{◌≡◌, ℕ, List, sym, ◌∙◌}
use Rattle.sync_values.specs.declared.value.Value.{Value}
use Rattle.sync_specifics.specs.declared.sealed.Sealed.{Sealed}
use Rattle.nigori.specs.Sealing.{sealed}
use Rattle.key_bag.specs.Bags.{Bag}
use Rattle.key_bag.specs.Texts.{IsSealedBy}
use Rattle.replay_messages.specs.Sealed.{text_to_seal}
use Rattle.type_worker.specs.Sending.{key_of, text_under}

-- what a bag seals by name of a value's text
pub sealed_by_name : (bag : Bag) (name plain iv : List ℕ) (text : Sealed) (value : Value) → IsSealedBy bag name plain iv text → plain ≡ text_to_seal value →
    text ≡ text_under bag name iv value
sealed_by_name bag name plain iv text value (key, found, is) is_plain =
    is ∙ (λ i. record { key_name = name; blob = sealed (key_of (sym found i)) (is_plain i) iv })
