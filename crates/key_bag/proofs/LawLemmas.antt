-- What holds of all bags.
use Rattle.std.proofs.Common.{◌≡◌, ℕ, List, Some, Ok, sym, subst, ◌∙◌}
use Rattle.std.specs.List.{All, AllByRecursion}
use Rattle.std.proofs.lemmas.List.{length-map}
use Rattle.std.proofs.lemmas.List.Elements.{All-map, All-weaker, recursion_from_All}
use Rattle.key_derivation.specs.declared.NigoriKey.{NigoriKey}
use Rattle.nigori.specs.Sealing.{sealed}
use Rattle.nigori.specs.Unsealing.{Decodes, HoldsText}
use Rattle.nigori.specs.Laws.{UnsealingUndoesSealing, HoldsTextAlone}
use Rattle.sync_specifics.specs.Keys.{SaysKeys}
use Rattle.sync_specifics.specs.Laws.{IsKey, BagsAreRead, SayOneThing}
use Rattle.key_bag.specs.Bags.{Bag, IsBag, IsNamed, HasBlocks, names_of, keys_of, key_named, packed}
use Rattle.key_bag.specs.Texts.{sealed_under}
use Rattle.key_bag.specs.Laws.{PackedKeysAreUnpacked, SealedTextsAreUnsealed, UnsealsToAlone}
use Rattle.key_bag.proofs.Names.{found_holds}

all_blocks : (bag : Bag) → IsBag bag → All (λ named. HasBlocks named.key) bag.keys
all_blocks bag is = All-weaker IsNamed (λ named. HasBlocks named.key) (λ named is_named. is_named.blocks) bag.keys is.named

is_key : (key : NigoriKey) → HasBlocks key → IsKey key
is_key key blocks = (blocks.user.is_whole, blocks.enc.is_whole, blocks.mac.is_whole)

all_keys : (bag : Bag) → IsBag bag → AllByRecursion IsKey (keys_of bag)
all_keys bag is =
    recursion_from_All IsKey (keys_of bag) (All-map IsKey (λ named. named.key) bag.keys
    (All-weaker (λ named. HasBlocks named.key) (λ named. IsKey named.key) (λ named. is_key named.key) bag.keys (all_blocks bag is)))

pub packed_keys_are_unpacked : BagsAreRead → SayOneThing SaysKeys → PackedKeysAreUnpacked
packed_keys_are_unpacked are_read say_one bag is fits =
    let said : SaysKeys (packed bag) (Ok (keys_of bag)) =
    are_read (names_of bag) (keys_of bag)
    (length-map bag.keys (λ named. named.name) ∙ sym (length-map bag.keys (λ named. named.key))) (all_keys bag is) fits in
    record { is_said = said; is_only = λ other says. say_one (packed bag) other (Ok (keys_of bag)) says said }

sealed_is_unsealed : (other : Bag) (name plain iv : List ℕ) (key : NigoriKey) → key_named other.keys name ≡ Some key →
    HoldsTextAlone key (sealed key plain iv) plain → UnsealsToAlone other (sealed_under name key plain iv) plain
sealed_is_unsealed other name plain iv key found alone = record {
  is_text = (key, found, alone.is_text);
  is_only = λ text unseals.
      alone.is_only text (subst (λ found. Decodes (sealed key plain iv) (HoldsText found text)) (one_key unseals.0 (sym unseals.1 ∙ found)) unseals.2);
}
  where
    one_key : (found : NigoriKey) → Some found ≡ Some key → found ≡ key
    one_key found same = cc

pub sealed_texts_are_unsealed : UnsealingUndoesSealing → SealedTextsAreUnsealed
sealed_texts_are_unsealed undoes bag other name plain iv text is are_bytes is_block (key, found, is_sealed) same =
    let blocks : HasBlocks key = found_holds HasBlocks bag.keys name key (all_blocks bag is) found in
    subst (λ sealed. UnsealsToAlone other sealed plain) (sym is_sealed)
    (sealed_is_unsealed other name plain iv key (same ∙ found) (undoes key plain iv blocks.enc are_bytes is_block))
