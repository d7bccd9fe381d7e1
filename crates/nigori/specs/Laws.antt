-- What holds of all keys and texts, by the definitions alone.
use Rattle.std.specs.Prelude.{◌≡◌, ℕ, List, length}
use Rattle.aes_cbc.specs.Laws.{AreBytes, IsBlock}
use Rattle.key_derivation.specs.declared.NigoriKey.{NigoriKey}
use Rattle.nigori.specs.Sealing.{sealed, key_name}
use Rattle.nigori.specs.Unsealing.{Decodes, HoldsText}

-- a blob holds this text under a key, and no other
pub record HoldsTextAlone (key : NigoriKey) (blob text : List ℕ) : Type 0 where
  pub is_text : Decodes blob (HoldsText key text)
  pub is_only : (other : List ℕ) → Decodes blob (HoldsText key other) → other ≡ text

-- a text that is sealed and then unsealed, under one key, is the text again
abbrev pub UnsealingUndoesSealing : Type 0
UnsealingUndoesSealing =
    (key : NigoriKey) (plain iv : List ℕ) → IsBlock key.enc → AreBytes plain → IsBlock iv
    → HoldsTextAlone key (sealed key plain iv) plain

-- the name of each key has 88 characters
abbrev pub NamesHave88Characters : Type 0
NamesHave88Characters = (key : NigoriKey) → length (key_name key) ≡ 88
