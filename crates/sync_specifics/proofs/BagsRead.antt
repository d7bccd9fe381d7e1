-- What the bytes of some keys say.
use Rattle.std.proofs.Common.{◌≡◌, ℕ, ◌+◌, ◌^◌, ◌<◌, List, [], ◌∷◌, ◌++◌, Option, None, Ok, length, map, refl, sym, ap, subst, ◌∙◌, arith}
use Rattle.std.specs.List.{AllByRecursion, filter, find, flat_map, fold, zip}
use Rattle.wire_format.specs.Spellings.{bytes_field}
use Rattle.key_derivation.specs.declared.NigoriKey.{NigoriKey}
use Rattle.message_fields.specs.declared.field.Part.{Part}
use Rattle.message_fields.specs.declared.field.Held.TheVariants.{Bytes}
use Rattle.message_fields.specs.declared.message.Message.{Message}
use Rattle.message_fields.specs.declared.fault.MessageFault.{MessageFault}
use Rattle.message_fields.specs.Lookups.{parts_of}
use Rattle.message_fields.specs.Readings.{is_known, IsReading, AreReadings}
use Rattle.message_fields.specs.Faults.{is_of_wrong_kind, first_of, first_fault, kind_fault, said_unless}
use Rattle.message_fields.proofs.WrittenMessages.{Written, some_bytes, written, placed, IsSound, StandsAt, whole_stands, ContentsStand, contents_stand, content_begin, content_end, message_of, written_is_read}
use Rattle.sync_specifics.specs.Keys.{key_fields, key_fault, key_of, bag_fields, key_bytes, keys_bytes}
use Rattle.sync_specifics.specs.Laws.{IsKey, BagsAreRead}
use Rattle.sync_specifics.proofs.KeysRead.{key_texts, key_read, key_has_no_fault, key_is}

-- a key and its name
abbrev Named : Type 0
Named = List ℕ × NigoriKey

-- its bytes
abbrev named_bytes : Named → List ℕ
named_bytes named = key_bytes named.0 named.1

-- the fields of some keys, as they are written
abbrev bag_texts : List Named → List Written
bag_texts [] = []
bag_texts (named ∷ bag) = some_bytes 2 (named_bytes named) ∷ bag_texts bag

texts_are : (bag : List Named) → flat_map (λ named. bytes_field 2 (key_bytes named.0 named.1)) bag ≡ written (bag_texts bag)
texts_are [] = refl
texts_are (named ∷ bag) = ap (λ rest. bytes_field 2 (named_bytes named) ++ rest) (texts_are bag)

texts_sound : (bag : List Named) → AllByRecursion IsSound (bag_texts bag)
texts_sound [] = tt
texts_sound (named ∷ bag) = ((omega arith, omega arith), texts_sound bag)

-- where the next key begins
abbrev after : ℕ → Named → ℕ
after at named = at + length (bytes_field 2 (named_bytes named))

-- all fields of the bag are known, and none has a wrong kind
all_known : (at : ℕ) (bag : List Named) → filter (is_known bag_fields) (placed at (bag_texts bag)) ≡ placed at (bag_texts bag)
all_known at [] = refl
all_known at (named ∷ bag) =
    ap (λ fields. record {
      number = 2;
      at = at;
      held = Bytes (record {
        begin = content_begin at 2 (named_bytes named);
        end = content_end at 2 (named_bytes named);
      });
    } ∷ fields) (all_known (after at named) bag)

none_wrong : (at : ℕ) (bag : List Named) → find (is_of_wrong_kind bag_fields) (placed at (bag_texts bag)) ≡ None
none_wrong at [] = refl
none_wrong at (named ∷ bag) = none_wrong (after at named) bag

-- where the keys stand
abbrev bag_parts : ℕ → List Named → List Part
bag_parts at [] = []
bag_parts at (named ∷ bag) =
    record { begin = content_begin at 2 (named_bytes named); end = content_end at 2 (named_bytes named) } ∷ bag_parts (after at named) bag

parts_are : (at : ℕ) (bag : List Named) → parts_of 2 (placed at (bag_texts bag)) ≡ bag_parts at bag
parts_are at [] = refl
parts_are at (named ∷ bag) =
    ap (λ parts. record { begin = content_begin at 2 (named_bytes named); end = content_end at 2 (named_bytes named) } ∷ parts)
    (parts_are (after at named) bag)

-- the keys, as they are read
abbrev bag_messages : ℕ → List Named → List Message
bag_messages at [] = []
bag_messages at (named ∷ bag) =
    message_of key_fields (content_begin at 2 (named_bytes named)) (content_end at 2 (named_bytes named)) (key_texts named.0 named.1)
    ∷ bag_messages (after at named) bag

keys_read : (input : List ℕ) (at : ℕ) (bag : List Named) → length input < 2 ^ 64 → ContentsStand input at (bag_texts bag) →
    AreReadings key_fields input (bag_parts at bag) (bag_messages at bag)
keys_read input at [] small stand = tt
keys_read input at (named ∷ bag) small stand = (
  key_read input named.0 named.1 (content_begin at 2 (named_bytes named)) (content_end at 2 (named_bytes named)) small stand.0,
  keys_read input (after at named) bag small stand.1,
)

-- nothing is at fault in them
no_faults : (input : List ℕ) (at : ℕ) (bag : List Named) (rest : List (Option MessageFault)) →
    AllByRecursion (λ (named : Named). IsKey named.1) bag → ContentsStand input at (bag_texts bag) →
    first_fault (map key_fault (bag_messages at bag) ++ rest) ≡ first_fault rest
no_faults input at [] rest are stand = refl
no_faults input at (named ∷ bag) rest are stand =
    ap (λ fault. fold first_of (first_of None fault) (map key_fault (bag_messages (after at named) bag) ++ rest))
    (key_has_no_fault input named.0 named.1 (content_begin at 2 (named_bytes named)) (content_end at 2 (named_bytes named)) are.0 stand.0)
    ∙ no_faults input (after at named) bag rest are.1 stand.1

-- they say the keys
keys_are : (input : List ℕ) (at : ℕ) (bag : List Named) → AllByRecursion (λ (named : Named). IsKey named.1) bag →
    ContentsStand input at (bag_texts bag) → map (λ (named : Named). named.1) bag ≡ map (key_of input) (bag_messages at bag)
keys_are input at [] are stand = refl
keys_are input at (named ∷ bag) are stand =
    ap (λ key. key ∷ map (λ (named : Named). named.1) bag)
    (key_is input named.0 named.1 (content_begin at 2 (named_bytes named)) (content_end at 2 (named_bytes named)) are.0 stand.0)
    ∙ ap (λ keys. key_of input (message_of key_fields (content_begin at 2 (named_bytes named)) (content_end at 2 (named_bytes named))
    (key_texts named.0 named.1)) ∷ keys) (keys_are input (after at named) bag are.1 stand.1)

-- keys beside their names
zipped : (names : List (List ℕ)) (keys : List NigoriKey) → length names ≡ length keys →
    map (λ (named : Named). named.1) (zip names keys) ≡ keys
zipped [] [] same = refl
zipped [] (key ∷ keys) same = absurd (omega (arith, same))
zipped (name ∷ names) [] same = absurd (omega (arith, same))
zipped (name ∷ names) (key ∷ keys) same = ap (λ rest. key ∷ rest) (zipped names keys (omega (arith, same)))

zipped_keys : (names : List (List ℕ)) (keys : List NigoriKey) → AllByRecursion IsKey keys →
    AllByRecursion (λ (named : Named). IsKey named.1) (zip names keys)
zipped_keys [] keys are = tt
zipped_keys (name ∷ names) [] are = tt
zipped_keys (name ∷ names) (key ∷ keys) are = (are.0, zipped_keys names keys are.1)

-- the bag, as it is read
abbrev bag_message : ℕ → List Named → Message
bag_message size bag = record { fields = placed 0 (bag_texts bag); wire_fault = None; end = size }

pub bags_are_read : BagsAreRead
bags_are_read names keys same are small =
    let input : List ℕ = keys_bytes names keys in
    let bag : List Named = zip names keys in
    let size : ℕ = length input in
    let stands : StandsAt input (written (bag_texts bag)) 0 size
    = subst (λ bytes. StandsAt input bytes 0 size) (texts_are bag) (whole_stands input) in
    let stand = contents_stand input 0 size (bag_texts bag) stands in
    let good = zipped_keys names keys are in
    record {
      bag = bag_message size bag;
      is_bag = subst (λ fields. IsReading bag_fields input (record { begin = 0; end = size } ∷ [])
          (record { fields = fields; wire_fault = None; end = size })) (all_known 0 bag)
          (written_is_read bag_fields input 0 size (bag_texts bag) small (texts_sound bag) stands);
      keys = bag_messages 0 bag;
      are_keys = subst (λ parts. AreReadings key_fields input parts (bag_messages 0 bag)) (sym (parts_are 0 bag))
          (keys_read input 0 bag small stand);
      is_said = ap Ok (sym (zipped names keys same) ∙ keys_are input 0 bag good stand)
          ∙ ap (λ fault. said_unless fault (map (key_of input) (bag_messages 0 bag)))
          (sym (no_faults input 0 bag (None ∷ kind_fault (find (is_of_wrong_kind bag_fields) (placed 0 (bag_texts bag))) ∷ []) good stand
          ∙ ap (λ field. first_fault (None ∷ kind_fault field ∷ [])) (none_wrong 0 bag)));
    }
