-- Reading keys one by one.
use Rattle.std.proofs.Common.{◌≡◌, ℕ, ◌+◌, ◌≤◌, List, [], ◌∷◌, ◌++◌, Option, None, length, drop, map, refl, sym, ap, subst, ◌∙◌}
use Rattle.std.specs.List.{fold}
use Rattle.std.proofs.lemmas.List.{append_assoc, append-nil, at_drop_all, map-append}
use Rattle.key_derivation.specs.declared.NigoriKey.{NigoriKey}
use Rattle.message_fields.specs.declared.field.Part.{Part}
use Rattle.message_fields.specs.declared.message.Message.{Message}
use Rattle.message_fields.specs.declared.fault.MessageFault.{MessageFault}
use Rattle.message_fields.specs.Readings.{IsReading, AreReadings}
use Rattle.message_fields.specs.Faults.{first_of, first_fault}
use Rattle.sync_specifics.specs.Keys.{key_fields, key_fault, key_of, AreKeysIn}

-- the keys of the parts up to one of them
pub record KeysSoFar (input : List ℕ) (parts : List Part) (index : ℕ) (fault : Option MessageFault) (keys : List NigoriKey) : Type 0 where
  pub messages : List Message
  pub goes_on : (rest : List Message) → AreReadings key_fields input (drop index parts) rest →
      AreReadings key_fields input parts (messages ++ rest)
  pub is_fault : fault ≡ first_fault (map key_fault messages)
  pub are_keys : keys ≡ map (key_of input) messages

-- no key yet
pub no_keys : (input : List ℕ) (parts : List Part) → KeysSoFar input parts 0 None []
no_keys input parts = record { messages = []; goes_on = λ rest are. are; is_fault = refl; are_keys = refl }

fold_more : (faults : List (Option MessageFault)) (start last : Option MessageFault) →
    fold first_of start (faults ++ last ∷ []) ≡ first_of (fold first_of start faults) last
fold_more [] start last = refl
fold_more (fault ∷ faults) start last = fold_more faults (first_of start fault) last

-- one more key
pub one_key : (input : List ℕ) (parts : List Part) (index : ℕ) (part : Part) (message : Message) (old new : Option MessageFault)
    (keys more : List NigoriKey) → drop index parts ≡ part ∷ drop (index + 1) parts → KeysSoFar input parts index old keys →
    IsReading key_fields input (part ∷ []) message → new ≡ first_of old (key_fault message) →
    more ≡ keys ++ key_of input message ∷ [] → KeysSoFar input parts (index + 1) new more
one_key input parts index part message old new keys more next so_far reading is_new are_more = record {
  messages = so_far.messages ++ message ∷ [];
  goes_on = λ rest are.
      subst (AreReadings key_fields input parts) (sym (append_assoc so_far.messages (message ∷ []) rest))
      (so_far.goes_on (message ∷ rest) (subst (λ left. AreReadings key_fields input left (message ∷ rest)) (sym next) (reading, are)));
  is_fault = is_new ∙ ap (λ told. first_of told (key_fault message)) so_far.is_fault
      ∙ sym (fold_more (map key_fault so_far.messages) None (key_fault message))
      ∙ ap first_fault (sym (map-append key_fault so_far.messages (message ∷ [])));
  are_keys = are_more ∙ ap (λ front. front ++ key_of input message ∷ []) so_far.are_keys
      ∙ sym (map-append (key_of input) so_far.messages (message ∷ []));
}

-- all keys
pub all_keys : (input : List ℕ) (parts : List Part) (index : ℕ) (fault : Option MessageFault) (keys : List NigoriKey) →
    length parts ≤ index → KeysSoFar input parts index fault keys → AreKeysIn input parts fault keys
all_keys input parts index fault keys ended so_far = record {
  messages = so_far.messages;
  are_readings = subst (AreReadings key_fields input parts) (append-nil so_far.messages)
      (so_far.goes_on [] (subst (λ left. AreReadings key_fields input left []) (sym (at_drop_all (λ left. left) parts index ended)) tt));
  is_fault = so_far.is_fault;
  are_keys = so_far.are_keys;
}
