-- Reading the messages of some parts one by one.
use Rattle.std.proofs.Common.{◌≡◌, ℕ, ◌+◌, ◌≤◌, List, [], ◌∷◌, ◌++◌, Option, None, Some, option_to_list, length, drop, map, refl, sym, ap, subst, ◌∙◌}
use Rattle.std.specs.List.{AllZip, fold, filter_map, cons_option}
use Rattle.std.proofs.lemmas.List.{append_assoc, append-nil, at_drop_all, map-append}
use Rattle.message_fields.specs.declared.field.Part.{Part}
use Rattle.message_fields.specs.declared.fault.MessageFault.{MessageFault}
use Rattle.message_fields.specs.Readings.{IsReading}
use Rattle.message_fields.specs.Faults.{first_of, first_fault}
use Rattle.sync_messages.specs.declared.message.Entity.{Entity}
use Rattle.sync_messages.specs.declared.message.EntryAnswer.{EntryAnswer}
use Rattle.sync_messages.specs.declared.message.Marker.{Marker}
use Rattle.sync_messages.specs.Markers.{marker_fields, marker_fault, marker_of}
use Rattle.sync_messages.specs.Answers.{answer_fields, answer_fault, answer_of}
use Rattle.sync_messages.specs.Entities.{AreEntityFields, entity_fault, entity_of}

-- what was read of some parts, up to one of them: for each part a thing, the first fault in them, and what they say
pub record ReadSoFar {A V : Type 0} (Reads : Part → A → Type 0) (fault_of : A → Option MessageFault) (says : List A → List V)
    (parts : List Part) (index : ℕ) (fault : Option MessageFault) (values : List V) : Type 0 where
  pub things : List A
  pub goes_on : (rest : List A) → AllZip Reads (drop index parts) rest → AllZip Reads parts (things ++ rest)
  pub is_fault : fault ≡ first_fault (map fault_of things)
  pub are_values : values ≡ says things

fold_more : (faults : List (Option MessageFault)) (start last : Option MessageFault) →
    fold first_of start (faults ++ last ∷ []) ≡ first_of (fold first_of start faults) last
fold_more [] start last = refl
fold_more (fault ∷ faults) start last = fold_more faults (first_of start fault) last

-- one more part
pub one_more : {A V : Type 0} (Reads : Part → A → Type 0) (fault_of : A → Option MessageFault) (says : List A → List V)
    (parts : List Part) (index : ℕ) (part : Part) (thing : A) (old new : Option MessageFault) (values more : List V) →
    drop index parts ≡ part ∷ drop (index + 1) parts → ReadSoFar Reads fault_of says parts index old values →
    Reads part thing → new ≡ first_of old (fault_of thing) →
    ((things : List A) → values ≡ says things → more ≡ says (things ++ thing ∷ [])) →
    ReadSoFar Reads fault_of says parts (index + 1) new more
one_more Reads fault_of says parts index part thing old new values more next so_far reads is_new are_more = record {
  things = so_far.things ++ thing ∷ [];
  goes_on = λ rest are.
      subst (AllZip Reads parts) (sym (append_assoc so_far.things (thing ∷ []) rest))
      (so_far.goes_on (thing ∷ rest) (subst (λ left. AllZip Reads left (thing ∷ rest)) (sym next) (reads, are)));
  is_fault = is_new ∙ ap (λ told. first_of told (fault_of thing)) so_far.is_fault
      ∙ sym (fold_more (map fault_of so_far.things) None (fault_of thing))
      ∙ ap first_fault (sym (map-append fault_of so_far.things (thing ∷ [])));
  are_values = are_more so_far.things so_far.are_values;
}

-- all parts
pub all_read : {A V : Type 0} (Reads : Part → A → Type 0) (fault_of : A → Option MessageFault) (says : List A → List V)
    (parts : List Part) (index : ℕ) (fault : Option MessageFault) (values : List V) → length parts ≤ index →
    (so_far : ReadSoFar Reads fault_of says parts index fault values) → AllZip Reads parts so_far.things
all_read Reads fault_of says parts index fault values ended so_far =
    subst (AllZip Reads parts) (append-nil so_far.things)
    (so_far.goes_on [] (subst (λ left. AllZip Reads left []) (sym (at_drop_all (λ left. left) parts index ended)) tt))

-- the entities of the parts up to one of them
abbrev pub EntitiesSoFar : List ℕ → List Part → ℕ → Option MessageFault → List Entity → Type 0
EntitiesSoFar input parts index fault entities =
    ReadSoFar (AreEntityFields input) entity_fault (map (entity_of input)) parts index fault entities

-- the markers of the parts up to one of them
abbrev pub MarkersSoFar : List ℕ → List Part → ℕ → Option MessageFault → List Marker → Type 0
MarkersSoFar input parts index fault markers =
    ReadSoFar (λ part message. IsReading marker_fields input (part ∷ []) message) marker_fault (filter_map (marker_of input))
    parts index fault markers

-- the answers of the parts up to one of them
abbrev pub AnswersSoFar : List ℕ → List Part → ℕ → Option MessageFault → List EntryAnswer → Type 0
AnswersSoFar input parts index fault answers =
    ReadSoFar (λ part message. IsReading answer_fields input (part ∷ []) message) answer_fault (map (answer_of input))
    parts index fault answers

given_by : {V : Type 0} (value : Option V) → cons_option value [] ≡ option_to_list value
given_by None = refl
given_by (Some value) = refl

-- the last of some things gives a value, or none
pub one_given : {A V : Type 0} (given : A → Option V) (thing : A) → filter_map given (thing ∷ []) ≡ option_to_list (given thing)
one_given given thing = given_by (given thing)
