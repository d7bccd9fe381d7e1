-- Lists of values that are read part by part.
use Rattle.std.proofs.Common.{◌≡◌, ℕ, List, [], ◌∷◌, Option, Some, None, map, refl, ap, ◌∙◌}
use Rattle.std.specs.List.{AllByRecursion, AllZip, filter_map, cons_option, fold}
use Rattle.message_fields.specs.declared.field.Part.{Part}
use Rattle.message_fields.specs.declared.fault.MessageFault.{MessageFault}
use Rattle.message_fields.specs.Faults.{first_of, first_fault}
use Rattle.message_fields.proofs.WrittenMessages.{StandsAt}
use Rattle.sync_messages.proofs.RunReadings.{Stand}

-- where nothing is at fault there is no first fault
pub no_first : (faults : List (Option MessageFault)) → AllByRecursion (λ (fault : Option MessageFault). None ≡ fault) faults → None ≡ first_fault faults
no_first [] none = refl
no_first (fault ∷ faults) none = no_first faults none.1 ∙ ap (λ told. fold first_of told faults) none.0

-- a thing that is read of a part, in which nothing is at fault, and which says a value
pub record IsReadAs {A : Type 0} (Reads : Part → A → Type 0) (fault_of : A → Option MessageFault) (Says : A → Type 0) (part : Part) : Type 0 where
  pub thing : A
  pub reads : Reads part thing
  pub no_fault : None ≡ fault_of thing
  pub says : Says thing

-- things that are read of some parts, in which nothing is at fault, and which say some values
pub record AreReadAs {A V : Type 0} (Reads : Part → A → Type 0) (fault_of : A → Option MessageFault) (Says : V → A → Type 0)
    (parts : List Part) (values : List V) : Type 0 where
  pub things : List A
  pub are_read : AllZip Reads parts things
  pub no_faults : AllByRecursion (λ (fault : Option MessageFault). None ≡ fault) (map fault_of things)
  pub say : AllZip Says values things

-- values that are read one by one are read as a list
pub list_read : {A V : Type 0} (input : List ℕ) (Reads : Part → A → Type 0) (fault_of : A → Option MessageFault) (Says : V → A → Type 0)
    (bytes : V → List ℕ) (IsGood : V → Type 0) →
    ((value : V) → (part : Part) → IsGood value → StandsAt input (bytes value) part.begin part.end → IsReadAs Reads fault_of (Says value) part) →
    (values : List V) (parts : List Part) → AllByRecursion IsGood values → Stand input parts (map bytes values) →
    AreReadAs Reads fault_of Says parts values
list_read input Reads fault_of Says bytes IsGood each [] [] good stand = record { things = []; are_read = tt; no_faults = tt; say = tt }
list_read input Reads fault_of Says bytes IsGood each [] (part ∷ parts) good stand = absurd stand
list_read input Reads fault_of Says bytes IsGood each (value ∷ values) [] good stand = absurd stand
list_read input Reads fault_of Says bytes IsGood each (value ∷ values) (part ∷ parts) good stand =
    let first = each value part good.0 stand.0 in
    let rest = list_read input Reads fault_of Says bytes IsGood each values parts good.1 stand.1 in
    record {
      things = first.thing ∷ rest.things;
      are_read = (first.reads, rest.are_read);
      no_faults = (first.no_fault, rest.no_faults);
      say = (first.says, rest.say);
    }

-- values that are what is said of things
pub all_said : {A V : Type 0} (says : A → V) (values : List V) (things : List A) →
    AllZip (λ (value : V) thing. value ≡ says thing) values things → values ≡ map says things
all_said says [] [] say = refl
all_said says [] (thing ∷ things) say = absurd say
all_said says (value ∷ values) [] say = absurd say
all_said says (value ∷ values) (thing ∷ things) say =
    ap (λ first. first ∷ values) say.0 ∙ ap (λ rest. says thing ∷ rest) (all_said says values things say.1)

-- the same where a thing may say no value
pub all_told : {A V : Type 0} (says : A → Option V) (values : List V) (things : List A) →
    AllZip (λ (value : V) thing. Some value ≡ says thing) values things → values ≡ filter_map says things
all_told says [] [] say = refl
all_told says [] (thing ∷ things) say = absurd say
all_told says (value ∷ values) [] say = absurd say
all_told says (value ∷ values) (thing ∷ things) say =
    ap (λ rest. value ∷ rest) (all_told says values things say.1) ∙ ap (λ first. cons_option first (filter_map says things)) say.0
