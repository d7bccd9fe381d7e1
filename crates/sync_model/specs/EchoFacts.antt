-- What every event keeps of the values that a client offered: they stand among a key's offered values while what was known
-- of the key then still is.
use Rattle.std.specs.Prelude.{◌≡◌, ℕ, suc, ◌<◌, ◌≤◌, ◌⊎◌, ⊤, false, List, [], ◌∷◌, ◌++◌, length, None}
use Rattle.std.specs.List.{AllByRecursion}
use Rattle.std.specs.Ordering.{nat_cmp}
use Rattle.std.specs.Cmp.Lexicographic.{slice_cmp}
use Rattle.std.specs.declared.cmp.Ordering.TheVariants.{Less}
use Rattle.client_tags.specs.declared.Kind.{Kind}
use Rattle.sync_values.specs.declared.value.Value.{Value}
use Rattle.sync_model.specs.declared.event.Event.{Event}
use Rattle.sync_model.specs.declared.event.Event.TheVariants.{Gather}
use Rattle.sync_model.specs.declared.event.EventOutcome.{EventOutcome}
use Rattle.sync_model.specs.declared.event.EventOutcome.TheVariants.{Requested}
use Rattle.sync_model.specs.declared.event.Schedule.{Schedule}
use Rattle.sync_model.specs.declared.message.Content.{Content}
use Rattle.sync_model.specs.declared.message.Entry.{Entry}
use Rattle.sync_model.specs.declared.message.Key.{Key}
use Rattle.sync_model.specs.declared.message.Offer.{Offer}
use Rattle.sync_model.specs.declared.message.Request.{Request}
use Rattle.sync_model.specs.declared.state.KeyState.{KeyState}
use Rattle.sync_model.specs.declared.state.Offered.{Offered}
use Rattle.sync_model.specs.Settings.{Setting}
use Rattle.sync_model.specs.KeyStates.{MAX_OFFERED}
use Rattle.sync_model.specs.Sides.{States, state_at}
use Rattle.sync_model.specs.Clients.{Client, side_of}
use Rattle.sync_model.specs.Sending.{asked_offers}
use Rattle.sync_model.specs.Report.{is_void}
use Rattle.sync_model.specs.Worlds.{World, client_at, outcome_at, stepped, world_of}
use Rattle.sync_model.specs.Laws.{world_before, last_outcome}
use Rattle.sync_model.specs.Facts.{key_of}
use Rattle.sync_model.specs.Outcomes.{entries_in}

-- one of some things is so
abbrev pub AnyIs : {X : Type 0} → (X → Type 0) → List X → Type 0
AnyIs Is [] = ⊥
AnyIs Is (x ∷ xs) = Is x ⊎ AnyIs Is xs

-- the numbers of some things ascend
abbrev pub AreAscending : {X : Type 0} → (X → ℕ) → List X → Type 0
AreAscending number [] = ⊤
AreAscending number (x ∷ xs) = AllByRecursion (λ next. number x < number next) xs × AreAscending number xs

-- an offer is of this key, over this version, and of this number
pub record IsOfferOver (hash : List ℕ) (known number : ℕ) (offer : Offer) : Type 0 where
  pub of_key : offer.hash ≡ hash
  pub over : offer.known ≡ known
  pub numbered : offer.number ≡ number

-- a client offered a key over a version that it knew, by the edit of a number: a gather of the schedule, which is not void and
-- finds no batch that waits for a key, asks the type's side for such an offer
pub record WasOffered (setting : Setting) (schedule : Schedule) (client : ℕ) (key : Key) (known number : ℕ) : Type 0 where
  pub before : List Event
  pub later : List Event
  pub splits : schedule.events ≡ before ++ Gather client key.kind ∷ later
  pub done : is_void (last_outcome (stepped setting (Gather client key.kind) (world_before setting schedule before))) ≡ false
  pub none_waits : (side_of (client_at (world_before setting schedule before).clients client) key.kind).pending ≡ None
  pub asked : AnyIs (IsOfferOver key.hash known number)
      (asked_offers setting key.kind (client_at (world_before setting schedule before).clients client))

-- which edits of a key were offered over which version, by their numbers
abbrev pub Offering : Type 1
Offering = ℕ → ℕ → Type 0

-- a pair has this number and this value
pub record IsPair (number : ℕ) (value : Value) (pair : Offered) : Type 0 where
  pub numbered : pair.number ≡ number
  pub valued : pair.value ≡ value

-- The offered pairs of a key ascend, are at most eight, and have no number above the last edit's; a pair of the last edit has
-- the own value; and each was offered over the known version.
pub record ArePairsKept (Was : Offering) (state : KeyState) : Type 0 where
  pub ascending : AreAscending (λ (pair : Offered). pair.number) state.offered
  pub few : length state.offered ≤ MAX_OFFERED
  pub within : AllByRecursion (λ pair. pair.number ≤ state.last_edit) state.offered
  pub is_own : AllByRecursion (λ pair. pair.number ≡ state.last_edit → pair.value ≡ state.own) state.offered
  pub offered : AllByRecursion (λ pair. Was state.known pair.number) state.offered

-- a number and its value stand among some pairs, or eight greater numbers do
abbrev pub StandsAmong : List Offered → ℕ → Value → Type 0
StandsAmong pairs number value =
    AnyIs (IsPair number value) pairs ⊎ ((length pairs ≡ MAX_OFFERED) × AllByRecursion (λ pair. number < pair.number) pairs)

-- An entry of a key has a version not above the known one, and was offered over it. If it is the known one, the entry's number
-- and value stand among the offered pairs, unless eight greater numbers do.
pub record IsOfferKept (Was : Offering) (state : KeyState) (version number : ℕ) (value : Value) : Type 0 where
  pub within : version ≤ state.known
  pub offered : Was version number
  pub stands : version ≡ state.known → StandsAmong state.offered number value

-- what each key of a client was offered over
abbrev pub Offerings : Type 1
Offerings = Key → Offering

-- what a client has of a key
abbrev pub state_of : Client → Key → KeyState
state_of client key = state_at (side_of client key.kind).states key.hash

-- an entry of a client
abbrev pub IsEntryKept : Offerings → Client → Entry Content → Type 0
IsEntryKept Was client entry =
    IsOfferKept (Was entry.key) (state_of client entry.key) entry.version entry.content.number entry.content.value

-- the keys of some states ascend
abbrev pub AreInOrder : States → Type 0
AreInOrder [] = ⊤
AreInOrder (here ∷ states) = AllByRecursion (λ next. slice_cmp nat_cmp here.0 next.0 ≡ Less) states × AreInOrder states

-- the keys of a side
pub record AreStatesKept (Was : Offerings) (kind : Kind) (states : States) : Type 0 where
  pub in_order : AreInOrder states
  pub pairs : (hash : List ℕ) → ArePairsKept (Was (key_of kind hash)) (state_at states hash)

-- a client: its keys, the entries that it holds, and those of each request that it ever made
pub record IsClientKept (Was : Offerings) (number : ℕ) (outcomes : List EventOutcome) (client : Client) : Type 0 where
  pub sides : (kind : Kind) → AreStatesKept Was kind (side_of client kind).states
  pub held : AllByRecursion (IsEntryKept Was client) client.held
  pub sent : (event : ℕ) (request : Request Content) → outcome_at outcomes event ≡ Requested number request
      → AllByRecursion (IsEntryKept Was client) (entries_in request.call)

-- a world: all its clients; none has the number 0
abbrev pub AreClientsKept : (ℕ → Offerings) → World → Type 0
AreClientsKept Was world = (place : ℕ) → IsClientKept (Was (suc place)) (suc place) world.outcomes (client_at world.clients (suc place))

-- what a client offered over what it knows of a key stands among the key's offered pairs, unless eight greater numbers do
abbrev pub OffersAreKept : Setting → Schedule → Type 0
OffersAreKept setting schedule = AreClientsKept (WasOffered setting schedule) (world_of setting schedule)

-- whatever is delivered and lost, and however often, offers are kept so
abbrev pub EveryOfferIsKept : Type 0
EveryOfferIsKept = (setting : Setting) (schedule : Schedule) → OffersAreKept setting schedule
