-- What a client sends: how it gathers and seals entries, and the requests that it makes.
use Rattle.std.specs.Prelude.{ℕ, ◌+◌, ◌-◌, Bool, false, ◌&&◌, ◌||◌, ◌==◌, not, if◌then◌else◌, List, [], ◌∷◌, ◌++◌, length, Option, Some, None, is_some}
use Rattle.std.specs.List.{list_any, list_all}
use Rattle.std.specs.Option.{option_map}
use Rattle.client_tags.specs.declared.Kind.{Kind}
use Rattle.client_tags.specs.declared.Kind.TheVariants.{Nigori, Preference, Password}
use Rattle.key_derivation.specs.declared.NigoriKey.{NigoriKey}
use Rattle.sync_values.specs.declared.value.Value.{Value}
use Rattle.sync_values.specs.declared.value.Value.TheVariants.{Nigori as Keys_value}
use Rattle.sync_model.specs.declared.event.EventOutcome.TheVariants.{Done, Requested}
use Rattle.sync_model.specs.declared.message.Batch.{Batch}
use Rattle.sync_model.specs.declared.message.Call.TheVariants.{Commit, Updates as AskUpdates}
use Rattle.sync_model.specs.declared.message.Content.{Content}
use Rattle.sync_model.specs.declared.message.Draw.{Draw}
use Rattle.sync_model.specs.declared.message.Entry.{Entry}
use Rattle.sync_model.specs.declared.message.Marker.{Marker}
use Rattle.sync_model.specs.declared.message.Offer.{Offer}
use Rattle.sync_model.specs.declared.message.Request.{Request}
use Rattle.sync_model.specs.Values.{same_kind, is_absent}
use Rattle.sync_model.specs.Settings.{Setting, key_named}
use Rattle.sync_model.specs.Offers.{offers_of}
use Rattle.sync_model.specs.Sides.{side_offered}
use Rattle.sync_model.specs.Clients.{Client, Effect, side_of, with_side, plain_effect, nigori_base, needs_default, default_name, wanted_name, opens_lock, opens, batch_mailed}

-- how many entries a commit may have
abbrev pub MAX_ENTRIES : ℕ
MAX_ENTRIES = 25

-- entries of a type are held
abbrev pub holds_kind : Kind → List (Entry Content) → Bool
holds_kind kind held = list_any (λ entry. same_kind entry.key.kind kind) held

-- the lock of a profile's keys, if a value is one
abbrev pub own_lock : Value → Option (List ℕ)
own_lock (Keys_value nigori) = Some nigori.lock
own_lock _ = None

-- The key that seals a value of a type, given the one that is wanted. A profile's keys are sealed under their
-- own lock, and nothing seals a deletion.
abbrev pub lock_for : Kind → Option (List ℕ) → Value → Option (List ℕ)
lock_for Nigori name value = own_lock value
lock_for Preference name value = if is_absent value then None else name
lock_for Password name value = if is_absent value then None else name

-- How a client draws: what seals a value under the key of a name once so many draws were made.
abbrev pub Draws : Type 0
Draws = List ℕ → ℕ → Option Draw

-- a client of this number draws by the keys of its bag
abbrev pub drawing : Setting → ℕ → Client → Draws
drawing setting number client name drawn =
    option_map (λ key. record { key = key; client = number; number = drawn }) (key_named setting client.bag name)

-- the draw that a value is sealed with, if it is sealed
abbrev pub draw_of : Draws → Option (List ℕ) → ℕ → Option Draw
draw_of draws None drawn = None
draw_of draws (Some name) drawn = draws name drawn

-- how many draws were made once a value is sealed, if it is
abbrev pub drawn_after : Option (List ℕ) → ℕ → ℕ
drawn_after None drawn = drawn
drawn_after (Some name) drawn = drawn + 1

-- an offer of a type as an entry of a commit
abbrev pub entry_of : Draws → Kind → Option (List ℕ) → ℕ → Offer → Entry Content
entry_of draws kind lock drawn offer = record {
  key = record { kind = kind; hash = offer.hash };
  version = offer.known;
  content = record { value = offer.value; number = offer.number; lock = lock; draw = draw_of draws lock drawn };
}

-- some offers of a type as entries, each sealed with the next draw where a key seals it
unfoldable pub sealed : Draws → Kind → Option (List ℕ) → ℕ → List Offer → List (Entry Content)
sealed draws kind name drawn [] = []
sealed draws kind name drawn (offer ∷ offers) =
    entry_of draws kind (lock_for kind name offer.value) drawn offer
    ∷ sealed draws kind name (drawn_after (lock_for kind name offer.value) drawn) offers

-- how many draws were made once some offers of a type are sealed
unfoldable pub drawn_for : Kind → Option (List ℕ) → ℕ → List Offer → ℕ
drawn_for kind name drawn [] = drawn
drawn_for kind name drawn (offer ∷ offers) =
    drawn_for kind name (drawn_after (lock_for kind name offer.value) drawn) offers

-- the bag lacks the key that locks a profile's keys which are offered
abbrev pub lacks_own_lock : Setting → Kind → List NigoriKey → List Offer → Bool
lacks_own_lock setting Nigori bag offers = not (list_all (λ offer. opens_lock setting bag (own_lock offer.value)) offers)
lacks_own_lock setting _ bag offers = false

-- nothing of a type is sent: its default key is missing
abbrev pub is_held_back : Setting → Client → Kind → Bool
is_held_back setting client kind =
    needs_default (nigori_base setting client) kind && not (is_some (default_name setting client))

-- what a gather asks a type's side for: as many offers as the next commit has room for, or none where the type is held back
abbrev pub asked_offers : Setting → Kind → Client → List Offer
asked_offers setting kind client =
    if is_held_back setting client kind then []
    else offers_of (wanted_name setting client kind) (MAX_ENTRIES - length client.held) (side_of client kind).states

-- some offers, or none where the bag lacks the key of their own lock
abbrev pub offers_if_had : Setting → Kind → List NigoriKey → List Offer → List Offer
offers_if_had setting kind bag offers = if lacks_own_lock setting kind bag offers then [] else offers

-- the offers of a type that a client may send now
abbrev pub gathered : Setting → Kind → Client → List Offer
gathered setting kind client = offers_if_had setting kind client.bag (asked_offers setting kind client)

-- some offers of a type are sealed and held
abbrev pub holding : Draws → Kind → Option (List ℕ) → List Offer → Client → Client
holding draws kind name offers client = record client {
  held = client.held ++ sealed draws kind name client.drawn offers;
  drawn = drawn_for kind name client.drawn offers;
}

-- a side notes what it was asked for, whether or not that can be sealed
abbrev pub noting : Kind → List Offer → Client → Client
noting kind offers client = with_side client kind (side_offered (side_of client kind) offers)

-- a gather of a type: a batch that waits for a key is mailed if it opens now, and nothing is held beside it
abbrev pub gathering : Setting → ℕ → Kind → Client → Option Batch → Client
gathering setting number kind client (Some batch) =
    if opens setting client.bag batch then batch_mailed setting client kind (side_of client kind) batch else client
gathering setting number kind client None =
    noting kind (asked_offers setting kind client)
    (holding (drawing setting number client) kind (wanted_name setting client kind) (gathered setting kind client) client)

-- a gather can't happen while a request is made, a letter of the type waits, or entries of the type are held
abbrev pub is_gather_void : Kind → Client → Bool
is_gather_void kind client =
    is_some client.outstanding || is_some (side_of client kind).letter || holds_kind kind client.held

-- what is to be sent of a type joins what is held
unfoldable pub gather_effect : Setting → ℕ → Kind → Client → Option Effect
gather_effect setting number kind client =
    if is_gather_void kind client then None
    else Some (plain_effect (gathering setting number kind client (side_of client kind).pending) Done)

-- what the last reply says is not yet all posted
abbrev pub has_letter : Client → Bool
has_letter client = is_some client.nigori.letter || is_some client.preference.letter || is_some client.password.letter

-- a client waits for a reply, or has one that is not yet all posted
abbrev pub is_busy : Client → Bool
is_busy client = is_some client.outstanding || has_letter client

-- the three marks that a client has seen
abbrev pub seen_marks : Client → List Marker
seen_marks client =
    record { kind = Nigori; mark = client.nigori.seen } ∷ record { kind = Preference; mark = client.preference.seen }
    ∷ record { kind = Password; mark = client.password.seen } ∷ []

-- what a client asks for: all that is new to it
abbrev pub ask_of : Client → Request Content
ask_of client = record { birthday = client.birthday; call = AskUpdates (seen_marks client) }

-- a client asks for updates, which this event requests
unfoldable pub ask_effect : ℕ → ℕ → Client → Option Effect
ask_effect number event client =
    if is_busy client then None
    else Some (plain_effect (record client { outstanding = Some event }) (Requested number (ask_of client)))

-- the commit of all that is held
abbrev pub commit_of : Client → Request Content
commit_of client = record { birthday = client.birthday; call = Commit client.held }

-- all that is held becomes a commit, which this event requests
unfoldable pub offer_effect : ℕ → ℕ → Client → Option Effect
offer_effect number event client =
    if is_busy client || length client.held == 0 then None
    else Some (plain_effect (record client { held = []; outstanding = Some event }) (Requested number (commit_of client)))

-- a client gives up its request
unfoldable pub lose_effect : Client → Option Effect
lose_effect client =
    if is_some client.outstanding then Some (plain_effect (record client { outstanding = None }) Done) else None
