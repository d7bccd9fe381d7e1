-- What the specifics of an entry are: plain, or sealed with its draw. A run's seed gives the vectors of all draws.
use Rattle.std.specs.Prelude.{ℕ, List, [], ◌++◌, map, replicate, Option, Some, None}
use Rattle.std.specs.Int.{w64, to_be_bytes}
use Rattle.random_vectors.specs.Vectors.{Place, vector_at}
use Rattle.client_tags.specs.declared.Kind.{Kind}
use Rattle.nigori.specs.Sealing.{sealed, key_name}
use Rattle.sync_values.specs.declared.value.Value.{Value}
use Rattle.sync_values.specs.declared.value.Value.TheVariants.{Absent, Preference, Password, Nigori}
use Rattle.sync_specifics.specs.declared.sealed.Sealed.{Sealed}
use Rattle.sync_specifics.specs.declared.specifics.Specifics.{Specifics}
use Rattle.sync_specifics.specs.declared.specifics.Specifics.TheVariants as specifics
use Rattle.sync_specifics.specs.Keys.{keys_bytes}
use Rattle.sync_specifics.specs.Logins.{login_bytes}
use Rattle.sync_specifics.specs.Specifics.{specifics_bytes}
use Rattle.sync_model.specs.declared.message.Draw.{Draw}

-- the seed of the random streams: a run's seed as eight bytes, the highest first, and 24 zeros
abbrev pub stream_seed : ℕ → List ℕ
stream_seed seed = to_be_bytes w64 seed ++ replicate 24 0

-- where a draw stands: in the stream of its client's number, by its number there
abbrev pub place_of : ℕ → Draw → Place
place_of seed draw = record { seed = stream_seed seed; stream = draw.client; drawn = draw.number }

-- the initialization vector of a draw
abbrev pub vector_of : ℕ → Draw → List ℕ
vector_of seed draw = vector_at (place_of seed draw)

-- a text that is sealed with a draw, beside the name of its key
unfoldable pub text_of : ℕ → Draw → List ℕ → Sealed
text_of seed draw plain = record { key_name = key_name draw.key; blob = sealed draw.key plain (vector_of seed draw) }

-- A value as specifics that nothing seals: a preference, or of a deletion the type alone. A login and a profile's
-- keys are never sent so, and show no more than their type.
abbrev pub plain_specifics : Kind → Value → Specifics
plain_specifics kind Absent = specifics.EmptyOf kind
plain_specifics kind (Preference preference) = specifics.Preference preference
plain_specifics kind (Password password) = specifics.EmptyOf kind
plain_specifics kind (Nigori nigori) = specifics.EmptyOf kind

-- the text of a value that is sealed: of a preference its plain specifics, of a login its message, of a profile's keys
-- all of them with their names; a deletion has none
abbrev pub text_to_seal : Value → List ℕ
text_to_seal Absent = []
text_to_seal (Preference preference) = specifics_bytes (specifics.Preference preference)
text_to_seal (Password password) = login_bytes password
text_to_seal (Nigori nigori) = keys_bytes (map key_name nigori.keys) nigori.keys

-- a value's specifics with its text sealed; nothing seals a deletion
abbrev pub specifics_around : Kind → Value → Sealed → Specifics
specifics_around kind Absent text = specifics.EmptyOf kind
specifics_around kind (Preference preference) text = specifics.SealedPreference text
specifics_around kind (Password password) text = specifics.Password text
specifics_around kind (Nigori nigori) text = specifics.Nigori (record { bag = text; pass_kind = nigori.pass_kind })

-- a value as specifics that are sealed with a draw
unfoldable pub sealed_specifics : ℕ → Kind → Value → Draw → Specifics
sealed_specifics seed kind value draw = specifics_around kind value (text_of seed draw (text_to_seal value))

-- a value as specifics, sealed with a draw if there is one
abbrev pub specifics_of : ℕ → Kind → Value → Option Draw → Specifics
specifics_of seed kind value None = plain_specifics kind value
specifics_of seed kind value (Some draw) = sealed_specifics seed kind value draw
