-- What the answers to a commit acknowledge.
use Rattle.std.specs.Prelude.{ℕ, ℤ, pos, negsuc, List, [], ◌∷◌, ◌++◌}
use Rattle.sync_messages.specs.declared.message.EntryAnswer.{EntryAnswer}
use Rattle.sync_messages.specs.declared.message.Outcome.{Outcome}
use Rattle.sync_messages.specs.declared.message.Outcome.TheVariants.{Success, Conflict, Retry, Invalid, OverQuota, Transient}
use Rattle.sync_model.specs.declared.message.Ack.{Ack}
use Rattle.sync_model.specs.declared.message.Offer.{Offer}
use Rattle.type_worker.specs.declared.settling.Lock.{Lock}

-- the version that an answer names; one below 0 is read as 0, which no write has
abbrev pub version_of : ℤ → ℕ
version_of (pos version) = version
version_of (negsuc below) = 0

-- the acknowledgement of an offer that was sealed under this lock and stored as this version
abbrev pub ack_of : Offer → Lock → ℕ → Ack
ack_of offer lock version = record {
  hash = offer.hash;
  version = version;
  value = offer.value;
  number = offer.number;
  lock = lock.name;
}

-- the acknowledgement that an outcome gives to an offer, if it gives one
abbrev pub ack_by : Offer → Lock → ℤ → Outcome → List Ack
ack_by offer lock version Success = ack_of offer lock (version_of version) ∷ []
ack_by offer lock version Conflict = []
ack_by offer lock version Retry = []
ack_by offer lock version Invalid = []
ack_by offer lock version OverQuota = []
ack_by offer lock version Transient = []

-- the acknowledgements that answers give to offers that were sent with these locks, each answer to the offer at its
-- place
unfoldable pub settled : List Offer → List Lock → List EntryAnswer → List Ack
settled [] locks answers = []
settled (offer ∷ offers) [] answers = []
settled (offer ∷ offers) (lock ∷ locks) [] = []
settled (offer ∷ offers) (lock ∷ locks) (answer ∷ answers) =
    ack_by offer lock answer.version answer.outcome ++ settled offers locks answers
