-- What a report shows of a client that seals nothing.
use Rattle.std.proofs.Common.{◌≡◌, ℕ, List, Option, None, refl, sym, ap, ◌∙◌, false}
use Rattle.std.specs.Prelude.{is_some}
use Rattle.client_tags.specs.declared.Kind.{Kind}
use Rattle.client_tags.specs.declared.Kind.TheVariants.{Nigori, Preference, Password}
use Rattle.run_setting.specs.Hashed.{hashed}
use Rattle.sync_model.specs.Clients.{side_of, wanted_name}
use Rattle.sync_model.specs.Offers.{reseal_count}
use Rattle.sync_model.specs.Sides.{States, pending_count}
use Rattle.replay_client.specs.declared.client.Client.TheInside.{Inside}
use Rattle.replay_client.specs.Clients.{client_of, IsPlainClient}
use Rattle.replay_client.proofs.SendingLemmas.{plain_wanted}

-- no batch waits for a key
pub none_pending : (inside : Inside) (kind : Kind) → 0 ≡ pending_count (side_of (client_of inside) kind).pending
none_pending inside Nigori = refl
none_pending inside Preference = refl
none_pending inside Password = refl

pub no_pending : (inside : Inside) (kind : Kind) → false ≡ is_some (side_of (client_of inside) kind).pending
no_pending inside Nigori = refl
no_pending inside Preference = refl
no_pending inside Password = refl

-- the count where no key is wanted is that where the client's key is
pub reseals : (inside : Inside) (kind : Kind) (states : States) (count : ℕ) → IsPlainClient inside → count ≡ reseal_count None states → count ≡ reseal_count (wanted_name hashed (client_of inside) kind) states
reseals inside kind states count plain is = is ∙ ap (λ (name : Option (List ℕ)). reseal_count name states) (sym (plain_wanted (client_of inside) kind plain.nigori.states))
