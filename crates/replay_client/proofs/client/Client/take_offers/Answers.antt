use Rattle.std.proofs.Common.{length, refl, ap, ◌∙◌, arith}
use Rattle.replay_client.specs.Clients.{client_of}
use Rattle.replay_client.proofs.PlainSides.{noted_plain, noted_client}
use Rattle.replay_client.proofs.SendingLemmas.{joined, joined_plain, few_offers, idle_kind}
use Rattle.replay_client.proofs.client.Client.take_offers.Goals as goal

pub returns-in_default : goal.returns-in_default
returns-in_default c =
    rw (← c.self.view_is) record { ok = λ number. idle_kind number c.self.inside c.args.kind c.in_default.not-Preference c.self.invariant.nigori.states c.self.invariant.password.states; err = tt }

pub hold-requires : goal.hold-requires
hold-requires g =
    omega (
      arith,
      g.in_ok-reserve.ensures.ok,
      g.in_ok-reserve.ensures.capacity,
      g.in_ok-reserve.ensures.len,
      ap length g.into_vec.ensures,
      few_offers g.room_beside-room.result g.in_ok-offers.offers g.self.inside.preference.processor.states g.in_ok-offers.ensures.offers,
    )

pub invariant_of-self-2 : goal.invariant_of-self-2
invariant_of-self-2 c = record {
  nigori = c.self.invariant.nigori;
  password = c.self.invariant.password;
  preference = noted_plain c.self.inside.preference c.offers.new.self c.in_ok-offers.offers c.self.invariant.preference c.in_ok-offers.ensures.noted;
  held = joined_plain c.self.inside.held.items c.hold.new.held.items c.self.inside.preference.processor.kind c.in_ok-offers.offers c.into_vec.result.items
      c.room_beside-room.result c.self.inside.preference.processor.states
      (rw c.reserve.ensures.items at c.hold.ensures) c.self.invariant.held c.self.invariant.preference.kind c.into_vec.ensures c.in_ok-offers.ensures.fit
      c.in_ok-offers.ensures.offers c.self.invariant.preference.values;
}

pub returns-clause-ok : goal.returns-clause-ok
returns-clause-ok c =
    λ number. rw (← c.self.view_is, c.in-Preference.is) (noted_client c.self.inside c.offers.new.self c.in_ok-offers.offers c.hold.new.held.items c.in_ok-offers.ensures.noted
    ∙ joined number (client_of c.self.inside) c.hold.new.held.items c.room_beside-room.result c.in_ok-offers.offers c.self.invariant.nigori.states refl
    (rw c.deref.ensures.value at c.room_beside-room.ensures) c.in_ok-offers.ensures.offers (rw (c.reserve.ensures.items, c.into_vec.ensures) at c.hold.ensures))
