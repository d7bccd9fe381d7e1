use Rattle.std.proofs.Common.{refl}
use Rattle.client_tags.specs.declared.Kind.TheVariants.{Nigori, Preference, Password}
use Rattle.replay_client.specs.Clients.{client_of}
use Rattle.replay_client.proofs.Effects.{if_ok_weaker, on_err_weaker}
use Rattle.replay_client.proofs.MailLemmas.{idle_opens, plain_opens, post_happens, post_has_effect}
use Rattle.replay_client.proofs.PlainSides.{post_stays_plain}
use Rattle.replay_client.proofs.client.Client.post.Goals as goal

pub invariant_of-self-in-Preference : goal.invariant_of-self-in-Preference
invariant_of-self-in-Preference c = record {
  nigori = c.self.invariant.nigori;
  password = c.self.invariant.password;
  preference = post_stays_plain c.post-in-Preference.result c.self.inside.preference c.post-in-Preference.new.self c.self.invariant.preference
      c.post-in-Preference.ensures.posted c.post-in-Preference.ensures.err;
  held = c.self.invariant.held;
}

pub returns-in-Nigori-clause-happens : goal.returns-in-Nigori-clause-happens
returns-in-Nigori-clause-happens c =
    let side = c.self.inside.nigori in
    rw (← c.self.view_is, c.in-Nigori.is) (if_ok_weaker c.post.result _ _ (λ outcome posted. post_happens (client_of c.self.inside) Nigori side c.post.new.self side.letter outcome refl refl
    (idle_opens side.letter c.self.invariant.nigori.letter) posted) c.post.ensures.posted)

pub returns-in-Preference-clause-happens : goal.returns-in-Preference-clause-happens
returns-in-Preference-clause-happens c =
    let side = c.self.inside.preference in
    rw (← c.self.view_is, c.in-Preference.is) (if_ok_weaker c.post-in-Preference.result _ _ (λ outcome posted. post_happens (client_of c.self.inside) Preference side c.post-in-Preference.new.self side.letter outcome refl refl
    (plain_opens side.letter c.self.invariant.preference.letter) posted) c.post-in-Preference.ensures.posted)

pub returns-in-Password-clause-happens : goal.returns-in-Password-clause-happens
returns-in-Password-clause-happens c =
    let side = c.self.inside.password in
    rw (← c.self.view_is, c.in-Password.is) (if_ok_weaker c.post-in-Password.result _ _ (λ outcome posted. post_happens (client_of c.self.inside) Password side c.post-in-Password.new.self side.letter outcome refl refl
    (idle_opens side.letter c.self.invariant.password.letter) posted) c.post-in-Password.ensures.posted)

pub returns-in-Nigori-clause-memory : goal.returns-in-Nigori-clause-memory
returns-in-Nigori-clause-memory c =
    rw (← c.self.view_is, c.in-Nigori.is) (on_err_weaker c.post.result (λ there. post_has_effect (client_of c.self.inside) Nigori c.self.inside.nigori c.self.inside.nigori.letter refl refl there) c.post.ensures.memory)

pub returns-in-Preference-clause-memory : goal.returns-in-Preference-clause-memory
returns-in-Preference-clause-memory c =
    rw (← c.self.view_is, c.in-Preference.is) (on_err_weaker c.post-in-Preference.result (λ there. post_has_effect (client_of c.self.inside) Preference c.self.inside.preference c.self.inside.preference.letter refl refl there) c.post-in-Preference.ensures.memory)

pub returns-in-Password-clause-memory : goal.returns-in-Password-clause-memory
returns-in-Password-clause-memory c =
    rw (← c.self.view_is, c.in-Password.is) (on_err_weaker c.post-in-Password.result (λ there. post_has_effect (client_of c.self.inside) Password c.self.inside.password c.self.inside.password.letter refl refl there) c.post-in-Password.ensures.memory)
