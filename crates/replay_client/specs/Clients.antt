-- What a client of preferences stands for, and what holds of it.
use Rattle.std.specs.Prelude.{◌≡◌, [], None, IfSome}
use Rattle.std.specs.List.{AllByRecursion}
use Rattle.client_tags.specs.declared.Kind.TheVariants.{Preference as preference_kind}
use Rattle.sync_model.specs.Clients as clients
use Rattle.sync_model.specs.Sides as sides
use Rattle.replay_messages.specs.Forms.{IsPlain, IsPlainValue}
use Rattle.replay_client.specs.declared.client.Client.TheInside.{Inside}
use Rattle.replay_client.specs.declared.side.Side.{Side}
use Rattle.replay_client.specs.Mail.{IsPlainTask, IsIdleTask}

-- what a side stands for: no batch waits for a key
abbrev pub side_of : {Rules : Type 0} → Side Rules → sides.Side
side_of side = record {
  mark = side.processor.mark;
  states = side.processor.states;
  last_edit = side.processor.last_edit;
  seen = side.seen;
  mailbox = side.processor.mailbox;
  pending = None;
  letter = side.letter;
}

-- what a client stands for: it has no keys, and draws nothing
abbrev pub client_of : Inside → clients.Client
client_of client = record {
  nigori = side_of client.nigori;
  preference = side_of client.preference;
  password = side_of client.password;
  bag = [];
  birthday = client.birthday;
  drawn = 0;
  held = client.held.items;
  outstanding = client.outstanding;
}

-- the own value of each key is plain
abbrev pub HavePlainValues : sides.States → Type 0
HavePlainValues states = AllByRecursion (λ key. IsPlainValue key.1.own) states

-- a side that has no keys, and to which nothing of any key comes
pub record IsIdle (side : sides.Side) : Type 0 where
  pub states : side.states ≡ []
  pub mailbox : AllByRecursion IsIdleTask side.mailbox
  pub letter : IfSome side.letter IsIdleTask

-- a side of preferences that nothing seals: its own values, and what is on its way to it
pub record IsPlainSide {Rules : Type 0} (side : Side Rules) : Type 0 where
  pub kind : side.processor.kind ≡ preference_kind
  pub values : HavePlainValues side.processor.states
  pub mailbox : AllByRecursion IsPlainTask side.processor.mailbox
  pub letter : IfSome side.letter IsPlainTask

-- the sides of keys and of logins are idle, and nothing seals preferences
pub record IsPlainClient (client : Inside) : Type 0 where
  pub nigori : IsIdle (side_of client.nigori)
  pub password : IsIdle (side_of client.password)
  pub preference : IsPlainSide client.preference
  pub held : AllByRecursion IsPlain client.held.items
