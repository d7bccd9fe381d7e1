-- What a client has of one type.
use Rattle.std.specs.Prelude.{ℕ, List, None}
use Rattle.client_tags.specs.declared.Kind.{Kind}
use Rattle.sync_model.specs.declared.message.Task.{Task}
use Rattle.sync_model.specs.Sides.{States, Side}

-- The type and its rule, the version up to which all writes are applied, the key states, the number of the last
-- edit, and the tasks that wait for a turn.
pub record Processed (Rules : Type 0) : Type 0 where
  pub kind : Kind
  pub rules : Rules
  pub mark : ℕ
  pub states : States
  pub last_edit : ℕ
  pub mailbox : List Task

-- the side of a client that has this, where it has seen no more, and nothing waits for a key or to be posted
abbrev pub side_of : {Rules : Type 0} → Processed Rules → Side
side_of processed = record {
  mark = processed.mark;
  states = processed.states;
  last_edit = processed.last_edit;
  seen = processed.mark;
  mailbox = processed.mailbox;
  pending = None;
  letter = None;
}

-- the same type and rule with what this side has
abbrev pub with_side : {Rules : Type 0} → Processed Rules → Side → Processed Rules
with_side processed side = record processed {
  mark = side.mark;
  states = side.states;
  last_edit = side.last_edit;
  mailbox = side.mailbox;
}
