-- What a tracker stands for.
use Rattle.std.specs.Prelude.{◌≡◌, ℕ, ◌≤◌, nat_lt, if◌then◌else◌, Option, Some, None}
use Rattle.entity_tracker.specs.declared.tracker.Tracker.TheInside.{Inside}
use Rattle.entity_tracker.specs.Offers.{IsOfferedBy}
use Rattle.entity_tracker.specs.Tracked.{Tracked}

-- the number of the last edit, where it is above the last one that was acknowledged
abbrev pub due_above : ℕ → ℕ → Option ℕ
due_above acked sequence = if nat_lt acked sequence then Some sequence else None

-- a tracker's key, and what is known of it
abbrev pub tracked : Inside → Tracked
tracked tracker = record {
  hash = tracker.hash;
  state = record {
    known = tracker.known;
    base = tracker.base;
    own = tracker.own;
    due = due_above tracker.acked tracker.sequence;
    last_edit = tracker.sequence;
    lock = tracker.lock;
    offered = tracker.offered.items;
  };
  acked = tracker.acked;
}

-- no edit was acknowledged or offered that was not made, and where the last one was acknowledged, the own value is the server's
pub record IsTracker (tracker : Inside) : Type 0 where
  pub acked : tracker.acked ≤ tracker.sequence
  pub in_sync : tracker.acked ≡ tracker.sequence → tracker.own ≡ tracker.base
  pub offered : IsOfferedBy tracker.sequence tracker.offered.items
