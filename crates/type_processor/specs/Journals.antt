-- How the states that a turn changes lead back to those that it began with.
use Rattle.std.specs.Prelude.{◌≡◌, List, [], ◌∷◌}
use Rattle.std.specs.Option.{IsSome, option_map}
use Rattle.sync_model.specs.declared.state.KeyState.{KeyState}
use Rattle.sync_model.specs.Sides.{States, with_state}
use Rattle.type_processor.specs.declared.journal.Change.{Change}
use Rattle.type_processor.specs.Keyed.{hashes_of, key_of, key_at}

-- one change leads back: a state was put at its key, where there was what it tells, and other keys stayed
pub record IsChange (change : Change) (before after : States) : Type 0 where
  pub state : KeyState
  pub put : after ≡ with_state before change.hash state
  pub before_was : option_map key_of change.before ≡ key_at before change.hash
  pub kept : IsSome change.before → hashes_of after ≡ hashes_of before

-- changes, the last one first, lead back from some states to the first ones
pub record LeadsBackBy (change : Change) (rest : States → Type 0) (states : States) : Type 0 where
  pub before : States
  pub change_is : IsChange change before states
  pub rest_leads : rest before

-- changes, the last one first, lead back from some states to the first ones
abbrev pub LeadsBack : List Change → States → States → Type 0
LeadsBack [] first states = states ≡ first
LeadsBack (change ∷ changes) first states = LeadsBackBy change (LeadsBack changes first) states
