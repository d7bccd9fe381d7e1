-- Each side that is caught up agrees with the server.
use Rattle.std.proofs.Common.{◌≡◌, ℕ, ◌+◌, ◌≤◌, Bool, true, false, cond, not, List, [], ◌∷◌, length, Option, Some, None, is_some, refl, sym, ap, subst, ◌∙◌, eqb, arith, inl, inr, le_antisymm, ◌&&◌, nat_cmp, unwrap_or, is_eq}
use Rattle.std.specs.Map.{lookup}
use Rattle.std.specs.BTreeMap.{is_at}
use Rattle.std.specs.Cmp.Lexicographic.{slice_cmp}
use Rattle.std.proofs.lemmas.List.Sums.{sum_by-cons}
use Rattle.std.proofs.lemmas.Bool.{eqb-true, and_parts, false≢true}
use Rattle.client_tags.specs.declared.Kind.{Kind}
use Rattle.sync_model.specs.declared.message.Content.{Content}
use Rattle.sync_model.specs.declared.message.Entry.{Entry}
use Rattle.sync_model.specs.declared.message.Key.{Key}
use Rattle.sync_model.specs.declared.state.KeyState.{KeyState}
use Rattle.sync_model.specs.KeyStates.{new_state}
use Rattle.sync_model.specs.History.{last_version, last_write, write_at}
use Rattle.sync_model.specs.Sides.{States, Side, state_at, due_count, is_caught_up}
use Rattle.sync_model.specs.Clients.{side_of}
use Rattle.sync_model.specs.Worlds.{client_at, world_of}
use Rattle.sync_model.specs.Laws.{value_of, Agrees, EveryCaughtUpSideAgrees}
use Rattle.sync_model.specs.Facts.{key_of, IsKnown, KeyFacts, SideFacts}
use Rattle.sync_model.proofs.Writes.{last_version-le, le_last, last_is, last_is_none}
use Rattle.sync_model.proofs.KnownWorlds.{world_of-facts}

-- what is known of a key whose last write is known is the value of that write
known_value : (history : List (Entry Content)) (key : Key) (state : KeyState) → IsKnown history key state
    → last_version history key ≤ state.known → state.base ≡ value_of (last_write history key)
known_value history key state (inl nothing) le =
    nothing.1 ∙ ap (λ (write : Option (Entry Content)). value_of write)
    (sym (last_is_none history key (omega (arith, nothing.0, le))))
known_value history key state (inr is) le =
    sym is.has_value ∙ ap (λ (write : Option (Entry Content)). value_of write) (sym (last_is history key is.write last_at))
  where
    last : state.known ≡ last_version history key
    last = le_antisymm (le_last history key state.known is.write is.is_write is.has_key) le

    last_at : write_at history (last_version history key) ≡ Some is.write
    last_at = subst (λ (version : ℕ). write_at history version ≡ Some is.write) last is.is_write

-- where no key is due, none is
not_due_by : (found : Bool) (here : KeyState) (rest : Option KeyState) → is_some here.due ≡ false → (unwrap_or rest new_state).due ≡ None
    → (unwrap_or (cond found (Some here) rest) new_state).due ≡ None
not_due_by true here rest none others = none_is here.due none
  where
    none_is : (due : Option ℕ) → is_some due ≡ false → due ≡ None
    none_is None is = refl
    none_is (Some number) is = absurd (false≢true (sym is))
not_due_by false here rest none others = others

-- a count of none
count_parts : (due : Bool) (rest : ℕ) → cond due 1 0 + rest ≡ 0 → (due ≡ false) × (rest ≡ 0)
count_parts true rest is = absurd (omega (arith, is))
count_parts false rest is = (refl, omega (arith, is))

not_due : (states : States) (hash : List ℕ) → due_count states ≡ 0 → (state_at states hash).due ≡ None
not_due [] hash none = refl
not_due (here ∷ states) hash none =
    let parts : (is_some here.1.due ≡ false) × (due_count states ≡ 0) =
    count_parts (is_some here.1.due) (due_count states)
    (sym (sum_by-cons (λ (entry : List ℕ × KeyState). cond (is_some entry.1.due) 1 0) here states) ∙ none) in
    not_due_by (is_eq (slice_cmp nat_cmp hash here.0)) here.1 (lookup (is_at (slice_cmp nat_cmp hash)) states) parts.0 (not_due states hash parts.1)

-- a side that is caught up
caught_up-Agrees : (history : List (Entry Content)) (kind : Kind) (side : Side) → SideFacts history kind side
    → side.mark ≡ length history → due_count side.states ≡ 0 → Agrees history kind side
caught_up-Agrees history kind side facts mark due hash =
    here.shown (not_due side.states hash due)
    ∙ known_value history (key_of kind hash) (state_at side.states hash) here.is_known (here.passed (omega (arith, last_version-le history (key_of kind hash), mark)))
  where
    here : KeyFacts history (key_of kind hash) side.mark (state_at side.states hash)
    here = facts.keys hash

caught_up_by : (version : ℕ) (side : Side) → is_caught_up version side ≡ true → (side.mark ≡ version) × (due_count side.states ≡ 0)
caught_up_by version side is = (
  eqb-true _ _ (and_parts (eqb side.mark version) _ (and_parts (eqb side.mark version && eqb (length side.mailbox) 0) _ (and_parts _ _ is).0).0).0,
  eqb-true _ _ (and_parts (eqb side.mark version && eqb (length side.mailbox) 0 && not (is_some side.pending)) _ is).1,
)

pub world_of-Agrees : EveryCaughtUpSideAgrees
world_of-Agrees setting allowed schedule client kind caught_up =
    let facts : SideFacts (world_of setting schedule).history kind (side_of (client_at (world_of setting schedule).clients client) kind)
    = ((world_of-facts setting schedule).clients client).sides kind in
    let is : (((side_of (client_at (world_of setting schedule).clients client) kind).mark ≡ length (world_of setting schedule).history)
    × (due_count (side_of (client_at (world_of setting schedule).clients client) kind).states ≡ 0))
    = caught_up_by (length (world_of setting schedule).history) (side_of (client_at (world_of setting schedule).clients client) kind) caught_up in
    caught_up-Agrees (world_of setting schedule).history kind (side_of (client_at (world_of setting schedule).clients client) kind) facts is.0 is.1
