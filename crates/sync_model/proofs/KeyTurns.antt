-- A turn of the profile's keys: updates and acknowledgements leave a client with the keys that it knows and sends.
use Rattle.std.proofs.Common.{◌≡◌, ℕ, Bool, true, false, cond, ◌&&◌, ◌||◌, not, nat_lt, List, [], ◌∷◌, Option, Some, None, is_some, refl, sym, ap, ap₂, ◌∙◌, subst, IsTrue, bytes_eq, nat_le, unwrap_or}
use Rattle.std.proofs.lemmas.Bool.{false≢true, cond-true, cond_both, and_parts}
use Rattle.std.proofs.lemmas.Slice.Eq.{bytes_eq-Decides}
use Rattle.std.specs.Ordering.{nat_cmp, match_ordering}
use Rattle.std.proofs.Common.{Ordering}
use Rattle.std.specs.Cmp.{Equal-is}
use Rattle.std.specs.Cmp.Lexicographic.{slice_cmp}
use Rattle.std.specs.BTreeMap.{is_at}
use Rattle.std.proofs.lemmas.Map.Text.{is_eq-slice_cmp}
use lib.Pointwise.{pointwise}
use Rattle.client_tags.specs.declared.Kind.TheVariants.{Nigori}
use Rattle.key_derivation.specs.declared.NigoriKey.{NigoriKey}
use Rattle.sync_values.specs.declared.value.Value.{Value}
use Rattle.sync_values.specs.declared.value.Value.TheVariants.{Absent, Preference as Setting_value, Password as Login_value, Nigori as Keys_value}
use Rattle.sync_model.specs.declared.conflict.Decision.TheVariants.{Remote as TakeRemote}
use Rattle.sync_model.specs.declared.conflict.Row.TheVariants.{C0, C1, C2, C3, C4, C5, C6}
use Rattle.sync_model.specs.declared.message.Ack.{Ack}
use Rattle.sync_model.specs.declared.message.Content.{Content}
use Rattle.sync_model.specs.declared.message.Entry.{Entry}
use Rattle.sync_model.specs.declared.message.Update.{Update}
use Rattle.sync_model.specs.declared.state.KeyState.{KeyState}
use Rattle.sync_model.specs.declared.state.Offered.{Offered}
use Rattle.sync_model.specs.Values.{same_nigori_key, same_value, is_absent, keys_in}
use Rattle.sync_model.specs.Settings.{Setting, decided_by, nigori_hash, names_of}
use Rattle.sync_model.specs.Conflicts.{row_of, choice_of}
use Rattle.sync_model.specs.KeyStates.{new_state, is_earlier_offer, is_echo_of, is_echo, is_old, accepted, rebased, settled, updated, is_ignored, still_due, acknowledged}
use Rattle.sync_model.specs.Sides.{States, state_at, with_state, after_update, after_updates, after_ack, after_acks}
use Rattle.sync_model.specs.KeyFacts.{Each, HaveNames, HaveOffered, names_in, UpdateTells, AckTells, names_acked, names_updated, StateHasKeys, IsOneEntity, WaitsWithKeys}
use Rattle.sync_model.proofs.KeyNames.{has_names-self, has_names-through, has_names-parts}
use Rattle.sync_model.proofs.KeyClients.{Has}

-- two keys of a profile that pass the test are one
same_nigori_key-true : (a b : NigoriKey) → same_nigori_key a b ≡ true → a ≡ b
same_nigori_key-true a b is =
    let outer = and_parts (bytes_eq a.user b.user && bytes_eq a.enc b.enc) (bytes_eq a.mac b.mac) is
    in let inner = and_parts (bytes_eq a.user b.user) (bytes_eq a.enc b.enc) outer.0
    in ap (λ (user : List ℕ). record a { user = user }) ((bytes_eq-Decides a.user b.user).0 inner.0)
    ∙ ap (λ (enc : List ℕ). record { user = b.user; enc = enc; mac = a.mac }) ((bytes_eq-Decides a.enc b.enc).0 inner.1)
    ∙ ap (λ (mac : List ℕ). record b { mac = mac }) ((bytes_eq-Decides a.mac b.mac).0 outer.1)

same_keys-true : (a b : List NigoriKey) → pointwise same_nigori_key a b ≡ true → a ≡ b
same_keys-true [] [] is = refl
same_keys-true [] (key ∷ keys) is = absurd (false≢true is)
same_keys-true (key ∷ keys) [] is = absurd (false≢true is)
same_keys-true (key ∷ keys) (other ∷ others) is =
    let parts = and_parts (same_nigori_key key other) (pointwise same_nigori_key keys others) is
    in ap₂ (λ (first : NigoriKey) (rest : List NigoriKey). first ∷ rest) (same_nigori_key-true key other parts.0) (same_keys-true keys others parts.1)

-- two values that are one carry the same keys
same_value-keys : (a b : Value) → same_value a b ≡ true → keys_in a ≡ keys_in b
unfolding same_value
same_value-keys Absent Absent is = refl
same_value-keys (Setting_value a) (Setting_value b) is = refl
same_value-keys (Login_value a) (Login_value b) is = refl
same_value-keys (Keys_value a) (Keys_value b) is =
    same_keys-true a.keys b.keys (and_parts _ _ (and_parts _ _ is).0).1
same_value-keys _ _ is = absurd (false≢true is)

absent-keys : (value : Value) → is_absent value ≡ true → keys_in value ≡ []
absent-keys Absent is = refl
absent-keys (Setting_value a) is = absurd (false≢true is)
absent-keys (Login_value a) is = absurd (false≢true is)
absent-keys (Keys_value a) is = absurd (false≢true is)

-- an update that is taken
accepted-HasKeys : (setting : Setting) (history : List (Entry Content)) (bag : List NigoriKey) (way : List (List ℕ)) (state : KeyState) (update : Update)
    → UpdateTells setting history update → HaveNames setting bag (names_in setting update.value)
    → StateHasKeys setting history bag way (accepted state update)
accepted-HasKeys setting history bag way state update tells had =
    record { known = tells.known; had = had; waits = λ due. absurd (false≢true due); offered = tt; waits_offered = λ due. tt }

-- an own value that stays where an update comes has the keys of that update
rebased-HasKeys : (setting : Setting) (history : List (Entry Content)) (bag : List NigoriKey) (way : List (List ℕ)) (state : KeyState) (update : Update)
    → UpdateTells setting history update → HaveNames setting bag (names_in setting update.value)
    → StateHasKeys setting history bag way state → (IsTrue (is_some state.due) → Has (names_in setting state.own) (names_in setting update.value))
    → StateHasKeys setting history bag way (rebased state update state.own)
rebased-HasKeys setting history bag way state update tells had has fits = record {
  known = tells.known;
  had = had;
  waits = λ due. let waits = has.waits due in record {
    has_lock = waits.has_lock;
    has_base = fits due;
    has_way = waits.has_way;
    had = waits.had;
  };
  offered = tt;
  waits_offered = λ due. tt;
}

-- an own value has what the value that was known before it has
from_base : (setting : Setting) (history : List (Entry Content)) (bag : List NigoriKey) (way : List (List ℕ)) (state : KeyState) (value : Value)
    → StateHasKeys setting history bag way state → Has (names_in setting state.base) (names_in setting value)
    → IsTrue (is_some state.due) → Has (names_in setting state.own) (names_in setting value)
from_base setting history bag way state value has fits due =
    has_names-through (names_in setting state.own) (names_in setting state.base) (names_in setting value) (has.waits due).has_base fits

-- keys that have those of each offered value have those of an earlier one that comes back
earlier_by : (setting : Setting) (keys : List NigoriKey) (pair : Offered) (offered : List Offered) (due : ℕ) (value : Value) (found : Bool)
    → (nat_lt pair.number due && same_value pair.value value) ≡ found → (found || is_earlier_offer offered due value) ≡ true
    → HaveNames setting keys (names_in setting pair.value)
    → (is_earlier_offer offered due value ≡ true → HaveNames setting keys (names_in setting value)) → HaveNames setting keys (names_in setting value)
earlier_by setting keys pair offered due value true is any have rest =
    subst (λ (found : List NigoriKey). HaveNames setting keys (names_of setting found))
    (same_value-keys pair.value value (and_parts (nat_lt pair.number due) (same_value pair.value value) is).1) have
earlier_by setting keys pair offered due value false is any have rest = rest any

earlier_names : (setting : Setting) (keys : List NigoriKey) (offered : List Offered) (due : ℕ) (value : Value)
    → is_earlier_offer offered due value ≡ true → HaveOffered setting keys offered → HaveNames setting keys (names_in setting value)
earlier_names setting keys [] due value is have = absurd (false≢true is)
earlier_names setting keys (pair ∷ offered) due value is have =
    earlier_by setting keys pair offered due value (nat_lt pair.number due && same_value pair.value value) refl is have.0
    (λ later. earlier_names setting keys offered due value later have.1)

echo_of-names : (setting : Setting) (keys : List NigoriKey) (offered : List Offered) (due : Option ℕ) (value : Value)
    → is_echo_of offered due value ≡ true → HaveOffered setting keys offered → HaveNames setting keys (names_in setting value)
echo_of-names setting keys offered None value is have = absurd (false≢true is)
echo_of-names setting keys offered (Some due) value is have = earlier_names setting keys offered due value is have

echo-names : (setting : Setting) (keys : List NigoriKey) (state : KeyState) (value : Value)
    → is_echo state value ≡ true → HaveOffered setting keys state.offered → HaveNames setting keys (names_in setting value)
unfolding is_echo
echo-names setting keys state value = echo_of-names setting keys state.offered state.due value

settled_by : (setting : Setting) (history : List (Entry Content)) (bag : List NigoriKey) (way : List (List ℕ)) (state : KeyState) (update : Update)
    → UpdateTells setting history update → HaveNames setting bag (names_in setting update.value)
    → StateHasKeys setting history bag way state → (first echo second third fourth fifth : Bool) → is_echo state update.value ≡ echo
    → same_value update.value state.base ≡ fourth
    → is_absent update.value ≡ fifth
    → StateHasKeys setting history bag way (settled state update (choice_of (cond first C1 (cond echo C0 (cond second C2 (cond third C3 (cond fourth C4 (cond fifth C5 C6)))))) TakeRemote))
settled_by setting history bag way state update tells had has true echo second third fourth fifth echoes same absent =
    accepted-HasKeys setting history bag way state update tells had
settled_by setting history bag way state update tells had has false true second third fourth fifth echoes same absent =
    rebased-HasKeys setting history bag way state update tells had has
    (λ due. echo-names setting (keys_in state.own) state update.value echoes (has.waits_offered due))
settled_by setting history bag way state update tells had has false false true third fourth fifth echoes same absent =
    accepted-HasKeys setting history bag way state update tells had
settled_by setting history bag way state update tells had has false false false true fourth fifth echoes same absent =
    accepted-HasKeys setting history bag way state update tells had
settled_by setting history bag way state update tells had has false false false false true fifth echoes same absent =
    rebased-HasKeys setting history bag way state update tells had has
    (from_base setting history bag way state update.value has
    (subst (λ (keys : List NigoriKey). Has (names_in setting state.base) (names_of setting keys)) (sym (same_value-keys update.value state.base same))
    (has_names-self (names_in setting state.base))))
settled_by setting history bag way state update tells had has false false false false false true echoes same absent =
    rebased-HasKeys setting history bag way state update tells had has
    (from_base setting history bag way state update.value has
    (subst (λ (keys : List NigoriKey). Has (names_in setting state.base) (names_of setting keys)) (sym (absent-keys update.value absent)) refl))
settled_by setting history bag way state update tells had has false false false false false false echoes same absent =
    accepted-HasKeys setting history bag way state update tells had

settled-HasKeys : (setting : Setting) (history : List (Entry Content)) (bag : List NigoriKey) (way : List (List ℕ)) (state : KeyState) (update : Update)
    → UpdateTells setting history update → HaveNames setting bag (names_in setting update.value)
    → StateHasKeys setting history bag way state
    → StateHasKeys setting history bag way (settled state update (choice_of (row_of (is_echo state update.value) state.base state.own update.value) TakeRemote))
unfolding row_of
settled-HasKeys setting history bag way state update tells had has =
    settled_by setting history bag way state update tells had has (same_value state.own update.value) (is_echo state update.value)
    (is_absent state.own && not (is_absent update.value)) (same_value state.own state.base) (same_value update.value state.base) (is_absent update.value) refl refl refl

-- an update leaves a client with the keys that it knows and sends
updated-HasKeys : (setting : Setting) (history : List (Entry Content)) (bag : List NigoriKey) (way : List (List ℕ)) (state : KeyState) (update : Update)
    → UpdateTells setting history update → HaveNames setting bag (names_in setting update.value)
    → StateHasKeys setting history bag way state → StateHasKeys setting history bag way (updated (decided_by setting Nigori) state update)
unfolding updated
updated-HasKeys setting history bag way state update tells had has =
    cond_both (is_old state update) state
    (cond (is_some state.due) (settled state update (choice_of (row_of (is_echo state update.value) state.base state.own update.value) TakeRemote)) (accepted state update))
    (λ (next : KeyState). StateHasKeys setting history bag way next) (λ old. has)
    (λ newer. cond_both (is_some state.due) (settled state update (choice_of (row_of (is_echo state update.value) state.base state.own update.value) TakeRemote)) (accepted state update)
    (λ (next : KeyState). StateHasKeys setting history bag way next)
    (λ due. settled-HasKeys setting history bag way state update tells had has)
    (λ clean. accepted-HasKeys setting history bag way state update tells had))

still_by : (due number : ℕ) (past : Bool) → IsTrue (is_some (cond past None (Some due))) → IsTrue (is_some (Some due))
still_by due number true is = absurd (false≢true is)
still_by due number false is = is

-- an edit that is still due was due
still_due-due : (due : Option ℕ) (number : ℕ) → IsTrue (is_some (still_due due number)) → IsTrue (is_some due)
still_due-due None number is = is
still_due-due (Some due) number is = still_by due number (nat_le due number) is

-- an acknowledgement that is not ignored
told-HasKeys : (setting : Setting) (history : List (Entry Content)) (bag : List NigoriKey) (way : List (List ℕ)) (state : KeyState) (ack : Ack)
    → AckTells setting history ack → Has way (names_in setting ack.value) → HaveNames setting bag way
    → StateHasKeys setting history bag way state
    → StateHasKeys setting history bag way record {
      known = ack.version;
      base = ack.value;
      own = cond (is_some (still_due state.due ack.number)) state.own ack.value;
      due = still_due state.due ack.number;
      last_edit = state.last_edit;
      lock = ack.lock;
      offered = [];
    }
told-HasKeys setting history bag way state ack tells sent had has = record {
  known = tells.known;
  had = has_names-through (names_of setting bag) way (names_in setting ack.value) had sent;
  waits = λ due. let waits = has.waits (still_due-due state.due ack.number due)
      in let own : state.own ≡ cond (is_some (still_due state.due ack.number)) state.own ack.value = sym (cond-true _ _ _ due)
      in let old : WaitsWithKeys setting bag way ack.value state.own = record {
        has_lock = waits.has_lock;
        has_base = has_names-through (names_in setting state.own) way (names_in setting ack.value) waits.has_way sent;
        has_way = waits.has_way;
        had = waits.had;
      }
      in subst (λ (value : Value). WaitsWithKeys setting bag way ack.value value) own old;
  offered = tt;
  waits_offered = λ due. tt;
}

-- an acknowledgement leaves a client with the keys that it knows and sends
acknowledged-HasKeys : (setting : Setting) (history : List (Entry Content)) (bag : List NigoriKey) (way : List (List ℕ)) (state : KeyState) (ack : Ack)
    → AckTells setting history ack → Has way (names_in setting ack.value) → HaveNames setting bag way
    → StateHasKeys setting history bag way state → StateHasKeys setting history bag way (acknowledged state ack)
unfolding acknowledged
acknowledged-HasKeys setting history bag way state ack tells sent had has =
    cond_both (is_ignored state ack) state _ (λ (next : KeyState). StateHasKeys setting history bag way next) (λ ignored. has)
    (λ new. told-HasKeys setting history bag way state ack tells sent had has)

-- a key is found by itself
is_at-self : (hash : List ℕ) → is_at (slice_cmp nat_cmp hash) hash ≡ true
is_at-self hash = is_eq-slice_cmp hash hash ∙ (bytes_eq-Decides hash hash).1 refl

-- what holds of the states of the one entity
pub record HoldsOfEntity (setting : Setting) (P : KeyState → Type 0) (states : States) : Type 0 where
  pub entity : IsOneEntity setting states
  pub state : P (state_at states (nigori_hash setting))

-- the one state is that of the entity
pub one-HoldsOfEntity : (setting : Setting) (P : KeyState → Type 0) (hash : List ℕ) (state : KeyState) → hash ≡ nigori_hash setting → P state
    → HoldsOfEntity setting P ((hash, state) ∷ [])
one-HoldsOfEntity setting P hash state is holds = record {
  entity = is;
  state = subst P (sym (ap (λ (found : Option KeyState). unwrap_or found new_state)
      (cond-true (is_at (slice_cmp nat_cmp (nigori_hash setting)) hash) (Some state) None
      (subst (λ (key : List ℕ). is_at (slice_cmp nat_cmp (nigori_hash setting)) key ≡ true) (sym is) (is_at-self (nigori_hash setting)))))) holds;
}

-- the state of the one entity, by a hash that is its
pub state_of_entity : (setting : Setting) (P : KeyState → Type 0) (states : States) (hash : List ℕ) → hash ≡ nigori_hash setting
    → HoldsOfEntity setting P states → P (state_at states hash)
state_of_entity setting P states hash is has = subst (λ (key : List ℕ). P (state_at states key)) (sym is) has.state

-- a state is put where there is none, or in place of the one
pub with_state-HoldsOfEntity : (setting : Setting) (P : KeyState → Type 0) (states : States) (hash : List ℕ) (state : KeyState)
    → hash ≡ nigori_hash setting → IsOneEntity setting states → P state → HoldsOfEntity setting P (with_state states hash state)
with_state-HoldsOfEntity setting P [] hash state is entity holds = one-HoldsOfEntity setting P hash state is holds
with_state-HoldsOfEntity setting P (entry ∷ []) hash state is entity holds =
    let same : is_at (slice_cmp nat_cmp hash) entry.0 ≡ true
    = subst (λ (key : List ℕ). is_at (slice_cmp nat_cmp hash) key ≡ true) (is ∙ sym entity) (is_at-self hash)
    in subst (λ (order : Ordering). HoldsOfEntity setting P (match_ordering order ((hash, state) ∷ entry ∷ []) ((entry.0, state) ∷ []) (entry ∷ (hash, state) ∷ [])))
    (sym ((Equal-is (slice_cmp nat_cmp hash entry.0)).0 same)) (one-HoldsOfEntity setting P entry.0 state entity holds)
with_state-HoldsOfEntity setting P (first ∷ second ∷ rest) hash state is entity holds = elim entity [ ]

-- the one entity's state has its keys
abbrev pub StatesHaveKeys : Setting → List (Entry Content) → List NigoriKey → List (List ℕ) → States → Type 0
StatesHaveKeys setting history bag way states = HoldsOfEntity setting (StateHasKeys setting history bag way) states

after_update-HasKeys : (setting : Setting) (history : List (Entry Content)) (bag : List NigoriKey) (way : List (List ℕ)) (states : States) (update : Update)
    → UpdateTells setting history update → HaveNames setting bag (names_in setting update.value)
    → StatesHaveKeys setting history bag way states → StatesHaveKeys setting history bag way (after_update (decided_by setting Nigori) states update)
unfolding after_update
after_update-HasKeys setting history bag way states update tells had has =
    cond_both (is_old (state_at states update.hash) update) states
    (with_state states update.hash (updated (decided_by setting Nigori) (state_at states update.hash) update))
    (λ (next : States). StatesHaveKeys setting history bag way next) (λ old. has)
    (λ newer. with_state-HoldsOfEntity setting (StateHasKeys setting history bag way) states update.hash
    (updated (decided_by setting Nigori) (state_at states update.hash) update) tells.entity has.entity
    (updated-HasKeys setting history bag way (state_at states update.hash) update tells had
    (state_of_entity setting (StateHasKeys setting history bag way) states update.hash tells.entity has)))

-- some updates leave a client with the keys that it knows and sends
pub after_updates-HasKeys : (setting : Setting) (history : List (Entry Content)) (bag : List NigoriKey) (way : List (List ℕ)) (states : States) (updates : List Update)
    → Each (UpdateTells setting history) updates → HaveNames setting bag (names_updated setting updates)
    → StatesHaveKeys setting history bag way states → StatesHaveKeys setting history bag way (after_updates (decided_by setting Nigori) states updates)
unfolding after_updates
after_updates-HasKeys setting history bag way states [] tells had has = has
after_updates-HasKeys setting history bag way states (update ∷ updates) tells had has =
    let parts = has_names-parts (names_of setting bag) (names_in setting update.value) (names_updated setting updates) had
    in after_updates-HasKeys setting history bag way (after_update (decided_by setting Nigori) states update) updates tells.1 parts.1
    (after_update-HasKeys setting history bag way states update tells.0 parts.0 has)

after_ack-HasKeys : (setting : Setting) (history : List (Entry Content)) (bag : List NigoriKey) (way : List (List ℕ)) (states : States) (ack : Ack)
    → AckTells setting history ack → Has way (names_in setting ack.value) → HaveNames setting bag way
    → StatesHaveKeys setting history bag way states → StatesHaveKeys setting history bag way (after_ack states ack)
unfolding after_ack
after_ack-HasKeys setting history bag way states ack tells sent had has =
    cond_both (is_ignored (state_at states ack.hash) ack) states (with_state states ack.hash (acknowledged (state_at states ack.hash) ack))
    (λ (next : States). StatesHaveKeys setting history bag way next) (λ ignored. has)
    (λ new. with_state-HoldsOfEntity setting (StateHasKeys setting history bag way) states ack.hash (acknowledged (state_at states ack.hash) ack)
    tells.entity has.entity (acknowledged-HasKeys setting history bag way (state_at states ack.hash) ack tells sent had
    (state_of_entity setting (StateHasKeys setting history bag way) states ack.hash tells.entity has)))

-- some acknowledgements leave a client with the keys that it knows and sends
pub after_acks-HasKeys : (setting : Setting) (history : List (Entry Content)) (bag : List NigoriKey) (way : List (List ℕ)) (states : States) (acks : List Ack)
    → Each (AckTells setting history) acks → Has way (names_acked setting acks) → HaveNames setting bag way
    → StatesHaveKeys setting history bag way states → StatesHaveKeys setting history bag way (after_acks states acks)
unfolding after_acks
after_acks-HasKeys setting history bag way states [] tells sent had has = has
after_acks-HasKeys setting history bag way states (ack ∷ acks) tells sent had has =
    let parts = has_names-parts way (names_in setting ack.value) (names_acked setting acks) sent
    in after_acks-HasKeys setting history bag way (after_ack states ack) acks tells.1 parts.1 had
    (after_ack-HasKeys setting history bag way states ack tells.0 parts.0 had has)
