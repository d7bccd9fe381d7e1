-- The batch of a type in a reply is whole: true updates of all that is above what was asked, up to the new mark.
use Rattle.std.proofs.Common.{◌≡◌, ℕ, ◌-◌, ◌<◌, ◌≤◌, max, Bool, true, false, cond, List, [], ◌∷◌, ◌++◌, length, take, Option, Some, None, option_map, unwrap_or, refl, sym, ap, subst, ◌∙◌, eqb, arith, inl, inr, IfSome}
use Rattle.std.specs.List.{AllByRecursion}
use Rattle.std.proofs.lemmas.Bool.{lt-ltb, false≢true}
use Rattle.client_tags.specs.declared.Kind.{Kind}
use Rattle.client_tags.specs.declared.Kind.TheVariants.{Nigori, Preference, Password}
use Rattle.sync_model.specs.declared.message.Content.{Content}
use Rattle.sync_model.specs.declared.message.Entry.{Entry}
use Rattle.sync_model.specs.declared.message.Key.{Key}
use Rattle.sync_model.specs.declared.message.Marker.{Marker}
use Rattle.sync_model.specs.Values.{same_kind}
use Rattle.sync_model.specs.History.{last_version}
use Rattle.sync_model.specs.Servers.{mark_of, is_above, wanted_writes, MAX_UPDATES, last_given, new_mark, new_marker, new_markers, updates_of}
use Rattle.sync_model.specs.Receiving.{update_of, updates_in, batch_of, batch_letter}
use Rattle.sync_model.specs.Facts.{key_of, IsWriteOf, IsTrueUpdate, HasUpdate, IsWhole, IsTrueTask}
use Rattle.sync_model.proofs.Writes.{same_kind-true, same_kind-refl, HasLast, has_last}
use Rattle.sync_model.proofs.TrueAcks.{all_append}
use Rattle.sync_model.proofs.WantedWrites.{IsGiven, HasEntry, all_take, wanted_given, wanted_within, wanted_has, last_given-le, given_by}

-- the new mark is within the history
new_mark_by : (all : Bool) (len asked last : ℕ) → asked ≤ len → last ≤ len → cond all len (max asked last) ≤ len
new_mark_by true len asked last asked_le last_le = omega arith
new_mark_by false len asked last asked_le last_le = omega arith

-- the updates of a type in a reply are true, and have what its entries have
updates_in-true : (history : List (Entry Content)) (kind : Kind) (entries : List (Entry Content))
    → AllByRecursion (IsGiven history) entries → AllByRecursion (IsTrueUpdate history kind) (updates_in kind entries)
unfolding updates_in
updates_in-true history kind [] all = tt
updates_in-true history kind (entry ∷ entries) all =
    all_append (IsTrueUpdate history kind) (cond (same_kind entry.key.kind kind) (update_of entry ∷ []) []) (updates_in kind entries)
    (by (same_kind entry.key.kind kind) refl) (updates_in-true history kind entries all.1)
  where
    by : (same : Bool) → same_kind entry.key.kind kind ≡ same → AllByRecursion (IsTrueUpdate history kind) (cond same (update_of entry ∷ []) [])
    by true same = (
      subst (λ (other : Kind). IsWriteOf history (key_of other entry.key.hash) entry.version entry.content.value)
          (same_kind-true entry.key.kind kind same) all.0,
      tt,
    )
    by false same = tt

updates_in-has : (kind : Kind) (entries : List (Entry Content)) (hash : List ℕ) (version : ℕ)
    → HasEntry entries (key_of kind hash) version → HasUpdate (updates_in kind entries) hash version
unfolding updates_in
updates_in-has kind [] hash version has = absurd has
updates_in-has kind (entry ∷ entries) hash version (inl is) = by (same_kind entry.key.kind kind) same
  where
    same : same_kind entry.key.kind kind ≡ true
    same = ap (λ (key : Key). same_kind key.kind kind) is.0 ∙ same_kind-refl kind

    by : (found : Bool) → found ≡ true → HasUpdate (cond found (update_of entry ∷ []) [] ++ updates_in kind entries) hash version
    by true found = inl (ap (λ (key : Key). key.hash) is.0, is.1)
    by false found = absurd (false≢true found)
updates_in-has kind (entry ∷ entries) hash version (inr has) = by (same_kind entry.key.kind kind) (updates_in-has kind entries hash version has)
  where
    by : (found : Bool) → HasUpdate (updates_in kind entries) hash version → HasUpdate (cond found (update_of entry ∷ []) [] ++ updates_in kind entries) hash version
    by true rest = inr rest
    by false rest = rest

-- the mark of a type among the new marks is the next one of that which was asked
abbrev three_markers : Option ℕ → Option ℕ → Option ℕ → (ℕ → ℕ) → List Marker
three_markers nigori preference password next =
    new_marker Nigori nigori next ++ new_marker Preference preference next ++ new_marker Password password next

mark_of-Nigori : (nigori preference password : Option ℕ) (next : ℕ → ℕ)
    → mark_of Nigori (three_markers nigori preference password next) ≡ option_map next nigori
mark_of-Nigori None None None next = refl
mark_of-Nigori None None (Some w) next = refl
mark_of-Nigori None (Some p) None next = refl
mark_of-Nigori None (Some p) (Some w) next = refl
mark_of-Nigori (Some n) None None next = refl
mark_of-Nigori (Some n) None (Some w) next = refl
mark_of-Nigori (Some n) (Some p) None next = refl
mark_of-Nigori (Some n) (Some p) (Some w) next = refl

mark_of-Preference : (nigori preference password : Option ℕ) (next : ℕ → ℕ)
    → mark_of Preference (three_markers nigori preference password next) ≡ option_map next preference
mark_of-Preference None None None next = refl
mark_of-Preference None None (Some w) next = refl
mark_of-Preference None (Some p) None next = refl
mark_of-Preference None (Some p) (Some w) next = refl
mark_of-Preference (Some n) None None next = refl
mark_of-Preference (Some n) None (Some w) next = refl
mark_of-Preference (Some n) (Some p) None next = refl
mark_of-Preference (Some n) (Some p) (Some w) next = refl

mark_of-Password : (nigori preference password : Option ℕ) (next : ℕ → ℕ)
    → mark_of Password (three_markers nigori preference password next) ≡ option_map next password
mark_of-Password None None None next = refl
mark_of-Password None None (Some w) next = refl
mark_of-Password None (Some p) None next = refl
mark_of-Password None (Some p) (Some w) next = refl
mark_of-Password (Some n) None None next = refl
mark_of-Password (Some n) None (Some w) next = refl
mark_of-Password (Some n) (Some p) None next = refl
mark_of-Password (Some n) (Some p) (Some w) next = refl

mark_of-new_markers : (kind : Kind) (marks : List Marker) (next : ℕ → ℕ) (asked : ℕ)
    → mark_of kind marks ≡ Some asked → mark_of kind (new_markers marks next) ≡ Some (next asked)
mark_of-new_markers Nigori marks next asked is =
    mark_of-Nigori (mark_of Nigori marks) (mark_of Preference marks) (mark_of Password marks) next ∙ ap (λ (mark : Option ℕ). option_map next mark) is
mark_of-new_markers Preference marks next asked is =
    mark_of-Preference (mark_of Nigori marks) (mark_of Preference marks) (mark_of Password marks) next ∙ ap (λ (mark : Option ℕ). option_map next mark) is
mark_of-new_markers Password marks next asked is =
    mark_of-Password (mark_of Nigori marks) (mark_of Preference marks) (mark_of Password marks) next ∙ ap (λ (mark : Option ℕ). option_map next mark) is

-- the next mark of one that was asked
abbrev next_mark : List (Entry Content) → List Marker → ℕ → ℕ
next_mark history marks asked =
    new_mark history (take MAX_UPDATES (wanted_writes marks history history)) (length (wanted_writes marks history history) - MAX_UPDATES) asked

next_mark-le : (history : List (Entry Content)) (marks : List Marker) (asked : ℕ) → asked ≤ length history → next_mark history marks asked ≤ length history
next_mark-le history marks asked within =
    new_mark_by (eqb (length (wanted_writes marks history history) - MAX_UPDATES) 0) (length history) asked
    (last_given (take MAX_UPDATES (wanted_writes marks history history))) within
    (last_given-le (length history) (take MAX_UPDATES (wanted_writes marks history history))
    (all_take (λ (entry : Entry Content). entry.version ≤ length history) MAX_UPDATES (wanted_writes marks history history) (wanted_within marks history history)))

-- the last write of a key, if it is above what was asked and not above the next mark, is given
given_has : (history : List (Entry Content)) (marks : List Marker) (kind : Kind) (hash : List ℕ) (asked : ℕ) → mark_of kind marks ≡ Some asked
    → asked < last_version history (key_of kind hash) → last_version history (key_of kind hash) ≤ next_mark history marks asked
    → HasEntry (take MAX_UPDATES (wanted_writes marks history history)) (key_of kind hash) (last_version history (key_of kind hash))
given_has history marks kind hash asked is above le =
    let last : HasLast history (key_of kind hash) = has_last history (key_of kind hash) (omega (arith, above)) in
    given_by marks history (key_of kind hash) (last_version history (key_of kind hash)) asked
    (eqb (length (wanted_writes marks history history) - MAX_UPDATES) 0) refl
    (wanted_has marks history history (key_of kind hash) last.write (last_version history (key_of kind hash)) last.at last.is refl
    (ap (λ (mark : Option ℕ). is_above mark (last_version history (key_of kind hash))) is ∙ lt-ltb _ _ above))
    above le

-- the batch of a type in a reply is whole from what was asked
batch_of-IsWhole : (history : List (Entry Content)) (marks : List Marker) (kind : Kind) (asked : ℕ) → mark_of kind marks ≡ Some asked
    → asked ≤ length history → IsWhole history kind asked (batch_of kind asked (updates_of history marks (wanted_writes marks history history)))
batch_of-IsWhole history marks kind asked is within = record {
  bounded = subst (λ (mark : ℕ). mark ≤ length history) (sym new) (next_mark-le history marks asked within);
  is_true = updates_in-true history kind given (all_take (IsGiven history) MAX_UPDATES (wanted_writes marks history history)
      (wanted_given marks history history (λ version write at. at)));
  misses_none = λ hash above le. updates_in-has kind given hash (last_version history (key_of kind hash))
      (given_has history marks kind hash asked is above (subst (λ (mark : ℕ). last_version history (key_of kind hash) ≤ mark) new le));
}
  where
    given : List (Entry Content)
    given = take MAX_UPDATES (wanted_writes marks history history)

    new : unwrap_or (mark_of kind (new_markers marks (next_mark history marks))) asked ≡ next_mark history marks asked
    new = ap (λ (mark : Option ℕ). unwrap_or mark asked) (mark_of-new_markers kind marks (next_mark history marks) asked is)

-- so is the letter of a type, if the type was asked for
pub batch_letter-true : (history : List (Entry Content)) (marks : List Marker) (kind : Kind) (asked : Option ℕ) → mark_of kind marks ≡ asked
    → unwrap_or asked 0 ≤ length history
    → IfSome (batch_letter kind asked (updates_of history marks (wanted_writes marks history history))) (IsTrueTask history kind (unwrap_or asked 0))
batch_letter-true history marks kind None is within = tt
batch_letter-true history marks kind (Some asked) is within = batch_of-IsWhole history marks kind asked is within
