-- The entries of a map of trackers, and the states that they stand for.
use Rattle.std.proofs.Common.{◌≡◌, ℕ, Bool, true, false, cond, List, [], ◌∷◌, Option, Some, None, refl, sym, ap, ◌∙◌}
use Rattle.std.specs.Prelude.{is_some, unwrap_or, Result, Ok, Err, OnErr}
use Rattle.std.specs.Option.{option_map}
use Rattle.std.specs.List.{All, AllByRecursion}
use Rattle.std.specs.BTreeMap.{is_at, insert_entry}
use Rattle.std.specs.Cmp.Lexicographic.{slice_cmp}
use Rattle.std.specs.Map.{lookup, remove_entry, keys_of}
use Rattle.std.specs.Ordering.{nat_cmp, is_eq, match_ordering}
use Rattle.std.specs.declared.cmp.Ordering.{Ordering}
use Rattle.std.specs.declared.cmp.Ordering.TheVariants.{Less, Equal, Greater}
use Rattle.std.proofs.lemmas.List.Elements.{All-head, All-tail}
use Rattle.std.proofs.lemmas.Slice.Eq.{bytes_eq-Decides}
use Rattle.std.proofs.lemmas.Map.Text.{is_eq-slice_cmp}
use Rattle.client_tags.specs.declared.hash.TagHash.{TagHash}
use Rattle.entity_tracker.specs.Tracked.{Tracked}
use Rattle.sync_model.specs.declared.state.KeyState.{KeyState}
use Rattle.sync_model.specs.Sides.{States, has_state, with_state}
use Rattle.type_processor.specs.Keyed.{state_of, states_of, hashes_of, AreKeyed, HaveOwnHashes, key_of, found_at, key_with, key_at}

-- what holds anyhow holds where there is a fault
pub any_err : {A B : Type 0} {P : Type 0} (result : Result A B) → P → OnErr result P
any_err (Ok value) holds = tt
any_err (Err fault) holds = holds

abbrev Entries : Type 0
Entries = List (TagHash × Tracked)

-- the order of hashes
abbrev pub by_hash : TagHash → TagHash → Ordering
by_hash a b = slice_cmp nat_cmp a b

-- texts of bytes that tie are equal
pub same_bytes : (a b : List ℕ) → is_eq (slice_cmp nat_cmp a b) ≡ true → a ≡ b
same_bytes a b tie = (bytes_eq-Decides a b).0 (sym (is_eq-slice_cmp a b) ∙ tie)

pub ties_itself : (a : List ℕ) → is_eq (slice_cmp nat_cmp a a) ≡ true
ties_itself a = is_eq-slice_cmp a a ∙ (bytes_eq-Decides a a).1 refl

keyed_by : (key : TagHash) (t : Tracked) (e : TagHash × Tracked) (es rest : Entries) (o : Ordering)
    → by_hash key e.0 ≡ o → t.hash ≡ key → AreKeyed (e ∷ es) → AreKeyed rest
    → AreKeyed (match_ordering o ((key, t) ∷ e ∷ es) ((e.0, t) ∷ es) (e ∷ rest))
keyed_by key t e es rest Less is own keyed others = (own, keyed)
keyed_by key t e es rest Equal is own keyed others = (own ∙ same_bytes key e.0 (ap is_eq is), keyed.1)
keyed_by key t e es rest Greater is own keyed others = (keyed.0, others)

-- a tracker that is put at its key is that of its key
pub keyed_insert : (es : Entries) (key : TagHash) (t : Tracked) → t.hash ≡ key → AreKeyed es → AreKeyed (insert_entry by_hash es key t)
keyed_insert [] key t own keyed = (own, tt)
keyed_insert (e ∷ es) key t own keyed =
    keyed_by key t e es (insert_entry by_hash es key t) (by_hash key e.0) refl own keyed (keyed_insert es key t own keyed.1)

states_by : (key : TagHash) (t : Tracked) (e : TagHash × Tracked) (es rest : Entries) (states : States) (o : Ordering)
    → states_of rest ≡ states
    → states_of (match_ordering o ((key, t) ∷ e ∷ es) ((e.0, t) ∷ es) (e ∷ rest))
    ≡ match_ordering o ((key, t.state) ∷ state_of e ∷ states_of es) ((e.0, t.state) ∷ states_of es) (state_of e ∷ states)
states_by key t e es rest states Less same = refl
states_by key t e es rest states Equal same = refl
states_by key t e es rest states Greater same = ap (λ (others : States). state_of e ∷ others) same

-- the states after a tracker is put at its key
pub states_insert : (es : Entries) (key : TagHash) (t : Tracked)
    → states_of (insert_entry by_hash es key t) ≡ with_state (states_of es) key t.state
states_insert [] key t = refl
states_insert (e ∷ es) key t =
    states_by key t e es (insert_entry by_hash es key t) (with_state (states_of es) key t.state) (by_hash key e.0) (states_insert es key t)

found_by : (key : TagHash) (e : TagHash × Tracked) (found : Option Tracked) (other : Option KeyState) (tie : Bool)
    → is_eq (by_hash key e.0) ≡ tie → e.1.hash ≡ e.0 → option_map key_of found ≡ key_with key other
    → option_map key_of (cond tie (Some e.1) found) ≡ key_with key (cond tie (Some e.1.state) other)
found_by key e found other true is own same =
    ap (λ (hash : List ℕ). key_with hash (Some e.1.state)) (own ∙ sym (same_bytes key e.0 is))
found_by key e found other false is own same = same

-- the tracker that a map has at a key
pub found_tracker : (es : Entries) (key : TagHash) → AreKeyed es
    → option_map key_of (lookup (is_at (by_hash key)) es) ≡ key_at (states_of es) key
found_tracker [] key keyed = refl
found_tracker (e ∷ es) key keyed =
    found_by key e (lookup (is_at (by_hash key)) es) (found_at (states_of es) key) (is_eq (by_hash key e.0)) refl keyed.0
    (found_tracker es key keyed.1)

is_mapped : (found : Option Tracked) → is_some found ≡ is_some (option_map key_of found)
is_mapped None = refl
is_mapped (Some tracker) = refl

has_by : (hash : List ℕ) (found : Option KeyState) → is_some (key_with hash found) ≡ is_some found
has_by hash None = refl
has_by hash (Some state) = refl

-- a map has a key where its state is there
pub found_some : (es : Entries) (key : TagHash) → AreKeyed es
    → is_some (lookup (is_at (by_hash key)) es) ≡ has_state (states_of es) key
found_some es key keyed =
    is_mapped (lookup (is_at (by_hash key)) es) ∙ ap is_some (found_tracker es key keyed) ∙ has_by key (found_at (states_of es) key)

keyed_without : (e : TagHash × Tracked) (es rest : Entries) (tie : Bool) → AreKeyed (e ∷ es) → AreKeyed rest → AreKeyed (cond tie es (e ∷ rest))
keyed_without e es rest true keyed others = keyed.1
keyed_without e es rest false keyed others = (keyed.0, others)

-- what is left where a key is taken out
pub keyed_remove : (es : Entries) (key : TagHash) → AreKeyed es → AreKeyed (remove_entry (is_at (by_hash key)) es)
keyed_remove [] key keyed = tt
keyed_remove (e ∷ es) key keyed =
    keyed_without e es (remove_entry (is_at (by_hash key)) es) (is_eq (by_hash key e.0)) keyed (keyed_remove es key keyed.1)

states_without : (e : TagHash × Tracked) (es rest : Entries) (states : States) (tie : Bool) → states_of rest ≡ states
    → states_of (cond tie es (e ∷ rest)) ≡ cond tie (states_of es) (state_of e ∷ states)
states_without e es rest states true same = refl
states_without e es rest states false same = ap (λ (others : States). state_of e ∷ others) same

pub states_remove : (es : Entries) (key : TagHash)
    → states_of (remove_entry (is_at (by_hash key)) es) ≡ remove_entry (is_at (slice_cmp nat_cmp key)) (states_of es)
states_remove [] key = refl
states_remove (e ∷ es) key =
    states_without e es (remove_entry (is_at (by_hash key)) es) (remove_entry (is_at (slice_cmp nat_cmp key)) (states_of es))
    (is_eq (by_hash key e.0)) (states_remove es key)

hashes_by_keys : (es : Entries) → hashes_of (states_of es) ≡ keys_of es
hashes_by_keys [] = refl
hashes_by_keys (e ∷ es) = ap (λ (hashes : List (List ℕ)). e.0 ∷ hashes) (hashes_by_keys es)

-- where the keys stay, the hashes do
pub same_hashes : (old new : Entries) → keys_of new ≡ keys_of old → hashes_of (states_of new) ≡ hashes_of (states_of old)
same_hashes old new same =
    hashes_by_keys new ∙ same ∙ sym (hashes_by_keys old)

the_state : (hash : List ℕ) (found : Option KeyState) (tracker : Tracked) → key_with hash found ≡ Some (key_of tracker) → found ≡ Some tracker.state
the_state hash None tracker same = cc
the_state hash (Some state) tracker same = ap (λ (key : Option (List ℕ × KeyState)). Some (unwrap_or key (key_of tracker)).1) same

abbrev FoundIn : Entries → TagHash × Tracked → Type 0
FoundIn all e = lookup (is_at (by_hash e.0)) all ≡ Some e.1

own_hashes_by : (all es : Entries) → AreKeyed all → All (FoundIn all) es
    → AllByRecursion (λ (key : List ℕ × KeyState). found_at (states_of all) key.0 ≡ Some key.1) (states_of es)
own_hashes_by all [] keyed found = tt
own_hashes_by all (e ∷ es) keyed found = (
  the_state e.0 (found_at (states_of all) e.0) e.1
      (sym (found_tracker all e.0 keyed) ∙ ap (option_map key_of) (All-head (FoundIn all) e es found)),
  own_hashes_by all es keyed (All-tail (FoundIn all) e es found),
)

-- the keys of a map have hashes of their own
pub own_hashes : (es : Entries) → AreKeyed es → All (λ (e : TagHash × Tracked). lookup (is_at (by_hash e.0)) es ≡ Some e.1) es
    → HaveOwnHashes (states_of es)
own_hashes es keyed found = own_hashes_by es es keyed found
