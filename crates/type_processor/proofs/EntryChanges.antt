-- What is put into a map's entries can be taken back.
use Rattle.std.proofs.Common.{◌≡◌, arith, true, cond, List, [], ◌∷◌, length, drop, Some, None, refl, sym, ap}
use Rattle.std.specs.Prelude.{unwrap_or}
use Rattle.std.specs.BTreeMap.{is_at, insert_entry}
use Rattle.std.specs.Map.{lookup, remove_entry, set_value, keys_of}
use Rattle.std.specs.Ordering.{is_eq, match_ordering}
use Rattle.std.specs.declared.cmp.Ordering.{Ordering}
use Rattle.std.specs.declared.cmp.Ordering.TheVariants.{Less, Equal, Greater}

-- a list is not its own rest
not_longer : {X : Type 0} (x : X) (xs : List X) → x ∷ xs ≡ xs → ⊥
not_longer x xs same = omega (arith, ap length same)

the_one : {X : Type 0} (x y : X) → Some x ≡ Some y → x ≡ y
the_one x y same = ap (λ found. unwrap_or found x) same

module _ {K X : Type 0} (cmp : K → K → Ordering) where
  new_by : (k : K) (v : X) (e : K × X) (es : List (K × X)) (o : Ordering) → is_eq (cmp k k) ≡ true → cmp k e.0 ≡ o
      → cond (is_eq o) (Some e.1) (lookup (is_at (cmp k)) es) ≡ None
      → (lookup (is_at (cmp k)) es ≡ None → remove_entry (is_at (cmp k)) (insert_entry cmp es k v) ≡ es)
      → remove_entry (is_at (cmp k)) (match_ordering o ((k, v) ∷ e ∷ es) ((e.0, v) ∷ es) (e ∷ insert_entry cmp es k v)) ≡ e ∷ es
  new_by k v e es Less itself is absent rest = rw itself refl
  new_by k v e es Equal itself is absent rest = cc
  new_by k v e es Greater itself is absent rest = rw is (ap (λ (others : List (K × X)). e ∷ others) (rest absent))

  -- a new key that was put is taken out again
  pub undo_new : (es : List (K × X)) (k : K) (v : X) → is_eq (cmp k k) ≡ true → lookup (is_at (cmp k)) es ≡ None
      → remove_entry (is_at (cmp k)) (insert_entry cmp es k v) ≡ es
  undo_new [] k v itself absent = rw itself refl
  undo_new (e ∷ es) k v itself absent = new_by k v e es (cmp k e.0) itself refl absent (undo_new es k v itself)

  kept_by : (k : K) (v old : X) (e : K × X) (es : List (K × X)) (o : Ordering) → cmp k e.0 ≡ o
      → keys_of (match_ordering o ((k, v) ∷ e ∷ es) ((e.0, v) ∷ es) (e ∷ insert_entry cmp es k v)) ≡ keys_of (e ∷ es)
      → cond (is_eq o) (Some e.1) (lookup (is_at (cmp k)) es) ≡ Some old
      → (keys_of (insert_entry cmp es k v) ≡ keys_of es → lookup (is_at (cmp k)) es ≡ Some old → insert_entry cmp (insert_entry cmp es k v) k old ≡ es)
      → insert_entry cmp (match_ordering o ((k, v) ∷ e ∷ es) ((e.0, v) ∷ es) (e ∷ insert_entry cmp es k v)) k old ≡ e ∷ es
  kept_by k v old e es Less is keys found rest = absurd (not_longer k (keys_of (e ∷ es)) keys)
  kept_by k v old e es Equal is keys found rest = rw is (ap (λ (value : X). (e.0, value) ∷ es) (sym (the_one e.1 old found)))
  kept_by k v old e es Greater is keys found rest =
      rw is (ap (λ (others : List (K × X)). e ∷ others) (rest (ap (drop 1) keys) found))

  -- a value that was put in the place of another one gives way to that again
  pub undo_kept : (es : List (K × X)) (k : K) (v old : X) → keys_of (insert_entry cmp es k v) ≡ keys_of es
      → lookup (is_at (cmp k)) es ≡ Some old → insert_entry cmp (insert_entry cmp es k v) k old ≡ es
  undo_kept [] k v old keys found = cc
  undo_kept (e ∷ es) k v old keys found = kept_by k v old e es (cmp k e.0) refl keys found (undo_kept es k v old)

  set_by : (k : K) (v : X) (e : K × X) (es : List (K × X)) (o : Ordering)
      → keys_of (match_ordering o ((k, v) ∷ e ∷ es) ((e.0, v) ∷ es) (e ∷ insert_entry cmp es k v)) ≡ keys_of (e ∷ es)
      → (keys_of (insert_entry cmp es k v) ≡ keys_of es → insert_entry cmp es k v ≡ set_value (is_at (cmp k)) es v)
      → match_ordering o ((k, v) ∷ e ∷ es) ((e.0, v) ∷ es) (e ∷ insert_entry cmp es k v)
      ≡ cond (is_eq o) ((e.0, v) ∷ es) (e ∷ set_value (is_at (cmp k)) es v)
  set_by k v e es Less keys rest = absurd (not_longer k (keys_of (e ∷ es)) keys)
  set_by k v e es Equal keys rest = refl
  set_by k v e es Greater keys rest = ap (λ (others : List (K × X)). e ∷ others) (rest (ap (drop 1) keys))

  -- a value that is put at a key that is there is set
  pub put_is_set : (es : List (K × X)) (k : K) (v : X) → keys_of (insert_entry cmp es k v) ≡ keys_of es
      → insert_entry cmp es k v ≡ set_value (is_at (cmp k)) es v
  put_is_set [] k v keys = cc
  put_is_set (e ∷ es) k v keys = set_by k v e es (cmp k e.0) keys (put_is_set es k v)
