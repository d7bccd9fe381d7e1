-- The write of a version by its place among the writes.
use Rattle.std.proofs.Common.{◌≡◌, ◌≢◌, ℕ, zero, suc, ◌+◌, ◌-◌, ◌<◌, ◌≤◌, Bool, true, nat_lt, Bor, get_or, IfSome, IfNone, false, cond, List, [], ◌∷◌, ◌++◌, length, map, Option, Some, None, refl, sym, ap, ◌∙◌, eqb, arith}
use Rattle.std.specs.Prelude.{reverse, is_some}
use Rattle.std.specs.List.{slice_get}
use Rattle.std.specs.Option.{option_map}
use Rattle.std.proofs.lemmas.Bool.{eqb-true, eqb-false}
use Rattle.std.proofs.lemmas.List.{length-map, length-reverse, reverse-append, reverse-reverse}
use Rattle.std.proofs.lemmas.Option.{slice_get_read, slice_get_past}
use Rattle.sync_specifics.specs.declared.specifics.Specifics.{Specifics}
use Rattle.sync_model.specs.declared.message.Entry.{Entry}
use Rattle.sync_model.specs.History.{write_at}
use Rattle.loopback_server.specs.declared.write.Write.{Write}
use Rattle.loopback_server.specs.Stores.{entry_of, history_in}

at_end : (writes : List Write) (write : Write) → slice_get (writes ++ write ∷ []) (length writes) ≡ Some write
at_end [] write = refl
at_end (first ∷ writes) write = at_end writes write

not_at_end : (writes : List Write) (write : Write) (place : ℕ) → place ≢ length writes → slice_get (writes ++ write ∷ []) place ≡ slice_get writes place
not_at_end [] write zero other = absurd (other refl)
not_at_end [] write (suc place) other = refl
not_at_end (first ∷ writes) write zero other = refl
not_at_end (first ∷ writes) write (suc place) other = not_at_end writes write place (λ same. other (ap suc same))

-- one write more at the end
placed_by : (older : List Write) (write : Write) (place : ℕ) (is : Bool) → eqb (place + 1) (length (map entry_of older) + 1) ≡ is
    → write_at (map entry_of older) (place + 1) ≡ option_map entry_of (slice_get (reverse older) place)
    → cond is (Some (entry_of write)) (write_at (map entry_of older) (place + 1)) ≡ option_map entry_of (slice_get (reverse older ++ write ∷ []) place)
placed_by older write place true is before =
    let same : length (reverse older) ≡ place = omega (arith, eqb-true _ _ is, length-map older entry_of, length-reverse older) in
    ap (option_map entry_of) (sym (ap (slice_get (reverse older ++ write ∷ [])) (sym same) ∙ at_end (reverse older) write))
placed_by older write place false is before =
    before ∙ ap (option_map entry_of) (sym (not_at_end (reverse older) write place
    (λ same. eqb-false _ _ is (omega (arith, same, length-map older entry_of, length-reverse older)))))

placed_in : (newest_first : List Write) (place : ℕ) → write_at (map entry_of newest_first) (place + 1) ≡ option_map entry_of (slice_get (reverse newest_first) place)
placed_in [] place = refl
placed_in (write ∷ older) place =
    placed_by older write place (eqb (place + 1) (length (map entry_of older) + 1)) refl (placed_in older place)
    ∙ ap (λ (all : List Write). option_map entry_of (slice_get all place)) (sym (reverse-append (write ∷ []) older))

-- the write at a place has the version after it
pub placed : (writes : List Write) (place : ℕ) → write_at (history_in writes) (place + 1) ≡ option_map entry_of (slice_get writes place)
placed writes place = placed_in (reverse writes) place ∙ ap (λ (all : List Write). option_map entry_of (slice_get all place)) (reverse-reverse writes)

-- what a look-up of a slice finds at the place of a version
pub found_at : (writes slice : List Write) (version : ℕ) (found : Option (Bor Write)) → slice ≡ writes → (version ≡ 0 → ⊥)
    → is_some found ≡ nat_lt (version - 1) (length slice) → IfSome found (λ write. write.now ≡ get_or slice (version - 1) write.now)
    → IfSome found (λ write. write_at (history_in writes) version ≡ Some (entry_of write.now))
found_at writes slice version None same positive is_some is = tt
found_at writes slice version (Some write) same positive is_some is =
    let below : version - 1 < length slice = grind (arith, is_some) in
    ap (write_at (history_in writes)) (omega (arith, positive)) ∙ placed writes (version - 1)
    ∙ ap (option_map entry_of) (ap (λ (all : List Write). slice_get all (version - 1)) (sym same) ∙ slice_get_read slice (length slice) (version - 1) write.now refl below is)

pub none_at : (writes slice : List Write) (version : ℕ) (found : Option (Bor Write)) → slice ≡ writes → (version ≡ 0 → ⊥)
    → is_some found ≡ nat_lt (version - 1) (length slice) → IfNone found (write_at (history_in writes) version ≡ None)
none_at writes slice version None same positive is_some =
    let past : length slice ≤ version - 1 = grind (arith, is_some) in
    ap (write_at (history_in writes)) (omega (arith, positive)) ∙ placed writes (version - 1)
    ∙ ap (option_map entry_of) (ap (λ (all : List Write). slice_get all (version - 1)) (sym same) ∙ slice_get_past slice (version - 1) past)
none_at writes slice version (Some write) same positive is_some = tt

-- no write has version 0
zero_by : (older : List (Entry (Option Specifics))) (write : Entry (Option Specifics)) (version : ℕ) (same : Bool) → version ≡ 0 → eqb version (length older + 1) ≡ same
    → write_at older version ≡ None → cond same (Some write) (write_at older version) ≡ None
zero_by older write version true is same rest = absurd (omega (arith, is, eqb-true _ _ same))
zero_by older write version false is same rest = rest

pub none_at_zero : (history : List (Entry (Option Specifics))) (version : ℕ) → version ≡ 0 → write_at history version ≡ None
none_at_zero [] version is = refl
none_at_zero (write ∷ older) version is = zero_by older write version (eqb version (length older + 1)) is refl (none_at_zero older version is)
