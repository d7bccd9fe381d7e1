-- What offers of preferences that nothing seals make of what is held.
use Rattle.std.proofs.Common.{◌≡◌, ℕ, arith, Bool, true, false, cond, List, [], ◌∷◌, ◌++◌, length, drop, Option, None, refl, sym, ap, ◌∙◌, append_assoc}
use Rattle.std.proofs.lemmas.List.{append-nil}
use Rattle.std.specs.List.{AllByRecursion}
use Rattle.client_tags.specs.declared.Kind.TheVariants.{Preference}
use Rattle.sync_model.specs.declared.message.Content.{Content}
use Rattle.sync_model.specs.declared.message.Entry.{Entry}
use Rattle.sync_model.specs.declared.message.Offer.{Offer}
use Rattle.sync_model.specs.Sending.{Draws, entry_of, sealed, drawn_after, drawn_for}
use Rattle.sync_model.specs.Values.{is_absent}
use Rattle.replay_client.specs.Draws.{no_draws}

-- no key either way
pub either_way : (test : Bool) → cond test None None ≡ (let none : Option (List ℕ) = None in none)
either_way true = refl
either_way false = refl

-- the first of some offers of preferences that nothing seals
sealed_first : (offer : Offer) (rest : List Offer) → sealed no_draws Preference None 0 (offer ∷ rest) ≡ entry_of no_draws Preference None 0 offer ∷ sealed no_draws Preference None 0 rest
unfolding sealed
sealed_first offer rest =
    ap (λ lock. entry_of no_draws Preference lock 0 offer ∷ sealed no_draws Preference None (drawn_after lock 0) rest) (either_way (is_absent offer.value))

-- where no key is wanted it does not matter how a client draws
pub undrawn : (draws : Draws) (drawn : ℕ) (offers : List Offer) → sealed draws Preference None drawn offers ≡ sealed no_draws Preference None drawn offers
unfolding sealed
undrawn draws drawn [] = refl
undrawn draws drawn (offer ∷ offers) =
    ap (λ lock. entry_of draws Preference lock drawn offer ∷ sealed draws Preference None (drawn_after lock drawn) offers) (either_way (is_absent offer.value))
    ∙ ap (λ rest. entry_of no_draws Preference None drawn offer ∷ rest) (undrawn draws drawn offers)
    ∙ sym (ap (λ lock. entry_of no_draws Preference lock drawn offer ∷ sealed no_draws Preference None (drawn_after lock drawn) offers) (either_way (is_absent offer.value)))

-- nothing is drawn where no key is wanted
pub none_drawn : (drawn : ℕ) (offers : List Offer) → drawn_for Preference None drawn offers ≡ drawn
unfolding drawn_for
none_drawn drawn [] = refl
none_drawn drawn (offer ∷ offers) =
    ap (λ lock. drawn_for Preference None (drawn_after lock drawn) offers) (either_way (is_absent offer.value)) ∙ none_drawn drawn offers

-- one more entry is held
pub step_hold : (held pushed : List (Entry Content)) (offers : List Offer) (offer : Offer) (rest : List Offer) (all : List (Entry Content))
    → offers ≡ offer ∷ rest → pushed ≡ held ++ entry_of no_draws Preference None 0 offer ∷ [] → held ++ sealed no_draws Preference None 0 offers ≡ all → pushed ++ sealed no_draws Preference None 0 rest ≡ all
step_hold held pushed offers offer rest all is_offers is_pushed same =
    ap (λ entries. entries ++ sealed no_draws Preference None 0 rest) is_pushed
    ∙ append_assoc held (entry_of no_draws Preference None 0 offer ∷ []) (sealed no_draws Preference None 0 rest)
    ∙ ap (λ entries. held ++ entries) (sym (sealed_first offer rest))
    ∙ ap (λ (left : List Offer). held ++ sealed no_draws Preference None 0 left) (sym is_offers)
    ∙ same

nil_from_drop : {A : Type 0} (xs : List A) → xs ≡ drop 1 xs → xs ≡ []
nil_from_drop [] same = refl
nil_from_drop (x ∷ xs) same = absurd (omega (arith, ap length same))

-- all are held
pub end_hold : (held : List (Entry Content)) (offers rest : List Offer) (all : List (Entry Content)) → offers ≡ rest → rest ≡ drop 1 offers
    → held ++ sealed no_draws Preference None 0 offers ≡ all → held ≡ all
unfolding sealed
end_hold held offers rest all same_rest dropped same =
    sym (append-nil held) ∙ (rw (nil_from_drop offers (same_rest ∙ dropped)) at same)

-- what holds of each of two lists
pub all_append : {A : Type 0} (P : A → Type 0) (xs ys : List A) → AllByRecursion P xs → AllByRecursion P ys → AllByRecursion P (xs ++ ys)
all_append P [] ys all others = others
all_append P (x ∷ xs) ys all others = (all.0, all_append P xs ys all.1 others)
