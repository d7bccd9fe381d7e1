-- What a page is after one more write was wanted.
use Rattle.std.proofs.Common.{◌≡◌, ℕ, ◌+◌, ◌<◌, ◌≤◌, arith, List, [], ◌∷◌, ◌++◌, length, take, map, Option, refl, sym, ap, subst, ◌∙◌, append_assoc}
use Rattle.std.proofs.lemmas.List.{length-take, take_all, take-append-le, length-append, length-map, map-append}
use Rattle.std.proofs.lemmas.List.{append-nil}
use Rattle.std.proofs.lemmas.List.Concat.{flat_map-append}
use Rattle.std.specs.List.{flat_map}
use Rattle.std.specs.Prelude.{min}
use Rattle.client_tags.specs.declared.Kind.{Kind}
use Rattle.client_tags.specs.declared.Kind.TheVariants.{Nigori, Preference, Password}
use Rattle.sync_specifics.specs.declared.specifics.Specifics.{Specifics}
use Rattle.sync_messages.specs.declared.message.Entity.{Entity}
use Rattle.sync_model.specs.declared.message.Entry.{Entry}
use Rattle.sync_model.specs.declared.message.Marker.{Marker}
use Rattle.sync_model.specs.Servers.{mark_of, last_given, MAX_UPDATES}
use Rattle.loopback_server.specs.declared.page.Page.{Page}
use Rattle.replay_messages.specs.Replies.{told_entity}
use Rattle.loopback_server.specs.Pages.{asked_of, mark_in, IsPage}

-- the last of some entries with one more
last_of_more : (entries : List (Entry (Option Specifics))) (entry : Entry (Option Specifics)) → last_given (entries ++ entry ∷ []) ≡ entry.version
last_of_more [] entry = refl
last_of_more (first ∷ []) entry = refl
last_of_more (first ∷ second ∷ rest) entry = last_of_more (second ∷ rest) entry

-- how many entries a page has
page_length : (page : Page) (wanted : List (Entry (Option Specifics))) → IsPage page wanted → length page.entries.items ≡ min MAX_UPDATES (length wanted)
page_length page wanted is = ap length is.entries ∙ length-map (take MAX_UPDATES wanted) told_entity ∙ length-take MAX_UPDATES wanted

-- a page with room has all that is wanted, and takes one more
pub page_added : (page new : Page) (wanted : List (Entry (Option Specifics))) (entry : Entry (Option Specifics)) → length page.entries.items < 500
    → new.entries.items ≡ page.entries.items ++ told_entity entry ∷ [] → new.remaining ≡ page.remaining → new.last ≡ entry.version
    → IsPage page wanted → IsPage new (wanted ++ entry ∷ [])
page_added page new wanted entry few is_entries is_remaining is_last is =
    let short : length wanted < 500 = omega (arith, page_length page wanted is) in
    let longer : length (wanted ++ entry ∷ []) ≡ length wanted + 1 = length-append wanted (entry ∷ []) in
    let all : take MAX_UPDATES wanted ≡ wanted = take_all MAX_UPDATES wanted (omega (arith, short)) in
    let whole : take MAX_UPDATES (wanted ++ entry ∷ []) ≡ wanted ++ entry ∷ [] = take_all MAX_UPDATES (wanted ++ entry ∷ []) (omega (arith, short, longer)) in
    record {
      entries = is_entries ∙ ap (λ entries. entries ++ told_entity entry ∷ []) (is.entries ∙ ap (map told_entity) all)
          ∙ sym (map-append told_entity wanted (entry ∷ [])) ∙ ap (map told_entity) (sym whole);
      remaining = is_remaining ∙ is.remaining ∙ omega (arith, short, longer);
      last = is_last ∙ sym (last_of_more wanted entry) ∙ ap last_given (sym whole);
    }

-- a full page counts one more
pub page_full : (page new : Page) (wanted : List (Entry (Option Specifics))) (entry : Entry (Option Specifics)) → 500 ≤ length page.entries.items
    → new.entries.items ≡ page.entries.items → new.remaining ≡ page.remaining + 1 → new.last ≡ page.last
    → IsPage page wanted → IsPage new (wanted ++ entry ∷ [])
page_full page new wanted entry full is_entries is_remaining is_last is =
    let long : 500 ≤ length wanted = omega (arith, page_length page wanted is, full) in
    let longer : length (wanted ++ entry ∷ []) ≡ length wanted + 1 = length-append wanted (entry ∷ []) in
    let same : take MAX_UPDATES (wanted ++ entry ∷ []) ≡ take MAX_UPDATES wanted = take-append-le MAX_UPDATES wanted (entry ∷ []) long in
    record {
      entries = is_entries ∙ is.entries ∙ ap (map told_entity) (sym same);
      remaining = is_remaining ∙ ap (λ n. n + 1) is.remaining ∙ omega (arith, long, longer);
      last = is_last ∙ is.last ∙ ap last_given (sym same);
    }

-- the mark that was kept of a type is the last that was given for it
pub mark_is : (marks : List Marker) (kind : Kind) → mark_in (asked_of marks) kind ≡ mark_of kind marks
mark_is marks Nigori = refl
mark_is marks Preference = refl
mark_is marks Password = refl

-- a page of the same writes
pub page_more : (new : Page) (wanted next : List (Entry (Option Specifics))) → wanted ≡ next → IsPage new wanted → IsPage new next
page_more new wanted next is page = subst (λ (all : List (Entry (Option Specifics))). IsPage new all) is page

-- what one version more gives
pub given_more : {X Y : Type 0} (gives : X → List Y) (before : List X) (next : X) → flat_map gives before ++ gives next ≡ flat_map gives (before ++ next ∷ [])
given_more gives before next =
    sym (flat_map-append gives before (next ∷ []) ∙ ap (λ (one : List _). flat_map gives before ++ one) (append-nil (gives next)))

-- a version moves from what is left to what is done
pub moved : {X : Type 0} (before left rest all : List X) (next : X) → left ≡ next ∷ rest → before ++ left ≡ all → (before ++ next ∷ []) ++ rest ≡ all
moved before left rest all next is whole = append_assoc before (next ∷ []) rest ∙ ap (λ (more : List _). before ++ more) (sym is) ∙ whole

-- nothing is left
pub all_done : {X : Type 0} (before left all : List X) → left ≡ [] → before ++ left ≡ all → before ≡ all
all_done before left all none whole = sym (append-nil before) ∙ ap (λ (more : List _). before ++ more) (sym none) ∙ whole

-- the entities with what one version more gives
pub entities_more : (gives : ℕ → List (Entry (Option Specifics))) (entities new all : List Entity) (left rest : List ℕ) (next : ℕ)
    → left ≡ next ∷ rest → new ≡ entities ++ map told_entity (gives next) → entities ++ map told_entity (flat_map gives left) ≡ all
    → new ++ map told_entity (flat_map gives rest) ≡ all
entities_more gives entities new all left rest next is is_new whole =
    ap (λ (first : List Entity). first ++ map told_entity (flat_map gives rest)) is_new
    ∙ append_assoc entities (map told_entity (gives next)) (map told_entity (flat_map gives rest))
    ∙ ap (λ (more : List Entity). entities ++ more) (sym (map-append told_entity (gives next) (flat_map gives rest)) ∙ ap (λ (versions : List ℕ). map told_entity (flat_map gives versions)) (sym is))
    ∙ whole

-- no version is left
pub entities_done : (gives : ℕ → List (Entry (Option Specifics))) (entities all : List Entity) (left : List ℕ)
    → left ≡ [] → entities ++ map told_entity (flat_map gives left) ≡ all → entities ≡ all
entities_done gives entities all left none whole =
    all_done entities (map told_entity (flat_map gives left)) all (ap (λ (versions : List ℕ). map told_entity (flat_map gives versions)) none) whole
