-- The length of fields that are counted one by one.
use Rattle.std.proofs.Common.{◌≡◌, ℕ, ◌+◌, ◌<◌, List, [], ◌∷◌, ◌++◌, length, take, get_or, subst, sym, ap, ◌∙◌}
use Rattle.std.specs.List.{flat_map}
use Rattle.std.proofs.lemmas.List.{take_more, append-nil}
use Rattle.std.proofs.lemmas.Grind.{flat_map-append}
use Rattle.sync_messages.specs.Lengths.{IsLength}

-- what is written of one more of some things
one_more_written : {A : Type 0} (written : A → List ℕ) (items : List A) (index : ℕ) (item : A) → index < length items →
    flat_map written (take (index + 1) items) ≡ flat_map written (take index items) ++ written (get_or items index item)
one_more_written written items index item below =
    ap (flat_map written) (take_more items index item below)
    ∙ flat_map-append written (take index items) (get_or items index item ∷ [])
    ∙ ap (λ last. flat_map written (take index items) ++ last) (append-nil (written (get_or items index item)))

-- the length with one more of some things
pub one_longer : {A : Type 0} (written : A → List ℕ) (items : List A) (index : ℕ) (item : A) (total : ℕ) → index < length items →
    IsLength total (flat_map written (take index items) ++ written (get_or items index item)) →
    IsLength total (flat_map written (take (index + 1) items))
one_longer written items index item total below long =
    subst (λ bytes. IsLength total bytes) (sym (one_more_written written items index item below)) long
