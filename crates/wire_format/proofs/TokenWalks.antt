-- Walks over tokens: what those of some bytes do to the groups that are open.
use Rattle.std.proofs.Common.{◌≡◌, ℕ, Bool, true, false, if◌then◌else◌, ◌==◌, nat_lt, List, [], ◌∷◌, ◌++◌, Option, Some, None, length, refl, sym, ap, subst, ◌∙◌}
use Rattle.std.specs.List.{AllByRecursion}
use Rattle.std.proofs.lemmas.List.{append_assoc}
use Rattle.wire_format.proofs.OneReading.{IsPiece, piece_same}

-- a step of a walk: a token, by its bytes, its number and its kind
pub record Step : Type 0 where
  pub bytes : List ℕ
  pub number : ℕ
  pub kind : ℕ

abbrev pub IsStep : Step → Type 0
IsStep token = IsPiece token.bytes token.number token.kind

-- the end of a group, where these are open, the innermost first
abbrev pub closed : ℕ → List ℕ → Option (List ℕ)
closed number [] = None
closed number (innermost ∷ numbers) = if innermost == number then Some numbers else None

-- the groups that are open after a token, if it may stand where these are
abbrev pub next : Step → List ℕ → Option (List ℕ)
next token numbers =
    if token.kind == 3 then (if nat_lt (length numbers) 32 then Some (token.number ∷ numbers) else None)
    else if token.kind == 4 then closed token.number numbers else Some numbers

-- a walk goes on, where it may
unfoldable pub then_walk : Option (List ℕ) → (List ℕ → Option (List ℕ)) → Option (List ℕ)
then_walk None walk = None
then_walk (Some numbers) walk = walk numbers

-- the groups that are open after some tokens
unfoldable pub walk : List Step → List ℕ → Option (List ℕ)
unfolding then_walk
walk [] numbers = Some numbers
walk (token ∷ tokens) numbers = then_walk (next token numbers) (λ after. walk tokens after)

-- the bytes of some tokens
unfoldable pub bytes_of : List Step → List ℕ
bytes_of [] = []
bytes_of (token ∷ tokens) = token.bytes ++ bytes_of tokens

-- these bytes are tokens that lead from some open groups to others
pub record Leads (bytes : List ℕ) (old new : List ℕ) : Type 0 where
  pub tokens : List Step
  pub is_whole : bytes ≡ bytes_of tokens
  pub are_tokens : AllByRecursion IsStep tokens
  pub leads : walk tokens old ≡ Some new

-- no token at the front of these bytes may stand where these groups are open
abbrev pub IsStuck : List ℕ → List ℕ → Type 0
IsStuck numbers rest = (token : Step) → (after : List ℕ) → IsStep token → token.bytes ++ after ≡ rest → next token numbers ≡ None

-- nothing is not something
pub none_some : (x : List ℕ) → None ≡ Some x → ⊥
none_some x same = let no : false ≡ true = ap (λ found. elim found as (λ o. Bool) [ None ↦ false | Some y ↦ true ]) same in cc

-- one thing
pub some_same : (a b : List ℕ) → Some a ≡ Some b → a ≡ b
some_same a b same = ap (λ found. elim found as (λ o. List ℕ) [ None ↦ [] | Some y ↦ y ]) same

pub walk_step : (o : Option (List ℕ)) (tokens : List Step) (new : List ℕ) → then_walk o (λ after. walk tokens after) ≡ Some new →
    (mid : List ℕ) × ((o ≡ Some mid) × (walk tokens mid ≡ Some new))
unfolding then_walk
walk_step None tokens new leads = absurd (none_some new leads)
walk_step (Some mid) tokens new leads = (mid, (refl, leads))

pub token_same : (t u : Step) → t.bytes ≡ u.bytes → t.number ≡ u.number → t.kind ≡ u.kind → t ≡ u
token_same t u b n k =
    ap (λ bytes. record { bytes = bytes; number = t.number; kind = t.kind }) b
    ∙ ap (λ number. record { bytes = u.bytes; number = number; kind = t.kind }) n
    ∙ ap (λ kind. record { bytes = u.bytes; number = u.number; kind = kind }) k

-- Two walks over the same bytes, each as far as it goes, end at one place with the same groups open.
pub one_walk : (ts us : List Step) (start new other r q : List ℕ) → AllByRecursion IsStep ts → AllByRecursion IsStep us →
    walk ts start ≡ Some new → walk us start ≡ Some other → bytes_of ts ++ r ≡ bytes_of us ++ q →
    IsStuck new r → IsStuck other q → (new ≡ other) × (r ≡ q)
unfolding walk bytes_of
one_walk [] [] start new other r q at au wt wu same st su = (some_same new other (sym wt ∙ wu), same)
one_walk [] (u ∷ us) start new other r q at au wt wu same st su =
    let step = walk_step (next u start) us other wu in
    let here : start ≡ new = some_same start new wt in
    let none : next u new ≡ None = st u (bytes_of us ++ q) au.0 (sym (append_assoc u.bytes (bytes_of us) q) ∙ sym same) in
    absurd (none_some step.0 (sym none ∙ ap (next u) (sym here) ∙ step.1.0))
one_walk (t ∷ ts) [] start new other r q at au wt wu same st su =
    let step = walk_step (next t start) ts new wt in
    let here : start ≡ other = some_same start other wu in
    let none : next t other ≡ None = su t (bytes_of ts ++ r) at.0 (sym (append_assoc t.bytes (bytes_of ts) r) ∙ same) in
    absurd (none_some step.0 (sym none ∙ ap (next t) (sym here) ∙ step.1.0))
one_walk (t ∷ ts) (u ∷ us) start new other r q at au wt wu same st su =
    let first = walk_step (next t start) ts new wt in
    let second = walk_step (next u start) us other wu in
    let one = piece_same t.bytes u.bytes (bytes_of ts ++ r) (bytes_of us ++ q) t.number u.number t.kind u.kind at.0 au.0
    (sym (append_assoc t.bytes (bytes_of ts) r) ∙ same ∙ append_assoc u.bytes (bytes_of us) q) in
    let alike : t ≡ u = token_same t u one.0 one.2 one.3 in
    let mids : first.0 ≡ second.0
    = some_same first.0 second.0 (sym first.1.0 ∙ ap (λ token. next token start) alike ∙ second.1.0) in
    one_walk ts us first.0 new other r q at.1 au.1 first.1.1
    (subst (λ mid. walk us mid ≡ Some other) (sym mids) second.1.1) one.1 st su
