-- The bytes of a link have one answer.
use Rattle.std.proofs.Common.{◌≡◌, ℕ, ◌<◌, List, [], ◌++◌, length, take, drop, sym, ◌∙◌, ap, subst, arith, inl, inr}
use Rattle.std.specs.Prelude.{Result}
use Rattle.std.proofs.Math.Seq.{take-append_seam, drop-append_seam}
use Rattle.std.proofs.lemmas.List.{take-append-le, take-take}
use Rattle.std.proofs.lemmas.Bool.{cases_order, both_ways}
use Rattle.httparse.proofs.GrammarLemmas.{request_unique, response_unique}
use Rattle.http_edge.specs.Heads.{longest_head, ends_with_empty_line, EndsAtEmptyLine}
use Rattle.http_edge.specs.Requests.{RequestSays, request_says}
use Rattle.http_edge.specs.Replies.{ReplySays, reply_says}
use Rattle.http_edge.specs.Messages.{HasHead, HasNoHead, body_of, behind_body}
use Rattle.http_edge.specs.Laws.{HaveOneAnswer, RequestsHaveOneAnswer, RepliesHaveOneAnswer}
use Rattle.http_edge.specs.declared.fault.EdgeFault.{EdgeFault}

abbrev Promise : Type 1
Promise = List ℕ → Result ℕ EdgeFault → Type 0

-- no head ends within another one
not_within : (head behind other beyond : List ℕ) → head ++ behind ≡ other ++ beyond → EndsAtEmptyLine head → EndsAtEmptyLine other
    → length head < length other → ⊥
not_within head behind other beyond same ends other_ends shorter =
    let front : take (length head) other ≡ head =
    sym (take-append-le (length head) other beyond (omega (arith, shorter)))
    ∙ ap (λ bytes. take (length head) bytes) (sym same) ∙ take-append_seam head behind in
    both_ways (ends_with_empty_line head)
    (ap ends_with_empty_line (sym front) ∙ other_ends.first (length head) shorter) ends.ends

-- two heads at the front of the same bytes are as long
as_long : (head behind other beyond : List ℕ) → head ++ behind ≡ other ++ beyond → EndsAtEmptyLine head → EndsAtEmptyLine other
    → length head ≡ length other
as_long head behind other beyond same ends other_ends =
    elim (cases_order (length head) (length other)) [
      | inl equal ↦ equal
      | inr (inl shorter) ↦ absurd (not_within head behind other beyond same ends other_ends shorter)
      | inr (inr longer) ↦ absurd (not_within other beyond head behind (sym same) other_ends ends longer)
    ]

-- so they are one
one_head : (head behind other beyond : List ℕ) → head ++ behind ≡ other ++ beyond → length head ≡ length other
    → (head ≡ other) × (behind ≡ beyond)
one_head head behind other beyond same long = (
  sym (take-append_seam head behind) ∙ ap (take (length head)) same ∙ ap (λ count. take count (other ++ beyond)) long ∙ take-append_seam other beyond,
  sym (drop-append_seam head behind) ∙ ap (drop (length head)) same ∙ ap (λ count. drop count (other ++ beyond)) long ∙ drop-append_seam other beyond,
)

-- bytes with a head have no other reading
not_headless : (Says : Promise) (bytes : List ℕ) (answer other : Result (List ℕ) EdgeFault) (rest left : List ℕ)
    → HasHead Says bytes answer rest → HasNoHead bytes other left → ⊥
not_headless Says bytes answer other rest left has none =
    let front : take (length has.head) (take longest_head bytes) ≡ has.head =
    take-take (length has.head) longest_head bytes has.fits ∙ ap (take (length has.head)) has.parts ∙ take-append_seam has.head has.behind in
    both_ways (ends_with_empty_line has.head) (ap ends_with_empty_line (sym front) ∙ none.endless (length has.head)) has.ends.ends

-- what a head says is one
abbrev SaysOne : Promise → Type 0
SaysOne Says = (head : List ℕ) (says other : Result ℕ EdgeFault) → Says head says → Says head other → says ≡ other

two_heads : (Says : Promise) → SaysOne Says → (bytes : List ℕ) (answer other : Result (List ℕ) EdgeFault) (rest left : List ℕ)
    → HasHead Says bytes answer rest → HasHead Says bytes other left → (answer ≡ other) × (rest ≡ left)
two_heads Says one bytes answer other rest left a b =
    let same : a.head ++ a.behind ≡ b.head ++ b.behind = sym a.parts ∙ b.parts in
    let heads = one_head a.head a.behind b.head b.behind same (as_long a.head a.behind b.head b.behind same a.ends b.ends) in
    let promise : a.promise ≡ b.promise =
    one b.head a.promise b.promise (subst (λ head. Says head a.promise) heads.0 a.says) b.says in (
      a.answer_is ∙ ap (λ p. body_of p a.behind) promise ∙ ap (body_of b.promise) heads.1 ∙ sym b.answer_is,
      a.rest_is ∙ ap (λ p. behind_body p a.behind) promise ∙ ap (behind_body b.promise) heads.1 ∙ sym b.rest_is,
    )

one_answer : (Says : Promise) → SaysOne Says → HaveOneAnswer Says
one_answer Says one bytes answer other rest left (inl a) (inl b) = two_heads Says one bytes answer other rest left a b
one_answer Says one bytes answer other rest left (inl a) (inr b) = absurd (not_headless Says bytes answer other rest left a b)
one_answer Says one bytes answer other rest left (inr a) (inl b) = absurd (not_headless Says bytes other answer left rest b a)
one_answer Says one bytes answer other rest left (inr a) (inr b) = (a.answer_is ∙ sym b.answer_is, a.rest_is ∙ sym b.rest_is)

requests_say_one : SaysOne RequestSays
requests_say_one head says other (inl (a, is_a, a_says)) (inl (b, is_b, b_says)) =
    a_says ∙ ap request_says (request_unique head a b [] [] is_a.reads is_b.reads).0 ∙ sym b_says
requests_say_one head says other (inl (a, is_a, a_says)) (inr (none, bad)) = absurd (none a is_a)
requests_say_one head says other (inr (none, bad)) (inl (b, is_b, b_says)) = absurd (none b is_b)
requests_say_one head says other (inr (none, bad)) (inr (none_too, bad_too)) = bad ∙ sym bad_too

replies_say_one : SaysOne ReplySays
replies_say_one head says other (inl (a, is_a, a_says)) (inl (b, is_b, b_says)) =
    a_says ∙ ap reply_says (response_unique head a b [] [] is_a.reads is_b.reads).0 ∙ sym b_says
replies_say_one head says other (inl (a, is_a, a_says)) (inr (none, bad)) = absurd (none a is_a)
replies_say_one head says other (inr (none, bad)) (inl (b, is_b, b_says)) = absurd (none b is_b)
replies_say_one head says other (inr (none, bad)) (inr (none_too, bad_too)) = bad ∙ sym bad_too

-- the two laws
pub requests_have_one_answer : RequestsHaveOneAnswer
requests_have_one_answer = one_answer RequestSays requests_say_one

pub replies_have_one_answer : RepliesHaveOneAnswer
replies_have_one_answer = one_answer ReplySays replies_say_one
