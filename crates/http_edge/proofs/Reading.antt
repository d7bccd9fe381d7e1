-- What came on a link, and how it is answered.
use Rattle.std.proofs.Common.{◌≡◌, ℕ, ◌<◌, ◌≤◌, List, [], ◌++◌, length, take, drop, refl, sym, ◌∙◌, ap, subst, arith, inl, inr, length-append, append_assoc, append-nil, if◌then◌else◌}
use Rattle.std.specs.Prelude.{Option, Some, None, Result, Ok, Err}
use Rattle.std.specs.Result.{IsErrAnd}
use Rattle.std.proofs.Math.Seq.{take-append_seam, drop-append_seam}
use Rattle.std.proofs.lemmas.List.{take_all, drop_all}
use Rattle.std.proofs.lemmas.Bool.{lt-ltb, le-ltb}
use Rattle.outer_edge.specs.Source.{preceded, Gave, IsAtEnd}
use Rattle.outer_edge.proofs.Told.{Gave-then}
use Rattle.http_edge.specs.Faults.{IfAnswered, IfLinkFault, HasCause}
use Rattle.http_edge.specs.Heads.{longest_head, HasNoEmptyLine, EndsAtEmptyLine}
use Rattle.http_edge.specs.Incoming.{GaveEndless, EndedInHead, EndedInBody, IsHeadFault, IsBodyFault}
use Rattle.http_edge.specs.Messages.{IsAnswer, Answers, body_of, headless}
use Rattle.http_edge.specs.declared.fault.EdgeFault.{EdgeFault}
use Rattle.http_edge.specs.declared.fault.EdgeFault.TheVariants.{LinkFault, Ended, BadHead, BadMethod, BadPath, Encoded, NoLength, TooBig, Status, NoMemory}

abbrev Promise : Type 1
Promise = List ℕ → Result ℕ EdgeFault → Type 0

-- an answer that holds holds where it is asked for
pub IfAnswered-from : {T : Type 0} (answer : Result T EdgeFault) (P : Type 0) → P → IfAnswered answer P
IfAnswered-from (Ok value) P held = held
IfAnswered-from (Err LinkFault) P held = tt
IfAnswered-from (Err (Ended have want)) P held = held
IfAnswered-from (Err BadHead) P held = held
IfAnswered-from (Err BadMethod) P held = held
IfAnswered-from (Err BadPath) P held = held
IfAnswered-from (Err Encoded) P held = held
IfAnswered-from (Err NoLength) P held = held
IfAnswered-from (Err (TooBig length)) P held = held
IfAnswered-from (Err (Status code)) P held = held
IfAnswered-from (Err NoMemory) P held = tt

-- a link that gave a piece told it before, and then what it tells now
Answers-from : (Says : Promise) (before now : Option (List ℕ)) (piece : List ℕ) (answer : Result (List ℕ) EdgeFault)
    → before ≡ preceded piece now → ((rest : List ℕ) → now ≡ Some rest → IsAnswer Says (piece ++ rest) answer rest)
    → Answers Says before now answer
Answers-from Says before None piece answer front told = subst (λ before. Answers Says before None answer) (sym front) tt
Answers-from Says before (Some rest) piece answer front told =
    subst (λ before. Answers Says before (Some rest) answer) (sym front) (told rest refl)

-- nothing is left at the end
none_left : (now : Option (List ℕ)) (rest : List ℕ) → IsAtEnd now → now ≡ Some rest → rest ≡ []
none_left now rest ended is_rest = let P : Option (List ℕ) → Type 0 = IsAtEnd in subst P is_rest ended

-- the two faults of bytes without a head
headless_few : (count : ℕ) → count < longest_head → headless count ≡ Ended count 0
headless_few count few = ap (λ b. if b then Ended count 0 else BadHead) (lt-ltb count longest_head few)

headless_many : (count : ℕ) → longest_head ≤ count → headless count ≡ BadHead
headless_many count many = ap (λ b. if b then Ended count 0 else BadHead) (le-ltb count longest_head many)

-- the link ended before a head did
ended_in_head : {S : Type 0} (Says : Promise) (left came : S → Option (List ℕ)) (before now : S) (have want : ℕ)
    → EndedInHead left came before now have want → Answers Says (left before) (left now) (Err (Ended have want))
ended_in_head Says left came before now have want ended =
    Answers-from Says (left before) (left now) ended.gave.piece _ ended.gave.gave.front (λ rest is_rest.
    let piece = ended.gave.piece in
    let none = none_left (left now) rest ended.at_end is_rest in
    let all : piece ++ rest ≡ piece = ap (λ more. piece ++ more) none ∙ append-nil piece in
    let fits : length piece ≤ longest_head = omega (arith, ended.gave.just, ended.few) in
    let few : length (piece ++ rest) ≡ have = ap length all ∙ ended.gave.just in
    inr record {
      endless = subst HasNoEmptyLine (sym (ap (take longest_head) all ∙ take_all longest_head piece fits)) ended.gave.endless;
      answer_is = ap Err (sym (ap headless few ∙ headless_few have ended.few ∙ ap (λ count. Ended have count) (sym ended.no_body)));
      rest_is = none ∙ sym (ap (drop longest_head) all ∙ drop_all longest_head piece fits);
    })

-- no head ends where one may
endless_head : {S : Type 0} (Says : Promise) (left came : S → Option (List ℕ)) (before now : S)
    → GaveEndless left came before now longest_head → Answers Says (left before) (left now) (Err BadHead)
endless_head Says left came before now endless =
    Answers-from Says (left before) (left now) endless.piece _ endless.gave.front (λ rest is_rest.
    let piece = endless.piece in
    let many : longest_head ≤ length (piece ++ rest) = grind (arith, length-append, endless.just) in
    inr record {
      endless = subst HasNoEmptyLine
          (sym (ap (λ count. take count (piece ++ rest)) (sym endless.just) ∙ take-append_seam piece rest)) endless.endless;
      answer_is = ap Err (sym (headless_many (length (piece ++ rest)) many));
      rest_is = sym (ap (λ count. drop count (piece ++ rest)) (sym endless.just) ∙ drop-append_seam piece rest);
    })

-- a head that was not read
pub no_head : {S : Type 0} (Says : Promise) (left came : S → Option (List ℕ)) (before now : S) (fault : EdgeFault)
    → IsHeadFault left came before now fault → IfAnswered {T = List ℕ} (Err fault) (Answers Says (left before) (left now) (Err fault))
no_head Says left came before now LinkFault held = tt
no_head Says left came before now (Ended have want) held = ended_in_head Says left came before now have want held
no_head Says left came before now BadHead held = endless_head Says left came before now held
no_head Says left came before now BadMethod held = absurd held
no_head Says left came before now BadPath held = absurd held
no_head Says left came before now Encoded held = absurd held
no_head Says left came before now NoLength held = absurd held
no_head Says left came before now (TooBig length) held = absurd held
no_head Says left came before now (Status code) held = absurd held
no_head Says left came before now NoMemory held = tt

-- a head that was read, and shows a fault
pub bad_head : {S : Type 0} (Says : Promise) (left came : S → Option (List ℕ)) (before now : S) (head : List ℕ) (fault : EdgeFault)
    → Gave left came before now head → EndsAtEmptyLine head → length head ≤ longest_head → Says head (Err fault)
    → IfAnswered {T = List ℕ} (Err fault) (Answers Says (left before) (left now) (Err fault))
bad_head Says left came before now head fault gave ends fits says =
    IfAnswered-from {T = List ℕ} (Err fault) _ (Answers-from Says (left before) (left now) head (Err fault) gave.front (λ rest is_rest.
    inl record {
      head = head;
      behind = rest;
      parts = refl;
      ends = ends;
      fits = fits;
      promise = Err fault;
      says = says;
      answer_is = refl;
      rest_is = refl;
    }))

-- a head that was read, and a piece behind it
with_head : {S : Type 0} (Says : Promise) (left came : S → Option (List ℕ)) (before between now : S) (head piece : List ℕ) (count : ℕ)
    (answer : Result (List ℕ) EdgeFault) → Gave left came before between head → EndsAtEmptyLine head → length head ≤ longest_head
    → Says head (Ok count) → Gave left came between now piece
    → ((rest : List ℕ) → left now ≡ Some rest → (answer ≡ body_of (Ok count) (piece ++ rest)) × (rest ≡ drop count (piece ++ rest)))
    → Answers Says (left before) (left now) answer
with_head Says left came before between now head piece count answer gave ends fits says gave_piece behind =
    Answers-from Says (left before) (left now) (head ++ piece) answer (Gave-then left came before between now head piece gave gave_piece).front
    (λ rest is_rest. inl record {
      head = head;
      behind = piece ++ rest;
      parts = append_assoc head piece rest;
      ends = ends;
      fits = fits;
      promise = Ok count;
      says = says;
      answer_is = (behind rest is_rest).0;
      rest_is = (behind rest is_rest).1;
    })

-- the answer to a body of which enough came, and of which too little did
enough : (bytes : List ℕ) (count : ℕ) → count ≤ length bytes → body_of (Ok count) bytes ≡ Ok (take count bytes)
enough bytes count fits =
    ap (λ b. if b then Err (Ended (length bytes) count) else Ok (take count bytes)) (le-ltb (length bytes) count fits)

too_little : (bytes : List ℕ) (count : ℕ) → length bytes < count → body_of (Ok count) bytes ≡ Err (Ended (length bytes) count)
too_little bytes count few =
    ap (λ b. if b then Err (Ended (length bytes) count) else Ok (take count bytes)) (lt-ltb (length bytes) count few)

-- head and body were read
pub whole : {S : Type 0} (Says : Promise) (left came : S → Option (List ℕ)) (before between now : S) (head body : List ℕ) (count : ℕ)
    → Gave left came before between head → EndsAtEmptyLine head → length head ≤ longest_head → Says head (Ok count)
    → Gave left came between now body → length body ≡ count → Answers Says (left before) (left now) (Ok body)
whole Says left came before between now head body count gave ends fits says gave_body just =
    with_head Says left came before between now head body count (Ok body) gave ends fits says gave_body (λ rest is_rest.
    let fits_body : count ≤ length (body ++ rest) = grind (arith, length-append, just) in
    let is_body : take count (body ++ rest) ≡ body = ap (λ n. take n (body ++ rest)) (sym just) ∙ take-append_seam body rest in
    let is_rest : drop count (body ++ rest) ≡ rest = ap (λ n. drop n (body ++ rest)) (sym just) ∙ drop-append_seam body rest in
    (sym (enough (body ++ rest) count fits_body ∙ ap Ok is_body), sym is_rest))

-- the link ended before the body did
ended_in_body : {S : Type 0} (Says : Promise) (left came : S → Option (List ℕ)) (before between now : S) (head : List ℕ) (count have want : ℕ)
    → Gave left came before between head → EndsAtEmptyLine head → length head ≤ longest_head → Says head (Ok count)
    → EndedInBody left came between now count have want → Answers Says (left before) (left now) (Err (Ended have want))
ended_in_body Says left came before between now head count have want gave ends fits says ended =
    let piece = ended.gave.piece in
    with_head Says left came before between now head piece count (Err (Ended have want)) gave ends fits says ended.gave.gave (λ rest is_rest.
    let none = none_left (left now) rest ended.at_end is_rest in
    let all : piece ++ rest ≡ piece = ap (λ more. piece ++ more) none ∙ append-nil piece in
    let few : length piece < count = omega (arith, ended.gave.just, ended.few) in
    let told : body_of (Ok count) (piece ++ rest) ≡ Err (Ended have want) =
    ap (body_of (Ok count)) all ∙ too_little piece count few
    ∙ ap (λ n. Err (Ended n count)) ended.gave.just ∙ ap (λ n. Err (Ended have n)) (sym ended.wanted) in
    (sym told, none ∙ sym (ap (drop count) all ∙ drop_all count piece (omega (arith, few)))))

-- a body that was not read
pub no_body : {S : Type 0} (Says : Promise) (left came : S → Option (List ℕ)) (before between now : S) (head : List ℕ) (count : ℕ) (fault : EdgeFault)
    → Gave left came before between head → EndsAtEmptyLine head → length head ≤ longest_head → Says head (Ok count)
    → IsBodyFault left came between now count fault → IfAnswered {T = List ℕ} (Err fault) (Answers Says (left before) (left now) (Err fault))
no_body Says left came before between now head count LinkFault gave ends fits says held = tt
no_body Says left came before between now head count (Ended have want) gave ends fits says held =
    ended_in_body Says left came before between now head count have want gave ends fits says held
no_body Says left came before between now head count BadHead gave ends fits says held = absurd held
no_body Says left came before between now head count BadMethod gave ends fits says held = absurd held
no_body Says left came before between now head count BadPath gave ends fits says held = absurd held
no_body Says left came before between now head count Encoded gave ends fits says held = absurd held
no_body Says left came before between now head count NoLength gave ends fits says held = absurd held
no_body Says left came before between now head count (TooBig length) gave ends fits says held = absurd held
no_body Says left came before between now head count (Status code) gave ends fits says held = absurd held
no_body Says left came before between now head count NoMemory gave ends fits says held = tt

-- what is told of a fault holds of the answer that passes it on
pub told : {T : Type 0} (answer : Result T EdgeFault) (fault : EdgeFault) (Q : Result T EdgeFault → Type 0)
    → IsErrAnd answer (λ told. told ≡ fault) → Q (Err fault) → Q answer
told (Ok value) fault Q is_told held = absurd is_told
told (Err found) fault Q is_told held = subst Q (ap Err (sym is_told)) held

-- a fault that is not the link's comes where its count did not rise
pub own_cause : (fault : EdgeFault) (before now : ℕ) → IfLinkFault fault ⊥ (Unit {0}) → now ≡ before → HasCause fault before now
own_cause LinkFault before now own same = absurd own
own_cause (Ended have want) before now own same = same
own_cause BadHead before now own same = same
own_cause BadMethod before now own same = same
own_cause BadPath before now own same = same
own_cause Encoded before now own same = same
own_cause NoLength before now own same = same
own_cause (TooBig length) before now own same = same
own_cause (Status code) before now own same = same
own_cause NoMemory before now own same = same
