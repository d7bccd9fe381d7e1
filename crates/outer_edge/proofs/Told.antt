-- Pieces one after another, of bytes that are told or not.
use Rattle.std.proofs.Common.{◌≡◌, ℕ, ◌+◌, ◌≤◌, List, ◌++◌, length, take, drop, refl, length-append, length-drop, ◌-◌, sym, ◌∙◌, ap, append_assoc, arith, subst}
use Rattle.std.proofs.Math.Seq.{take-length, take-add}
use Rattle.std.specs.Prelude.{Option, Some, None, Result, Ok, Err, IfErr}
use Rattle.std.specs.Result.{IsErrAnd}
use Rattle.outer_edge.specs.Source.{grown, preceded, Grew, Gave, GaveUpTo, GaveCount, IfTooBig, IfNoMemory}
use Rattle.outer_edge.specs.declared.source.ReadEnd.{ReadEnd}
use Rattle.outer_edge.specs.declared.source.ReadEnd.TheVariants.{ReadFault, TooBig, NoMemory}

-- a piece and then another are the two in one
pub grown-grown : (told : Option (List ℕ)) (a b : List ℕ) → grown (grown told a) b ≡ grown told (a ++ b)
grown-grown None a b = refl
grown-grown (Some bytes) a b = ap Some (append_assoc bytes a b)

-- a piece before another are the two in one
pub preceded-preceded : (a b : List ℕ) (told : Option (List ℕ)) → preceded a (preceded b told) ≡ preceded (a ++ b) told
preceded-preceded a b None = refl
preceded-preceded a b (Some bytes) = ap Some (sym (append_assoc a b bytes))

-- two pieces, one after the other
pub Gave-then : {S : Type 0} (left came : S → Option (List ℕ)) (before between now : S) (a b : List ℕ)
    → Gave left came before between a → Gave left came between now b → Gave left came before now (a ++ b)
Gave-then left came before between now a b first second = record {
  front = first.front ∙ ap (λ told. preceded a told) second.front ∙ preceded-preceded a b (left now);
  came_grew = second.came_grew ∙ ap (λ told. grown told b) first.came_grew ∙ grown-grown (came before) a b;
}

-- a piece, and then at most what was still wanted
pub GaveUpTo-after : {S : Type 0} (left came : S → Option (List ℕ)) (before between now : S) (a : List ℕ) (rest most : ℕ)
    → Gave left came before between a → length a + rest ≤ most → GaveUpTo left came between now rest → GaveUpTo left came before now most
GaveUpTo-after left came before between now a rest most first in_all next = record {
  piece = a ++ next.piece;
  gave = Gave-then left came before between now a next.piece first next.gave;
  at_most = let h = next.at_most in grind (arith, length-append);
}

-- a piece, and then just what was still wanted
pub GaveCount-after : {S : Type 0} (left came : S → Option (List ℕ)) (before between now : S) (a : List ℕ) (rest count : ℕ)
    → Gave left came before between a → length a + rest ≡ count → GaveCount left came between now rest → GaveCount left came before now count
GaveCount-after left came before between now a rest count first in_all next = record {
  piece = a ++ next.piece;
  gave = Gave-then left came before between now a next.piece first next.gave;
  just = let h = next.just in grind (arith, length-append);
}

-- what holds at too many bytes, from what held
pub IfTooBig-then : (end : ReadEnd) (P Q : ℕ → Type 0) → ((count : ℕ) → P count → Q count) → IfTooBig end P → IfTooBig end Q
IfTooBig-then ReadFault P Q then held = tt
IfTooBig-then (TooBig count) P Q then held = then count held
IfTooBig-then NoMemory P Q then held = tt

-- what holds at want of memory, from what held
pub IfNoMemory-then : (end : ReadEnd) (P Q : Type 0) → (P → Q) → IfNoMemory end P → IfNoMemory end Q
IfNoMemory-then ReadFault P Q then held = tt
IfNoMemory-then (TooBig count) P Q then held = tt
IfNoMemory-then NoMemory P Q then held = then held

-- what holds of the reading's end that is answered
pub IfErr-told : {T : Type 0} (answer : Result T ReadEnd) (end : ReadEnd) (Q : ReadEnd → Type 0)
    → IsErrAnd answer (λ told. told ≡ end) → Q end → IfErr answer Q
IfErr-told (Ok value) end Q is_told held = absurd is_told
IfErr-told (Err told) end Q is_told held = subst Q (sym is_told) held

-- the front of a list, and then a front of what is behind it
take-rest : (i n : ℕ) (xs : List ℕ) → i ≤ length xs → take i xs ++ take n (take (length xs - i) (drop i xs)) ≡ take (i + n) xs
take-rest i n xs within =
    let whole : take (length xs - i) (drop i xs) ≡ drop i xs = rw (← length-drop i xs) (take-length (drop i xs)) in
    rw whole (sym (take-add i n xs))

-- the front of the bytes was appended, and then the next of them
pub Grew-next : (before between now : Option (List ℕ)) (bytes : List ℕ) (i n : ℕ)
    → i ≤ length bytes → Grew before between (take i bytes)
    → Grew between now (take n (take (length bytes - i) (drop i bytes))) → Grew before now (take (i + n) bytes)
Grew-next before between now bytes i n within first second =
    second ∙ ap (λ told. grown told (take n (take (length bytes - i) (drop i bytes)))) first
    ∙ grown-grown before _ _ ∙ ap (λ piece. grown before piece) (take-rest i n bytes within)
