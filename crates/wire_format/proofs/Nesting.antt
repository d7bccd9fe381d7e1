-- How whole fields and opened groups grow.
use Rattle.std.proofs.Common.{◌≡◌, ℕ, zero, suc, ◌<◌, List, [], ◌∷◌, ◌++◌, inl, inr, length, refl, sym, ap, subst, ◌∙◌, arith}
use Rattle.std.specs.List.{AllByRecursion, concat}
use Rattle.std.proofs.lemmas.List.{append_assoc, append-nil}
use Rattle.wire_format.specs.Fields.{IsHeader, IsSomePlain, IsSomeGroup, IsSomeField, AreFieldsOf, MayFill}
use Rattle.wire_format.specs.Faults.{AreOpen}

concat_join : (pieces more : List (List ℕ)) → concat (pieces ++ more) ≡ concat pieces ++ concat more
concat_join [] more = refl
concat_join (piece ∷ pieces) more =
    ap (λ rest. piece ++ rest) (concat_join pieces more) ∙ sym (append_assoc piece (concat pieces) (concat more))

-- what holds of all of two lists holds of all of them together
pub all_join : {A : Type 0} (P : A → Type 0) (xs ys : List A) → AllByRecursion P xs → AllByRecursion P ys → AllByRecursion P (xs ++ ys)
all_join P [] ys first second = second
all_join P (x ∷ xs) ys first second = (first.0, all_join P xs ys first.1 second)

-- no bytes are no fields
pub no_fields : (Fill : List ℕ → Type 0) → AreFieldsOf Fill []
no_fields Fill = record { pieces = []; is_whole = refl; are_fields = tt }

-- fields after fields
pub fields_join : (Fill : List ℕ → Type 0) (bytes more : List ℕ) → AreFieldsOf Fill bytes → AreFieldsOf Fill more → AreFieldsOf Fill (bytes ++ more)
fields_join Fill bytes more first second = record {
  pieces = first.pieces ++ second.pieces;
  is_whole = ap (λ front. front ++ more) first.is_whole ∙ ap (λ back. concat first.pieces ++ back) second.is_whole
      ∙ sym (concat_join first.pieces second.pieces);
  are_fields = all_join (IsSomeField Fill) first.pieces second.pieces first.are_fields second.are_fields;
}

-- one field more
pub fields_more : (Fill : List ℕ → Type 0) (bytes piece : List ℕ) → AreFieldsOf Fill bytes → IsSomeField Fill piece →
    AreFieldsOf Fill (bytes ++ piece)
fields_more Fill bytes piece fields field =
    fields_join Fill bytes piece fields (record { pieces = piece ∷ []; is_whole = sym (append-nil piece); are_fields = (field, tt) })

inside_more : (bytes before start inside piece : List ℕ) → bytes ≡ before ++ start ++ inside →
    bytes ++ piece ≡ before ++ start ++ (inside ++ piece)
inside_more bytes before start inside piece is_whole =
    ap (λ front. front ++ piece) is_whole ∙ append_assoc (before ++ start) inside piece

-- a field that is no group follows
pub open_plain : (room : ℕ) (numbers bytes piece : List ℕ) → AreOpen room numbers bytes → IsSomePlain piece →
    AreOpen room numbers (bytes ++ piece)
open_plain room [] bytes piece are field = fields_more (MayFill room) bytes piece are (inl field)
open_plain zero (number ∷ numbers) bytes piece are field = absurd are
open_plain (suc room) (number ∷ numbers) bytes piece are field = record {
  before = are.before;
  start = are.start;
  inside = are.inside ++ piece;
  is_whole = inside_more bytes are.before are.start are.inside piece are.is_whole;
  are_fields = are.are_fields;
  is_start = are.is_start;
  is_inside = open_plain room numbers are.inside piece are.is_inside field;
}

-- a group starts
pub open_start : (room : ℕ) (numbers bytes start : List ℕ) (number : ℕ) → AreOpen room numbers bytes → IsHeader start number 3 →
    length numbers < room → AreOpen room (numbers ++ number ∷ []) (bytes ++ start)
open_start zero numbers bytes start number are header within = absurd (omega (arith, within))
open_start (suc room) [] bytes start number are header within = record {
  before = bytes;
  start = start;
  inside = [];
  is_whole = sym (append-nil (bytes ++ start));
  are_fields = are;
  is_start = header;
  is_inside = no_fields (MayFill room);
}
open_start (suc room) (outer ∷ numbers) bytes start number are header within = record {
  before = are.before;
  start = are.start;
  inside = are.inside ++ start;
  is_whole = inside_more bytes are.before are.start are.inside start are.is_whole;
  are_fields = are.are_fields;
  is_start = are.is_start;
  is_inside = open_start room numbers are.inside start number are.is_inside header (omega (arith, within));
}

group_whole : (bytes before start inside end : List ℕ) → bytes ≡ before ++ start ++ inside →
    bytes ++ end ≡ before ++ (start ++ inside ++ end)
group_whole bytes before start inside end is_whole =
    inside_more bytes before start inside end is_whole ∙ append_assoc before start (inside ++ end)
    ∙ ap (λ rest. before ++ rest) (sym (append_assoc start inside end))

-- the innermost group ends
pub open_end : (room : ℕ) (numbers bytes end : List ℕ) (number : ℕ) → AreOpen room (numbers ++ number ∷ []) bytes →
    IsHeader end number 4 → AreOpen room numbers (bytes ++ end)
open_end zero [] bytes end number are header = absurd are
open_end zero (outer ∷ numbers) bytes end number are header = absurd are
open_end (suc room) [] bytes end number are header =
    let group : IsSomeGroup (MayFill (suc room)) (are.start ++ are.inside ++ end) = record {
      number = number;
      content = are.inside;
      is_group = record {
        start = are.start;
        end = end;
        is_whole = refl;
        is_start = are.is_start;
        is_end = header;
        is_filled = are.is_inside;
      };
    } in
    subst (AreFieldsOf (MayFill (suc room)))
    (sym (group_whole bytes are.before are.start are.inside end are.is_whole))
    (fields_more (MayFill (suc room)) are.before (are.start ++ are.inside ++ end) are.are_fields (inr group))
open_end (suc room) (outer ∷ numbers) bytes end number are header = record {
  before = are.before;
  start = are.start;
  inside = are.inside ++ end;
  is_whole = inside_more bytes are.before are.start are.inside end are.is_whole;
  are_fields = are.are_fields;
  is_start = are.is_start;
  is_inside = open_end room numbers are.inside end number are.is_inside header;
}
