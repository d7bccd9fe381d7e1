-- Fields before other bytes.
use Rattle.std.proofs.Common.{ℕ, zero, suc, List, [], ◌∷◌, ◌++◌, sym, ap, ◌∙◌, arith}
use Rattle.std.proofs.lemmas.List.{append_assoc, length-append}
use Rattle.wire_format.specs.Fields.{AreFieldsOf, MayFill}
use Rattle.wire_format.specs.Faults.{AreOpen}
use Rattle.wire_format.specs.Laws.{FieldsJoin, FaultsMove}
use Rattle.wire_format.proofs.Nesting.{fields_join}

pub fields_together : FieldsJoin
fields_together bytes more first second = fields_join (MayFill 32) bytes more first second

open_behind : (room : ℕ) (numbers front bytes : List ℕ) → AreFieldsOf (MayFill room) front → AreOpen room numbers bytes →
    AreOpen room numbers (front ++ bytes)
open_behind room [] front bytes fields are = fields_join (MayFill room) front bytes fields are
open_behind zero (number ∷ numbers) front bytes fields are = absurd are
open_behind (suc room) (number ∷ numbers) front bytes fields are = record {
  before = front ++ are.before;
  start = are.start;
  inside = are.inside;
  is_whole = ap (λ back. front ++ back) are.is_whole
      ∙ ap (λ back. front ++ back) (append_assoc are.before are.start are.inside)
      ∙ sym (append_assoc front are.before (are.start ++ are.inside))
      ∙ sym (append_assoc (front ++ are.before) are.start are.inside);
  are_fields = fields_join (MayFill (suc room)) front are.before fields are.are_fields;
  is_start = are.is_start;
  is_inside = are.is_inside;
}

pub fault_moves : FaultsMove
fault_moves front bytes reason place fields fault = record {
  before = front ++ fault.before;
  rest = fault.rest;
  numbers = fault.numbers;
  offset = fault.offset;
  is_whole = ap (λ back. front ++ back) fault.is_whole ∙ sym (append_assoc front fault.before fault.rest);
  are_open = open_behind 32 fault.numbers front fault.before fields fault.are_open;
  is_fault = fault.is_fault;
  is_place = omega (arith, fault.is_place, length-append front fault.before);
}
