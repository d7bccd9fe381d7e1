use Rattle.std.proofs.Common.{◌≤◌, List, ℕ, length, take, drop, subst, arith}
use Rattle.wire_format.specs.Fields.{IsPlain}
use Rattle.wire_format.proofs.TokenLemmas.{plain_field, from_place}
use Rattle.std.proofs.lemmas.List.{length-drop}
use Rattle.wire_format.proofs.token.read_field.Goals as goal

pub returns-in-Ok : goal.returns-in-Ok
returns-in-Ok c =
    let bytes = c.args.bytes.now in
    let plain = c.in-Ok.plain in
    let rest = from_place bytes c.args.header in
    let inside : plain.len ≤ length (drop c.args.header bytes)
    = subst (λ (after : List ℕ). plain.len ≤ length after) rest c.in-Ok.ensures.0 in
    let is_plain : IsPlain (take plain.len (drop c.args.header bytes)) plain.payload
    = subst (λ (after : List ℕ). IsPlain (take plain.len after) plain.payload) rest c.in-Ok.ensures.1 in (
      omega (arith, inside, length-drop c.args.header bytes, c.requires.inside),
      plain_field bytes c.args.number c.args.kind c.args.header plain.len plain.payload c.requires.inside
          c.requires.is_header c.in-Ok.ensures.2 is_plain,
    )
