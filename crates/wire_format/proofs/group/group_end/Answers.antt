use Rattle.std.proofs.Common.{◌≡◌, [], length, take, drop, refl, sym, subst, arith}
use Rattle.std.proofs.lemmas.List.{length-drop, nil_from_length}
use Rattle.wire_format.specs.declared.fault.WireReason.TheVariants.{OpenGroup, StrayEnd, TooDeep}
use Rattle.wire_format.specs.Faults.{IsTokenFault}
use Rattle.wire_format.specs.Tokens.{IsToken}
use Rattle.wire_format.proofs.TokenLemmas.{from_place}
use Rattle.wire_format.proofs.GroupLemmas.{IsWithin, is_some, is_none, within_some, within_more, within_end, content_more, group_whole, token_fault, stray_here, deep_here, token_here}
use Rattle.wire_format.proofs.FirstField.{group_fault, group_fault_here}
use Rattle.wire_format.proofs.group.group_end.Goals as goal

pub returns-in-Err : goal.returns-in-Err
returns-in-Err c =
    let bytes = c.args.bytes.now in
    let loop = c.loop-at.invariant in
    let fault = c.in-Err.fault in
    group_fault bytes c.args.start c.loop-at.at fault.place c.args.group c.loop-at.groups.items fault.reason loop.starts loop.inside
    c.requires.is_start loop.is_within
    (token_fault c.loop-at.groups.items (drop c.loop-at.at bytes) fault.reason fault.place
    (omega (arith, length-drop c.loop-at.at bytes, c.loop-at-test.true))
    (subst (λ rest. IsTokenFault rest fault.reason fault.place) (from_place bytes c.loop-at.at) c.in-Err.ensures))

pub loop-at-smaller : goal.loop-at-smaller
loop-at-smaller c =
    let token = c.in-Ok.token in
    let here = token_here c.args.bytes.now c.loop-at.at token.len token.number token.body c.loop-at.invariant.inside c.in-Ok.ensures in
    omega (arith, here.0, here.2)

pub loop-at-preserved : goal.loop-at-preserved
loop-at-preserved c =
    let bytes = c.args.bytes.now in
    let loop = c.loop-at.invariant in
    let token = c.in-Ok.token in
    let here = token_here bytes c.loop-at.at token.len token.number token.body loop.inside c.in-Ok.ensures in
    record {
      inside = here.0;
      starts = omega (arith, loop.starts);
      is_within = subst (IsWithin c.args.group c.nest.new.groups.items)
          (sym (content_more bytes c.args.start c.loop-at.at token.len loop.starts loop.inside))
          (within_more c.args.group token.body token.number c.loop-at.groups.items c.nest.new.groups.items
          (drop c.args.start (take c.loop-at.at bytes)) (take token.len (drop c.loop-at.at bytes))
          (is_some (length c.nest.new.groups.items) c.if-is_empty.ensures) c.in-Fits-2.ensures here.1 loop.is_within);
    }

pub returns-in-Fits : goal.returns-in-Fits
returns-in-Fits c =
    let bytes = c.args.bytes.now in
    let loop = c.loop-at.invariant in
    let token = c.in-Ok.token in
    let here = token_here bytes c.loop-at.at token.len token.number token.body loop.inside c.in-Ok.ensures in
    let ended = within_end c.args.group token.body token.number c.loop-at.groups.items c.nest.new.groups.items
    (drop c.args.start (take c.loop-at.at bytes)) (take token.len (drop c.loop-at.at bytes))
    (is_none (length c.nest.new.groups.items) c.if-is_empty.ensures) c.in-Fits.ensures here.1 loop.is_within in (
      here.0,
      loop.starts,
      omega arith,
      group_whole bytes c.args.start c.loop-at.at token.len c.args.group loop.starts loop.inside c.requires.is_start
          ended.are_fields ended.is_header,
    )

pub returns-in-Stray : goal.returns-in-Stray
returns-in-Stray c =
    let bytes = c.args.bytes.now in
    let loop = c.loop-at.invariant in
    let token = c.in-Ok.token in
    let here = token_here bytes c.loop-at.at token.len token.number token.body loop.inside c.in-Ok.ensures in
    let numbers = c.loop-at.groups.items in
    group_fault_here bytes c.args.start c.loop-at.at c.args.group numbers StrayEnd loop.starts loop.inside c.requires.is_start loop.is_within
    (stray_here numbers (drop c.loop-at.at bytes) token.len token.number
    (subst (IsToken (take token.len (drop c.loop-at.at bytes)) token.number) c.in-Stray.ensures.0 here.1)
    c.in-Stray.ensures.1)

pub returns-in-TooDeep : goal.returns-in-TooDeep
returns-in-TooDeep c =
    let bytes = c.args.bytes.now in
    let loop = c.loop-at.invariant in
    let token = c.in-Ok.token in
    let here = token_here bytes c.loop-at.at token.len token.number token.body loop.inside c.in-Ok.ensures in
    let numbers = c.loop-at.groups.items in
    group_fault_here bytes c.args.start c.loop-at.at c.args.group numbers TooDeep loop.starts loop.inside c.requires.is_start loop.is_within
    (deep_here numbers (drop c.loop-at.at bytes) token.len token.number
    (subst (IsToken (take token.len (drop c.loop-at.at bytes)) token.number) c.in-TooDeep.ensures.0 here.1)
    (omega (arith, c.in-TooDeep.ensures.1)))

pub returns : goal.returns
returns c =
    let bytes = c.args.bytes.now in
    let loop = c.loop-at.invariant in
    let numbers = c.loop-at.groups.items in
    let none : drop c.loop-at.at bytes ≡ []
    = nil_from_length (drop c.loop-at.at bytes) (omega (arith, length-drop c.loop-at.at bytes, c.loop-at-test.false)) in
    group_fault_here bytes c.args.start c.loop-at.at c.args.group numbers OpenGroup loop.starts loop.inside c.requires.is_start loop.is_within
    (refl, none, within_some c.args.group numbers (drop c.args.start (take c.loop-at.at bytes)) loop.is_within)
