use Rattle.std.proofs.Common.{◌≡◌, sym, ap, subst, ◌∙◌, true, false, rules, arith}
use denote.Enum.Bare.{sameb, same_true}
use Rattle.wire_format.specs.contracts.fault.WireReason.{the_type}
use Rattle.wire_format.specs.declared.fault.WireReason.{WireReason}
use Rattle.wire_format.specs.declared.fault.WireReason.TheVariants.{Cut}
use Rattle.wire_format.proofs.GroupLemmas.{token_here}
use Rattle.wire_format.specs.Walks.{IsStayingFault}
use Rattle.wire_format.proofs.WalkLemmas.{token_fault_stays, walk_more, stray_stays, deep_stays, cut_walk, end_walk}
use Rattle.wire_format.proofs.StayingFaults.{may_go_on}
use Rattle.wire_format.proofs.walk.Walk.advance.Goals as goal
use Rattle.wire_format.proofs.walk.Walk.advance.Goals.{in-Stray, in-TooDeep}

no_cut : (reason : WireReason) → false ≡ sameb the_type reason Cut → reason ≡ Cut → ⊥
no_cut reason test is = let no : false ≡ true = test ∙ ap (λ found. sameb the_type found Cut) is in cc

pub returns-in-Err-2-clause-walked : goal.returns-in-Err-2-clause-walked
returns-in-Err-2-clause-walked c =
    let fault = c.in-Err.fault in
    token_fault_stays c.args.bytes.now c.loop-self.self-inside.at fault.place c.loop-self.self-inside.groups.items fault.reason
    c.loop-self-test.true c.loop-self.invariant.are_open (λ is. no_cut fault.reason c.if-eq.ensures is) c.in-Err.ensures

pub loop-self-smaller : goal.loop-self-smaller
loop-self-smaller c =
    let token = c.in-Ok.token in
    let here = token_here c.args.bytes.now c.loop-self.self-inside.at token.len token.number token.body c.loop-self.invariant.inside c.in-Ok.ensures in
    omega (arith, here.0, here.2)

pub loop-self-preserved : goal.loop-self-preserved
loop-self-preserved c =
    let token = c.in-Ok.token in
    let inside = c.loop-self.self-inside in
    let here = token_here c.args.bytes.now inside.at token.len token.number token.body c.loop-self.invariant.inside c.in-Ok.ensures in
    record {
      inside = here.0;
      are_open = walk_more c.args.bytes.now inside.at token.len token.number token.body inside.groups.items
          c.nest.new.groups.items c.in-Fits.ensures here.1 c.loop-self.invariant.are_open;
    }

pub returns-in-loop-self-clause-walked : goal.returns-in-loop-self-clause-walked
returns-in-loop-self-clause-walked c =
    let token = c.in-Ok.token in
    let inside = c.loop-self.self-inside in
    let here = token_here c.args.bytes.now inside.at token.len token.number token.body c.loop-self.invariant.inside c.in-Ok.ensures in
    elim c.match-nest.branch [
      | in-Stray w ↦ subst (λ reason. IsStayingFault c.args.bytes.now reason inside.at) (sym w.reason-is)
          (stray_stays c.args.bytes.now inside.at token.len token.number token.body inside.groups.items
          c.loop-self.invariant.inside c.loop-self.invariant.are_open here.1 w.in-Stray.ensures)
      | in-TooDeep w ↦ subst (λ reason. IsStayingFault c.args.bytes.now reason inside.at) (sym w.reason-is)
          (deep_stays c.args.bytes.now inside.at token.len token.number token.body inside.groups.items
          c.loop-self.invariant.inside c.loop-self.invariant.are_open here.1 w.in-TooDeep.ensures)
    ]

pub returns-in-Err-clause-may_go_on : goal.returns-in-Err-clause-may_go_on
returns-in-Err-clause-may_go_on c =
    let inside = c.loop-self.self-inside in
    let loop = c.loop-self.invariant in
    let fault = c.in-Err.fault in
    let is : fault.reason ≡ Cut = same_true the_type (search rules) fault.reason Cut (sym c.if-eq.ensures) in
    may_go_on (record { at = inside.at; numbers = inside.groups.items }) c.args.bytes.now
    (cut_walk c.args.bytes.now inside.at fault.place inside.groups.items fault.reason loop.inside loop.are_open is c.in-Err.ensures)

pub returns-clause-may_go_on : goal.returns-clause-may_go_on
returns-clause-may_go_on c =
    let inside = c.loop-self.self-inside in
    let loop = c.loop-self.invariant in
    may_go_on (record { at = inside.at; numbers = inside.groups.items }) c.args.bytes.now
    (end_walk c.args.bytes.now inside.at inside.groups.items loop.inside loop.are_open c.loop-self-test.false)
