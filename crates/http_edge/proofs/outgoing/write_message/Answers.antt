use Rattle.std.proofs.Common.{◌++◌, arith, length}
use Rattle.std.proofs.lemmas.Grind.{common_steps}
use Rattle.http_edge.specs.Written.{header_lines}
use Rattle.http_edge.proofs.Fronts.{TookFront-first, TookFront-second, Grew-both, in_two}
use Rattle.http_edge.proofs.outgoing.write_message.Goals as goal

-- what the link took of the first piece is a front of all
pub returns-in_err-write_all-clause-took_front : goal.returns-in_err-write_all-clause-took_front
returns-in_err-write_all-clause-took_front g c =
    let whole = in_two (c.args.first.now ++ header_lines (length c.args.body.now)) c.in_ok-front.front.items c.args.body.now
    c.split_at.result.0.now c.split_at.result.1.now c.in_ok-front.ensures.front (grind (arith, common_steps)) in
    TookFront-first _ _ c.in_ok-front.front.items c.split_at.result.1.now _ whole (grind (arith, c.write_all.ensures.took_front))

pub returns-clause-whole : goal.returns-clause-whole
returns-clause-whole g c =
    let whole = in_two (c.args.first.now ++ header_lines (length c.args.body.now)) c.in_ok-front.front.items c.args.body.now
    c.split_at.result.0.now c.split_at.result.1.now c.in_ok-front.ensures.front (grind (arith, common_steps)) in
    Grew-both c.write_all-2.result _ _ _ c.in_ok-front.front.items c.split_at.result.1.now _ whole
    (grind (arith, c.in_ok-write_all.ensures.whole)) c.write_all-2.ensures.whole

pub returns-clause-took_front : goal.returns-clause-took_front
returns-clause-took_front g c =
    let whole = in_two (c.args.first.now ++ header_lines (length c.args.body.now)) c.in_ok-front.front.items c.args.body.now
    c.split_at.result.0.now c.split_at.result.1.now c.in_ok-front.ensures.front (grind (arith, common_steps)) in
    TookFront-second _ _ _ c.in_ok-front.front.items c.split_at.result.1.now _ whole
    (grind (arith, c.in_ok-write_all.ensures.whole)) c.write_all-2.ensures.took_front
