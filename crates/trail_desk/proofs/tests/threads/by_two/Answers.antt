use Rattle.std.proofs.Common.{rules}
use Rattle.trail_desk.specs.Passes.{IsPassOf}
use Rattle.trail_desk.proofs.Quantifiers.{all_popped, all_pushed}
use Rattle.trail_desk.proofs.tests.threads.by_two.Goals as goal

pub returns : goal.returns
returns g c =
    let rest = all_popped (IsPassOf c.args.desk.now) _ _ _ c.in-Some.ensures.items c.requires.of_desk in
    let front = all_popped (IsPassOf c.args.desk.now) _ _ _ c.in-Some-pop.ensures.items rest.1 in
    let one : IsPassOf c.args.desk.now c.join-one.result.0 = search rules in
    let two : IsPassOf c.args.desk.now c.join-one.result.1 = search rules in
    all_pushed (IsPassOf c.args.desk.now) _ _ _ c.in-Ok-push.ensures.items (all_pushed (IsPassOf c.args.desk.now) _ _ _ c.in-Ok.ensures.items front.1 one) two
