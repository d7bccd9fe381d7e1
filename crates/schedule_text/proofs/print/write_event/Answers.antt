use Rattle.std.proofs.Common.{◌≡◌, ◌++◌, ap, sym, ◌∙◌, ℕ, List}
use Rattle.std.proofs.lemmas.Result.{on_ok_weaker}
use Rattle.sync_model.specs.declared.event.Event.{Event as Step}
use Rattle.sync_model.specs.declared.event.Event.TheVariants.{Edit, Cut, Turn, Gather, Post, Ask, Offer, Lose, Crash, Deliver, Answer, SetPass, GivePass}
use Rattle.schedule_text.specs.Printing.{event_text}
use Rattle.schedule_text.proofs.Printed.{edit_printed, cut_printed, turn_printed, gather_printed, post_printed, ask_printed, offer_printed, lose_printed, crash_printed, deliver_printed, answer_printed, setpass_printed, givepass_printed}
use Rattle.schedule_text.proofs.print.write_event.Goals as goal

of_event : (event other : Step) (old new : List ℕ) → event ≡ other → new ≡ old ++ event_text other → new ≡ old ++ event_text event
of_event event other old new is printed = printed ∙ ap (λ (e : Step). old ++ event_text e) (sym is)

pub returns-in-Edit-clause-ok : goal.returns-in-Edit-clause-ok
returns-in-Edit-clause-ok c =
    on_ok_weaker c.write_edit.result (λ ok. of_event c.args.event.now (Edit c.in-Edit.client c.in-Edit.edit) c.args.out.now.items c.write_edit.new.out.items c.in-Edit.is (edit_printed c.args.out.now.items c.write_edit.new.out.items c.in-Edit.client c.in-Edit.edit ok)) c.write_edit.ensures.ok

pub returns-in-Cut-clause-ok : goal.returns-in-Cut-clause-ok
returns-in-Cut-clause-ok c =
    on_ok_weaker c.write_edit-in-Cut.result (λ ok. of_event c.args.event.now (Cut c.in-Cut.client c.in-Cut.kept c.in-Cut.edit) c.args.out.now.items c.write_edit-in-Cut.new.out.items c.in-Cut.is (cut_printed c.args.out.now.items c.write_edit-in-Cut.new.out.items c.in-Cut.client c.in-Cut.kept c.in-Cut.edit (rw c.kept_part.ensures at ok))) c.write_edit-in-Cut.ensures.ok

pub returns-in-Turn-clause-ok : goal.returns-in-Turn-clause-ok
returns-in-Turn-clause-ok c =
    on_ok_weaker c.write_kind_line.result (λ ok. of_event c.args.event.now (Turn c.in-Turn.client c.in-Turn.kind) c.args.out.now.items c.write_kind_line.new.out.items c.in-Turn.is (turn_printed c.args.out.now.items c.write_kind_line.new.out.items c.in-Turn.client c.in-Turn.kind ok)) c.write_kind_line.ensures.ok

pub returns-in-Gather-clause-ok : goal.returns-in-Gather-clause-ok
returns-in-Gather-clause-ok c =
    on_ok_weaker c.write_kind_line-in-Gather.result (λ ok. of_event c.args.event.now (Gather c.in-Gather.client c.in-Gather.kind) c.args.out.now.items c.write_kind_line-in-Gather.new.out.items c.in-Gather.is (gather_printed c.args.out.now.items c.write_kind_line-in-Gather.new.out.items c.in-Gather.client c.in-Gather.kind ok)) c.write_kind_line-in-Gather.ensures.ok

pub returns-in-Post-clause-ok : goal.returns-in-Post-clause-ok
returns-in-Post-clause-ok c =
    on_ok_weaker c.write_kind_line-in-Post.result (λ ok. of_event c.args.event.now (Post c.in-Post.client c.in-Post.kind) c.args.out.now.items c.write_kind_line-in-Post.new.out.items c.in-Post.is (post_printed c.args.out.now.items c.write_kind_line-in-Post.new.out.items c.in-Post.client c.in-Post.kind ok)) c.write_kind_line-in-Post.ensures.ok

pub returns-in-Ask-clause-ok : goal.returns-in-Ask-clause-ok
returns-in-Ask-clause-ok c =
    on_ok_weaker c.write_number_line.result (λ ok. of_event c.args.event.now (Ask c.in-Ask.client) c.args.out.now.items c.write_number_line.new.out.items c.in-Ask.is (ask_printed c.args.out.now.items c.write_number_line.new.out.items c.in-Ask.client (rw c.from.ensures at ok))) c.write_number_line.ensures.ok

pub returns-in-Offer-clause-ok : goal.returns-in-Offer-clause-ok
returns-in-Offer-clause-ok c =
    on_ok_weaker c.write_number_line-in-Offer.result (λ ok. of_event c.args.event.now (Offer c.in-Offer.client) c.args.out.now.items c.write_number_line-in-Offer.new.out.items c.in-Offer.is (offer_printed c.args.out.now.items c.write_number_line-in-Offer.new.out.items c.in-Offer.client (rw c.from-in-Offer.ensures at ok))) c.write_number_line-in-Offer.ensures.ok

pub returns-in-Lose-clause-ok : goal.returns-in-Lose-clause-ok
returns-in-Lose-clause-ok c =
    on_ok_weaker c.write_number_line-in-Lose.result (λ ok. of_event c.args.event.now (Lose c.in-Lose.client) c.args.out.now.items c.write_number_line-in-Lose.new.out.items c.in-Lose.is (lose_printed c.args.out.now.items c.write_number_line-in-Lose.new.out.items c.in-Lose.client (rw c.from-in-Lose.ensures at ok))) c.write_number_line-in-Lose.ensures.ok

pub returns-in-Crash-clause-ok : goal.returns-in-Crash-clause-ok
returns-in-Crash-clause-ok c =
    on_ok_weaker c.write_number_line-in-Crash.result (λ ok. of_event c.args.event.now (Crash c.in-Crash.client) c.args.out.now.items c.write_number_line-in-Crash.new.out.items c.in-Crash.is (crash_printed c.args.out.now.items c.write_number_line-in-Crash.new.out.items c.in-Crash.client (rw c.from-in-Crash.ensures at ok))) c.write_number_line-in-Crash.ensures.ok

pub returns-in-Deliver-clause-ok : goal.returns-in-Deliver-clause-ok
returns-in-Deliver-clause-ok c =
    on_ok_weaker c.write_number_line-in-Deliver.result (λ ok. of_event c.args.event.now (Deliver c.in-Deliver.event) c.args.out.now.items c.write_number_line-in-Deliver.new.out.items c.in-Deliver.is (deliver_printed c.args.out.now.items c.write_number_line-in-Deliver.new.out.items c.in-Deliver.event (rw c.from-in-Deliver.ensures at ok))) c.write_number_line-in-Deliver.ensures.ok

pub returns-in-Answer-clause-ok : goal.returns-in-Answer-clause-ok
returns-in-Answer-clause-ok c =
    on_ok_weaker c.write_number_line-in-Answer.result (λ ok. of_event c.args.event.now (Answer c.in-Answer.event) c.args.out.now.items c.write_number_line-in-Answer.new.out.items c.in-Answer.is (answer_printed c.args.out.now.items c.write_number_line-in-Answer.new.out.items c.in-Answer.event (rw c.from-in-Answer.ensures at ok))) c.write_number_line-in-Answer.ensures.ok

pub returns-in-SetPass-clause-ok : goal.returns-in-SetPass-clause-ok
returns-in-SetPass-clause-ok c =
    on_ok_weaker c.write_numbers_line.result (λ ok. of_event c.args.event.now (SetPass c.in-SetPass.client c.in-SetPass.pass) c.args.out.now.items c.write_numbers_line.new.out.items c.in-SetPass.is (setpass_printed c.args.out.now.items c.write_numbers_line.new.out.items c.in-SetPass.client c.in-SetPass.pass ok)) c.write_numbers_line.ensures.ok

pub returns-in-GivePass-clause-ok : goal.returns-in-GivePass-clause-ok
returns-in-GivePass-clause-ok c =
    on_ok_weaker c.write_numbers_line-in-GivePass.result (λ ok. of_event c.args.event.now (GivePass c.in-GivePass.client c.in-GivePass.pass) c.args.out.now.items c.write_numbers_line-in-GivePass.new.out.items c.in-GivePass.is (givepass_printed c.args.out.now.items c.write_numbers_line-in-GivePass.new.out.items c.in-GivePass.client c.in-GivePass.pass ok)) c.write_numbers_line-in-GivePass.ensures.ok
