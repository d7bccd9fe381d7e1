use Rattle.std.proofs.Common.{ℕ, ◌++◌, List, arith, ap, subst, ◌∙◌}
use Rattle.std.specs.Prelude.{reverse}
use Rattle.std.proofs.lemmas.List.{length-reverse}
use Rattle.sync_model.specs.declared.message.Content.{Content}
use Rattle.sync_model.specs.declared.message.Entry.{Entry}
use Rattle.sync_model.specs.Servers.{history_served}
use Rattle.sync_model.specs.Worlds.{STORE_BIRTHDAY, is_invalid_entry}
use Rattle.replay_messages.specs.Messages.{request_told}
use Rattle.replay_world.specs.Copies.{stored_by}
use Rattle.replay_world.specs.Outcomes.{served_reply, IsReply}
use Rattle.replay_world.proofs.Served.{stored_based, stored_is, still_server, told_reply, kept_writes}
use Rattle.replay_world.proofs.run_server.RunServer.deliver.Goals as goal

pub read_request-requires : goal.read_request-requires
read_request-requires c = record {
  message = request_told 0 c.args.client c.args.request.now;
  is_sayable = c.requires.sayable 0;
  are_bytes = c.requires.is_told 0;
}

pub handle-requires : goal.handle-requires
handle-requires c = record { based = stored_based c.self.inside c.self.invariant; canonical = c.in_ok-message.ensures.canonical }

pub invariant_of-self-2 : goal.invariant_of-self-2
invariant_of-self-2 c =
    let message = λ (seed : ℕ). c.in_ok-message.ensures.read (request_told seed c.args.client c.args.request.now) (c.requires.sayable seed) (c.requires.is_told seed) in
    still_server c.self.inside _ c.args.request.now c.self.invariant c.requires.plain c.server_agrees.ensures.plain_histories
    (c.handle.ensures.birthday ∙ c.self.invariant.birthday)
    (kept_writes 0 c.args.client c.self.inside c.args.request.now c.in_ok-message.message c.in_ok-told.told.reply c.keep_stored.new.writes.items c.server_agrees.ensures.replies c.self.invariant c.requires.plain (message 0)
    c.in_ok-told.ensures.reply (c.keep_stored.ensures ∙ (λ i. c.in_ok-reserve.ensures.items i ++ stored_by (c.in_ok-copies.ensures i) (c.answers_of.ensures i))))
    (λ seed. stored_is seed c.args.client (reverse c.self.inside.writes.items) c.args.request.now c.self.inside.server.birthday c.self.inside.server.history c.handle.new.server.history c.in_ok-message.message
    c.server_agrees.ensures.histories c.self.invariant.birthday (c.self.invariant.stored seed) c.requires.plain (message seed) c.in_ok-told.ensures.history)

pub returns-clause-reply : goal.returns-clause-reply
returns-clause-reply c =
    let message = λ (seed : ℕ). c.in_ok-message.ensures.read (request_told seed c.args.client c.args.request.now) (c.requires.sayable seed) (c.requires.is_told seed) in
    subst (λ (history : List (Entry Content)). IsReply c.args.request.now (served_reply history c.args.request.now) c.in_ok-told.told.bytes) c.self.view_is
    (told_reply c.args.client c.self.inside c.args.request.now c.in_ok-message.message c.in_ok-told.told.reply c.in_ok-told.told.bytes c.server_agrees.ensures.replies c.server_agrees.ensures.sayable c.self.invariant
    c.requires.plain (omega (arith, length-reverse c.self.inside.writes.items, c.self.inside.writes.ok, c.self.inside.writes.small)) message c.in_ok-told.ensures.reply c.in_ok-told.ensures.bytes)

pub returns-clause-history : goal.returns-clause-history
returns-clause-history c =
    let message = λ (seed : ℕ). c.in_ok-message.ensures.read (request_told seed c.args.client c.args.request.now) (c.requires.sayable seed) (c.requires.is_told seed) in
    kept_writes 0 c.args.client c.self.inside c.args.request.now c.in_ok-message.message c.in_ok-told.told.reply c.keep_stored.new.writes.items c.server_agrees.ensures.replies c.self.invariant c.requires.plain (message 0)
    c.in_ok-told.ensures.reply (c.keep_stored.ensures ∙ (λ i. c.in_ok-reserve.ensures.items i ++ stored_by (c.in_ok-copies.ensures i) (c.answers_of.ensures i)))
    ∙ ap (λ (history : List (Entry Content)). history_served is_invalid_entry STORE_BIRTHDAY history c.args.request.now) c.self.view_is
