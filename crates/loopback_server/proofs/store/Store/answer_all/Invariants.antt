use Rattle.std.proofs.Common.{◌≡◌, ◌+◌, ◌≤◌, ◌++◌, length, map, vec_len, vec_capacity}
use Rattle.std.specs.List.{AllByRecursion}
use Rattle.sync_messages.specs.Laws.{IsAnswer}
use Rattle.sync_model.specs.History.{committed}
use Rattle.loopback_server.specs.Candidates.{entry_read, HaveIds, HavePlaces}
use Rattle.replay_messages.specs.Entries.{is_invalid}
use Rattle.replay_messages.specs.Replies.{answers_told}
use Rattle.loopback_server.specs.Stores.{history_of, IsIndexed}
use Rattle.loopback_server.proofs.store.Store.answer_all.Given as goal

abbrev pub invariant-candidates : goal.invariant-candidates
invariant-candidates l = record {
  indexed : IsIndexed l.self;
  ids : HaveIds l.candidates.items;
  have_places : HavePlaces l.self.index.entries l.candidates.items;
  room : vec_len l.self.writes + length l.candidates.items ≤ vec_capacity l.self.writes;
  answers_room : vec_len l.answers + length l.candidates.items ≤ vec_capacity l.answers;
  answers : l.answers.items ++ answers_told (history_of l.self) (map entry_read l.candidates.items)
      ≡ l.initial.answers.items ++ answers_told (history_of l.initial.self) (map entry_read l.initial.candidates.items);
  sayable : AllByRecursion IsAnswer l.initial.answers.items → AllByRecursion IsAnswer l.answers.items;
  history : committed is_invalid (history_of l.self) (map entry_read l.candidates.items)
      ≡ committed is_invalid (history_of l.initial.self) (map entry_read l.initial.candidates.items);
}

abbrev pub decreases-candidates : goal.decreases-candidates
decreases-candidates l = length l.candidates.items
