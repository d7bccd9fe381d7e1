use Rattle.std.proofs.Common.{◌≡◌, List, ℕ, [], ◌∷◌, sym, subst, rules}
use Rattle.std.specs.Prelude.{MatchOption}
use Rattle.sync_program.specs.Command.{AreUnknown, words_of}
use Rattle.sync_program.proofs.WordLists.{one_word, three_words}
use Rattle.sync_program.proofs.command.command_of.Goals as goal

-- what is said of the one word is said of the words
pub returns-in_ok-get-in-1 : goal.returns-in_ok-get-in-1
returns-in_ok-get-in-1 c =
    let words = c.args.words.now in
    let word = c.in_ok-get-in-1.field-0.now in
    let are : words ≡ word ∷ [] = one_word words word (search rules) (search rules) in
    let P : List (List ℕ) → Type 0 = λ list. MatchOption c.replay_command.result (AreUnknown list) (λ command. list ≡ words_of command) in
    subst P (sym are) c.replay_command.ensures

-- what is said of the three words is said of the words
pub returns-in_ok-get-in-3-3 : goal.returns-in_ok-get-in-3-3
returns-in_ok-get-in-3-3 c =
    let words = c.args.words.now in
    let first = c.in_ok-get-in-3.field-0.now in
    let second = c.in_ok-get-in-3-2.field-0.now in
    let third = c.in_ok-get-in-3-3.field-0.now in
    let are : words ≡ first ∷ second ∷ third ∷ [] =
    three_words words first second third (search rules) (search rules) (search rules) (search rules) in
    let P : List (List ℕ) → Type 0 = λ list. MatchOption c.wire_command.result (AreUnknown list) (λ command. list ≡ words_of command) in
    subst P (sym are) c.wire_command.ensures
