-- The words of a command, by what a look-up finds among them.
use Rattle.std.proofs.Common.{◌≡◌, ℕ, ◌+◌, ◌*◌, List, [], ◌∷◌, length, drop, sym, ap, subst, arith}
use Rattle.std.proofs.lemmas.Option.{none-some, same_Some}
use Rattle.std.specs.List.{slice_get}
use Rattle.command_words.specs.Options.{AreWordsOf}
use Rattle.command_words.specs.Commands.{IsNamed}
use Rattle.command_words.proofs.Said.{AreApart, AllFound, all_found, count_in_any_order, count_of_words, by_twos, are_in_any_order}

-- words that are a name and as many as some options have, among which all of these are found, are the words of a command
pub are_words_of : (name : List ℕ) (options : List (List ℕ × List ℕ)) (words : List (List ℕ)) (count : ℕ) → AreApart options
    → count ≡ 2 * length options + 1 → IsNamed name count words → AllFound (drop 1 words) options → AreWordsOf name options words
are_words_of name options [] count apart is named all = absurd (none-some _ named.first)
are_words_of name options (word ∷ others) count apart is named all =
    let twos = by_twos (length options) others (omega (arith, named.number, is)) in
    record {
      others = others;
      all = ap (λ first. first ∷ others) (same_Some _ _ named.first);
      say = record {
        said = twos.said;
        are_words = twos.are_words;
        are_options = are_in_any_order options twos.said apart twos.half (subst (λ rest. AllFound rest options) twos.are_words all);
      };
    }

-- what holds of the words of a command
pub record HoldsOfWords (name : List ℕ) (options : List (List ℕ × List ℕ)) (words : List (List ℕ)) (count : ℕ) : Type 0 where
  pub named : IsNamed name count words
  pub all : AllFound (drop 1 words) options

pub holds_of_words : (name : List ℕ) (options : List (List ℕ × List ℕ)) (words : List (List ℕ)) (count : ℕ) → AreApart options
    → count ≡ 2 * length options + 1 → AreWordsOf name options words → HoldsOfWords name options words count
holds_of_words name options words count apart is command = record {
  named = record {
    first = ap (λ all. slice_get all 0) command.all;
    number = omega (
      arith,
      is,
      ap length command.all,
      ap length command.say.are_words,
      count_of_words command.say.said,
      count_in_any_order options command.say.said command.say.are_options,
    );
  };
  all = subst (λ all. AllFound (drop 1 all) options) (sym command.all)
      (subst (λ rest. AllFound rest options) (sym command.say.are_words)
      (all_found options command.say.said apart command.say.are_options));
}
