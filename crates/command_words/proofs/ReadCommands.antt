-- Each command: what was read of its words is what they say, and what they say is read.
use Rattle.std.proofs.Common.{ℕ, List, Option, Some, None, codes, refl, arith}
use Rattle.std.specs.Option.{MatchOption}
use Rattle.command_words.specs.declared.commands.GenerateOptions.{GenerateOptions}
use Rattle.command_words.specs.declared.commands.ServeOptions.{ServeOptions}
use Rattle.command_words.specs.declared.commands.ClientOptions.{ClientOptions}
use Rattle.command_words.specs.declared.commands.SoakOptions.{SoakOptions}
use Rattle.command_words.specs.Commands.{generate_options, IsGenerate, ReadsGenerate, serve_options, IsServe, ReadsServe, client_options, IsClient, ReadsClient, soak_options, IsSoak, ReadsSoak}
use Rattle.command_words.proofs.Said.{AreApart}
use Rattle.command_words.proofs.WordLemmas.{are_words_of, holds_of_words}

-- a decision on what was read is one on what is said
pub said : {T : Type 0} (Reads Says : T → Type 0) (read : Option T) → ((one : T) → Reads one → Says one) → ((one : T) → Says one → Reads one)
    → MatchOption read ((one : T) → Reads one → ⊥) Reads → MatchOption read ((one : T) → Says one → ⊥) Says
said Reads Says None forth back none = λ one says. none one (back one says)
said Reads Says (Some one) forth back reads = forth one reads

generate_apart : (options : GenerateOptions) → AreApart (generate_options options)
generate_apart options = ((refl, (refl, tt)), ((refl, tt), (tt, tt)))

pub generate_read : (name : List ℕ) (words : List (List ℕ)) (options : GenerateOptions) → ReadsGenerate name words options
    → IsGenerate name words options
generate_read name words options reads = record {
  said = are_words_of name (generate_options options) words 7 (generate_apart options) refl reads.named
      (reads.clients.value, (reads.steps.value, (reads.seed.value, tt)));
  clients = (reads.clients.at_least, reads.clients.at_most);
  steps = reads.steps.at_most;
  seed = reads.seed.at_most;
}

pub generate_said : (name : List ℕ) (words : List (List ℕ)) (options : GenerateOptions)
    → IsGenerate name words options → ReadsGenerate name words options
generate_said name words options is =
    let holds = holds_of_words name (generate_options options) words 7 (generate_apart options) refl is.said in
    record {
      named = holds.named;
      clients = record { value = holds.all.0; at_least = is.clients.0; at_most = is.clients.1 };
      steps = record { value = holds.all.1.0; at_least = omega arith; at_most = is.steps };
      seed = record { value = holds.all.1.1.0; at_least = omega arith; at_most = is.seed };
    }

serve_apart : (options : ServeOptions) → AreApart (serve_options options)
serve_apart options = ((refl, (refl, (refl, tt))), ((refl, (refl, tt)), ((refl, tt), (tt, tt))))

pub serve_read : (words : List (List ℕ)) (options : ServeOptions) → ReadsServe words options → IsServe words options
serve_read words options reads = record {
  said = are_words_of (codes "serve") (serve_options options) words 9 (serve_apart options) refl reads.named
      (reads.port.value, (reads.store.0, (reads.connections.value, (reads.workers.value, tt))));
  port = (reads.port.at_least, reads.port.at_most);
  store = reads.store.1;
  connections = (reads.connections.at_least, reads.connections.at_most);
  workers = (reads.workers.at_least, reads.workers.at_most);
}

pub serve_said : (words : List (List ℕ)) (options : ServeOptions) → IsServe words options → ReadsServe words options
serve_said words options is =
    let holds = holds_of_words (codes "serve") (serve_options options) words 9 (serve_apart options) refl is.said in
    record {
      named = holds.named;
      port = record { value = holds.all.0; at_least = is.port.0; at_most = is.port.1 };
      store = (holds.all.1.0, is.store);
      connections = record { value = holds.all.1.1.0; at_least = is.connections.0; at_most = is.connections.1 };
      workers = record { value = holds.all.1.1.1.0; at_least = is.workers.0; at_most = is.workers.1 };
    }

client_apart : (options : ClientOptions) → AreApart (client_options options)
client_apart options = ((refl, tt), (tt, tt))

pub client_read : (words : List (List ℕ)) (options : ClientOptions) → ReadsClient words options → IsClient words options
client_read words options reads = record {
  said = are_words_of (codes "client") (client_options options) words 5 (client_apart options) refl reads.named
      (reads.port.value, (reads.store.0, tt));
  port = (reads.port.at_least, reads.port.at_most);
  store = reads.store.1;
}

pub client_said : (words : List (List ℕ)) (options : ClientOptions) → IsClient words options → ReadsClient words options
client_said words options is =
    let holds = holds_of_words (codes "client") (client_options options) words 5 (client_apart options) refl is.said in
    record {
      named = holds.named;
      port = record { value = holds.all.0; at_least = is.port.0; at_most = is.port.1 };
      store = (holds.all.1.0, is.store);
    }

soak_apart : (options : SoakOptions) → AreApart (soak_options options)
soak_apart options = ((refl, tt), (tt, tt))

pub soak_read : (words : List (List ℕ)) (options : SoakOptions) → ReadsSoak words options → IsSoak words options
soak_read words options reads = record {
  said = are_words_of (codes "soak") (soak_options options) words 5 (soak_apart options) refl reads.named
      (reads.clients.value, (reads.seed.value, tt));
  clients = (reads.clients.at_least, reads.clients.at_most);
  seed = reads.seed.at_most;
}

pub soak_said : (words : List (List ℕ)) (options : SoakOptions) → IsSoak words options
    → ReadsSoak words options
soak_said words options is =
    let holds = holds_of_words (codes "soak") (soak_options options) words 5 (soak_apart options) refl is.said in
    record {
      named = holds.named;
      clients = record { value = holds.all.0; at_least = is.clients.0; at_most = is.clients.1 };
      seed = record { value = holds.all.1.0; at_least = omega arith; at_most = is.seed };
    }
