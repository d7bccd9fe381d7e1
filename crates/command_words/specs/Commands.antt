-- Which words say which command with options.
use Rattle.std.specs.Prelude.{◌≡◌, ℕ, ◌-◌, ◌^◌, ◌≤◌, ◌||◌, ◌&&◌, ◌==◌, nat_le, nat_lt, Bool, List, [], ◌∷◌, length, codes, IsTrue, slice_get, Some}
use Rattle.std.specs.Fmt.{decimal}
use Rattle.std.specs.List.{list_all}
use Rattle.command_words.specs.declared.commands.GenerateOptions.{GenerateOptions}
use Rattle.command_words.specs.declared.commands.ServeOptions.{ServeOptions}
use Rattle.command_words.specs.declared.commands.ClientOptions.{ClientOptions}
use Rattle.command_words.specs.declared.commands.SoakOptions.{SoakOptions}
use Rattle.command_words.specs.Options.{AreWordsOf, HasValue, HasNumber}

-- the greatest seed
abbrev pub MAX_SEED : ℕ
MAX_SEED = 2 ^ 64 - 1

-- a number from one to another
abbrev pub IsBetween : ℕ → ℕ → ℕ → Type 0
IsBetween low high number = (low ≤ number) × (number ≤ high)

-- a byte that may stand in a store's name: a small letter, a digit or `_`
abbrev pub may_name : ℕ → Bool
may_name byte = (nat_le 97 byte && nat_le byte 122) || (nat_le 48 byte && nat_le byte 57) || byte == 95

-- a store's name has 1 to 64 bytes, each of which may stand in it
abbrev pub is_store_name : List ℕ → Bool
is_store_name name = nat_lt 0 (length name) && nat_le (length name) 64 && list_all may_name name

-- behind a command's name, the first option of a name has this store's name as its value
abbrev pub HasStore : List (List ℕ) → List ℕ → List ℕ → Type 0
HasStore words name store = HasValue words name store × IsTrue (is_store_name store)

-- the options of a command that generates a schedule
abbrev pub generate_options : GenerateOptions → List (List ℕ × List ℕ)
generate_options options =
    (codes "--clients", decimal options.clients) ∷ (codes "--steps", decimal options.steps)
    ∷ (codes "--seed", decimal options.seed) ∷ []

-- some words have this command's name, and say how to generate a schedule: 1 to 8 clients, at most 500 steps, and any seed
pub record IsGenerate (name : List ℕ) (words : List (List ℕ)) (options : GenerateOptions) : Type 0 where
  pub said : AreWordsOf name (generate_options options) words
  pub clients : IsBetween 1 8 options.clients
  pub steps : options.steps ≤ 500
  pub seed : options.seed ≤ MAX_SEED

-- the options of a server
abbrev pub serve_options : ServeOptions → List (List ℕ × List ℕ)
serve_options options =
    (codes "--port", decimal options.port) ∷ (codes "--store", options.store.now)
    ∷ (codes "--connections", decimal options.connections) ∷ (codes "--workers", decimal options.workers) ∷ []

-- some words say how to serve: on a port from 1, with a store, for 1 to 1,000,000 connections, by 1 to 16 workers
pub record IsServe (words : List (List ℕ)) (options : ServeOptions) : Type 0 where
  pub said : AreWordsOf (codes "serve") (serve_options options) words
  pub port : IsBetween 1 65535 options.port
  pub store : IsTrue (is_store_name options.store.now)
  pub connections : IsBetween 1 1000000 options.connections
  pub workers : IsBetween 1 16 options.workers

-- the options of a client
abbrev pub client_options : ClientOptions → List (List ℕ × List ℕ)
client_options options = (codes "--port", decimal options.port) ∷ (codes "--store", options.store.now) ∷ []

-- some words say how to run a client: against a port from 1, with a store
pub record IsClient (words : List (List ℕ)) (options : ClientOptions) : Type 0 where
  pub said : AreWordsOf (codes "client") (client_options options) words
  pub port : IsBetween 1 65535 options.port
  pub store : IsTrue (is_store_name options.store.now)

-- the options of a soak
abbrev pub soak_options : SoakOptions → List (List ℕ × List ℕ)
soak_options options = (codes "--clients", decimal options.clients) ∷ (codes "--seed", decimal options.seed) ∷ []

-- some words say how to soak: with 1 to 8 clients, and any seed
pub record IsSoak (words : List (List ℕ)) (options : SoakOptions) : Type 0 where
  pub said : AreWordsOf (codes "soak") (soak_options options) words
  pub clients : IsBetween 1 8 options.clients
  pub seed : options.seed ≤ MAX_SEED

-- some words are so many behind this name
pub record IsNamed (name : List ℕ) (count : ℕ) (words : List (List ℕ)) : Type 0 where
  pub first : slice_get words 0 ≡ Some name
  pub number : length words ≡ count

-- the first options of their names say how to generate a schedule, and there are no others
pub record ReadsGenerate (name : List ℕ) (words : List (List ℕ)) (options : GenerateOptions) : Type 0 where
  pub named : IsNamed name 7 words
  pub clients : HasNumber words (codes "--clients") 1 8 options.clients
  pub steps : HasNumber words (codes "--steps") 0 500 options.steps
  pub seed : HasNumber words (codes "--seed") 0 MAX_SEED options.seed

-- the first options of their names say how to serve, and there are no others
pub record ReadsServe (words : List (List ℕ)) (options : ServeOptions) : Type 0 where
  pub named : IsNamed (codes "serve") 9 words
  pub port : HasNumber words (codes "--port") 1 65535 options.port
  pub store : HasStore words (codes "--store") options.store.now
  pub connections : HasNumber words (codes "--connections") 1 1000000 options.connections
  pub workers : HasNumber words (codes "--workers") 1 16 options.workers

-- the first options of their names say how to run a client, and there are no others
pub record ReadsClient (words : List (List ℕ)) (options : ClientOptions) : Type 0 where
  pub named : IsNamed (codes "client") 5 words
  pub port : HasNumber words (codes "--port") 1 65535 options.port
  pub store : HasStore words (codes "--store") options.store.now

-- the first options of their names say how to soak, and there are no others
pub record ReadsSoak (words : List (List ℕ)) (options : SoakOptions) : Type 0 where
  pub named : IsNamed (codes "soak") 5 words
  pub clients : HasNumber words (codes "--clients") 1 8 options.clients
  pub seed : HasNumber words (codes "--seed") 0 MAX_SEED options.seed
