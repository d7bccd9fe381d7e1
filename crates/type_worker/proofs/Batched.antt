-- Entries that are tried one after another.
use Rattle.std.proofs.Common.{◌≡◌, ℕ, ◌+◌, ◌<◌, ◌≤◌, List, [], ◌∷◌, ◌++◌, length, drop, get_or, Result, Ok, Err, sym, ap, subst, ◌∙◌, inl, inr, append_assoc}
use Rattle.std.specs.Result.{IsErrAnd}
use Rattle.std.proofs.lemmas.List.{drop_more, drop_all, append-nil}
use Rattle.sync_model.specs.declared.message.Update.{Update}
use Rattle.key_bag.specs.Bags.{Bag}
use Rattle.type_worker.specs.declared.batch.BatchFault.{BatchFault}
use Rattle.type_worker.specs.declared.batch.BatchFault.TheVariants.{Blocked as Stopped, NoMemory}
use Rattle.type_worker.specs.declared.blocked.Blocked.{Blocked}
use Rattle.type_worker.specs.declared.pending.SentEntry.{SentEntry}
use Rattle.type_worker.specs.Batches.{OpensAs, AllOpenAs}
use Rattle.type_worker.specs.Tries.{IsBlockedAlone, IsStopped, IsEntryTry, IsBatchTry}

-- what comes of the entries that are left makes what comes of all
pub record GoesOn (bag : Bag) (all left : List SentEntry) (updates : List Update) : Type 0 where
  pub more : (rest : List Update) → AllOpenAs bag left rest → AllOpenAs bag all (updates ++ rest)
  pub stops : (blocked : Blocked) → IsStopped bag left blocked → IsStopped bag all blocked

pub goes_on_first : (bag : Bag) (all : List SentEntry) → GoesOn bag all all []
goes_on_first bag all = record { more = λ rest opens. opens; stops = λ blocked stopped. stopped }

stops_before : (bag : Bag) (entry : SentEntry) (left : List SentEntry) (blocked : Blocked) → IsBlockedAlone bag entry blocked → IsStopped bag (entry ∷ left) blocked
stops_before bag entry left blocked alone = record { is_first = inl alone.is_blocked; not_all = λ all. refused all.0 all.1 }
  where
    refused : (updates : List Update) → AllOpenAs bag (entry ∷ left) updates → ⊥
    refused [] opens = opens
    refused (update ∷ updates) opens = alone.is_no_update update opens.0

stops_after : (bag : Bag) (entry : SentEntry) (left : List SentEntry) (update : Update) (blocked : Blocked) → OpensAs bag entry update → IsStopped bag left blocked →
    IsStopped bag (entry ∷ left) blocked
stops_after bag entry left update blocked opens stopped =
    record { is_first = inr ((update, opens), stopped.is_first); not_all = λ all. refused all.0 all.1 }
  where
    refused : (updates : List Update) → AllOpenAs bag (entry ∷ left) updates → ⊥
    refused [] none = none
    refused (first ∷ updates) all = stopped.not_all (updates, all.1)

-- one more entry opens
pub goes_on_more : (bag : Bag) (all : List SentEntry) (index : ℕ) (entry : SentEntry) (updates pushed : List Update) (update : Update) →
    index < length all → entry ≡ get_or all index entry → OpensAs bag entry update → pushed ≡ updates ++ update ∷ [] →
    GoesOn bag all (drop index all) updates → GoesOn bag all (drop (index + 1) all) pushed
goes_on_more bag all index entry updates pushed update lt is opens is_pushed goes = record {
  more = λ rest later.
      subst (AllOpenAs bag all) (sym (append_assoc updates (update ∷ []) rest) ∙ ap (λ (list : List Update). list ++ rest) (sym is_pushed))
      (goes.more (update ∷ rest) (subst (λ (list : List SentEntry). AllOpenAs bag list (update ∷ rest)) (sym split) (opens, later)));
  stops = λ blocked stopped.
      goes.stops blocked (subst (λ (list : List SentEntry). IsStopped bag list blocked) (sym split)
      (stops_after bag entry (drop (index + 1) all) update blocked opens stopped));
}
  where
    split : drop index all ≡ entry ∷ drop (index + 1) all
    split = drop_more all index entry lt ∙ ap (λ (first : SentEntry). first ∷ drop (index + 1) all) (sym is)

-- an entry does not open
pub stops_here : (bag : Bag) (all : List SentEntry) (index : ℕ) (entry : SentEntry) (updates : List Update) (blocked : Blocked) →
    index < length all → entry ≡ get_or all index entry → IsBlockedAlone bag entry blocked → GoesOn bag all (drop index all) updates → IsStopped bag all blocked
stops_here bag all index entry updates blocked lt is alone goes =
    goes.stops blocked (subst (λ (list : List SentEntry). IsStopped bag list blocked) (sym split) (stops_before bag entry (drop (index + 1) all) blocked alone))
  where
    split : drop index all ≡ entry ∷ drop (index + 1) all
    split = drop_more all index entry lt ∙ ap (λ (first : SentEntry). first ∷ drop (index + 1) all) (sym is)

-- all entries open
pub all_opened : (bag : Bag) (all : List SentEntry) (index : ℕ) (updates : List Update) → length all ≤ index → GoesOn bag all (drop index all) updates →
    AllOpenAs bag all updates
all_opened bag all index updates le goes =
    subst (AllOpenAs bag all) (append-nil updates) (goes.more [] (subst (λ (list : List SentEntry). AllOpenAs bag list []) (sym (drop_all index all le)) tt))

-- a try of an entry that fails ends the try of all
pub try_ends : (bag : Bag) (all : List SentEntry) (index : ℕ) (entry : SentEntry) (updates : List Update) (fault : BatchFault) →
    index < length all → entry ≡ get_or all index entry → IsEntryTry bag entry (Err fault) → GoesOn bag all (drop index all) updates →
    (answer : Result (List Update) BatchFault) → IsErrAnd answer (λ told. told ≡ fault) → IsBatchTry bag all answer
try_ends bag all index entry updates fault lt is try goes (Ok done) told = absurd told
try_ends bag all index entry updates fault lt is try goes (Err other) told =
    subst (λ (answer : Result (List Update) BatchFault). IsBatchTry bag all answer) (ap Err (sym told)) (of_fault fault try)
  where
    of_fault : (fault : BatchFault) → IsEntryTry bag entry (Err fault) → IsBatchTry bag all (Err fault)
    of_fault (Stopped blocked) alone = stops_here bag all index entry updates blocked lt is alone goes
    of_fault NoMemory memory = tt
