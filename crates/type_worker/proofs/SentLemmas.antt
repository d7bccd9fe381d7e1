-- Offers that are sent one after another.
use Rattle.std.proofs.Common.{◌≡◌, ℕ, suc, ◌+◌, ◌≤◌, ◌<◌, arith, List, [], ◌∷◌, ◌++◌, length, drop, get_or, Option, None, Some, true, false, ◌&&◌, Bool, IsTrue, refl, sym, ap, subst, ◌∙◌, append_assoc, add-one}
use Rattle.std.proofs.lemmas.List.{drop_more, drop_all, append-nil}
use Rattle.client_tags.specs.declared.Kind.{Kind}
use Rattle.sync_messages.specs.declared.message.Entity.{Entity}
use Rattle.key_bag.specs.Bags.{Bag}
use Rattle.sync_model.specs.declared.message.Offer.{Offer}
use Rattle.sync_model.specs.Sending.{lock_for, drawn_after, drawn_for}
use Rattle.random_vectors.specs.Vectors.{Place}
use Rattle.replay_messages.specs.Sealed.{plain_specifics}
use Rattle.type_worker.specs.Sending.{has_lock, have_locks, entity_with, sealed_entity, with_first, entities_for, AreDrawn, IsSentUnder, MayHaveDrawn}
use Rattle.type_worker.specs.Sent.{IsSentBy}
use Rattle.type_worker.proofs.Drawn.{none_drawn, one_more_drawn, drawn_at_most, one_more_at_most}

module _ (bag : Bag) (kind : Kind) (name : Option (List ℕ)) where
  first_plain : (vectors : List (List ℕ)) (offer : Offer) (offers : List Offer) → lock_for kind name offer.value ≡ None →
      entities_for bag kind name vectors (offer ∷ offers) ≡ entity_with kind offer (plain_specifics kind offer.value) ∷ entities_for bag kind name vectors offers
  unfolding entities_for
  first_plain vectors offer offers is = ap (with_first bag kind offer (λ later. entities_for bag kind name later offers) vectors) is

  first_sealed : (vector : List ℕ) (later : List (List ℕ)) (offer : Offer) (offers : List Offer) (lock : List ℕ) → lock_for kind name offer.value ≡ Some lock →
      entities_for bag kind name (vector ∷ later) (offer ∷ offers) ≡ sealed_entity bag kind offer lock vector ∷ entities_for bag kind name later offers
  unfolding entities_for
  first_sealed vector later offer offers lock is = ap (with_first bag kind offer (λ after. entities_for bag kind name after offers) (vector ∷ later)) is

  none_left : (vectors : List (List ℕ)) → entities_for bag kind name vectors [] ≡ []
  unfolding entities_for
  none_left vectors = refl

  drawn_first : (count : ℕ) (offer : Offer) (offers : List Offer) (lock : Option (List ℕ)) → lock_for kind name offer.value ≡ lock →
      drawn_for kind name count (offer ∷ offers) ≡ drawn_for kind name (drawn_after lock count) offers
  unfolding drawn_for
  drawn_first count offer offers lock is = ap (λ (of : Option (List ℕ)). drawn_for kind name (drawn_after of count) offers) is

  all_drawn : (count : ℕ) → drawn_for kind name count [] ≡ count
  unfolding drawn_for
  all_drawn count = refl

  -- what is sent of the offers that are left makes what is sent of all
  pub record SentSoFar (all left : List Offer) (before now : Option Place) (entities : List Entity) : Type 0 where
    pub count : ℕ
    pub vectors : List (List ℕ)
    pub are_drawn : AreDrawn before now count vectors
    pub counted : drawn_for kind name 0 all ≡ drawn_for kind name count left
    pub at_most : count + length left ≤ length all
    pub goes_on : (later : List (List ℕ)) → entities_for bag kind name (vectors ++ later) all ≡ entities ++ entities_for bag kind name later left

  pub none_sent : (all : List Offer) (before : Option Place) → SentSoFar all all before before []
  none_sent all before = record {
    count = 0;
    vectors = [];
    are_drawn = none_drawn before;
    counted = refl;
    at_most = omega arith;
    goes_on = λ later. refl;
  }

  more_entities : (entities pushed : List Entity) (entity : Entity) (rest : List Entity) → pushed ≡ entities ++ entity ∷ [] → entities ++ entity ∷ rest ≡ pushed ++ rest
  more_entities entities pushed entity rest is = sym (append_assoc entities (entity ∷ []) rest) ∙ ap (λ (list : List Entity). list ++ rest) (sym is)

  sent_first : (all : List Offer) (offer : Offer) (offers : List Offer) (before mid now : Option Place) (entities pushed : List Entity) (entity : Entity) (lock : Option (List ℕ)) →
      lock_for kind name offer.value ≡ lock → pushed ≡ entities ++ entity ∷ [] → IsSentBy bag kind offer lock mid now entity →
      SentSoFar all (offer ∷ offers) before mid entities → SentSoFar all offers before now pushed
  sent_first all offer offers before mid now entities pushed entity None is is_pushed sent so_far = record {
    count = so_far.count;
    vectors = so_far.vectors;
    are_drawn = subst (λ (at : Option Place). AreDrawn before at so_far.count so_far.vectors) (sym sent.undrawn) so_far.are_drawn;
    counted = so_far.counted ∙ drawn_first so_far.count offer offers None is;
    at_most = omega (arith, so_far.at_most);
    goes_on = λ later.
        so_far.goes_on later
        ∙ ap (λ (rest : List Entity). entities ++ rest) (first_plain later offer offers is ∙ ap (λ (first : Entity). first ∷ entities_for bag kind name later offers) (sym sent.is_entity))
        ∙ more_entities entities pushed entity (entities_for bag kind name later offers) is_pushed;
  }
  sent_first all offer offers before mid now entities pushed entity (Some lock) is is_pushed sent so_far = record {
    count = suc so_far.count;
    vectors = so_far.vectors ++ sent.vector ∷ [];
    are_drawn = one_more_drawn before mid now so_far.count so_far.vectors sent.vector so_far.are_drawn sent.is_drawn;
    counted =
        so_far.counted ∙ drawn_first so_far.count offer offers (Some lock) is ∙ ap (λ (count : ℕ). drawn_for kind name count offers) (add-one so_far.count);
    at_most = omega (arith, so_far.at_most);
    goes_on = λ later.
        ap (λ (vectors : List (List ℕ)). entities_for bag kind name vectors all) (append_assoc so_far.vectors (sent.vector ∷ []) later)
        ∙ so_far.goes_on (sent.vector ∷ later)
        ∙ ap (λ (rest : List Entity). entities ++ rest)
        (first_sealed sent.vector later offer offers lock is ∙ ap (λ (first : Entity). first ∷ entities_for bag kind name later offers) (sym sent.is_entity))
        ∙ more_entities entities pushed entity (entities_for bag kind name later offers) is_pushed;
  }

  split_at : (all : List Offer) (index : ℕ) (offer : Offer) → index < length all → offer ≡ get_or all index offer → drop index all ≡ offer ∷ drop (index + 1) all
  split_at all index offer lt is = drop_more all index offer lt ∙ ap (λ (first : Offer). first ∷ drop (index + 1) all) (sym is)

  -- one more offer is sent
  pub sent_more : (all : List Offer) (index : ℕ) (offer : Offer) (before mid now : Option Place) (entities pushed : List Entity) (entity : Entity) →
      index < length all → offer ≡ get_or all index offer → pushed ≡ entities ++ entity ∷ [] → IsSentBy bag kind offer (lock_for kind name offer.value) mid now entity →
      SentSoFar all (drop index all) before mid entities → SentSoFar all (drop (index + 1) all) before now pushed
  sent_more all index offer before mid now entities pushed entity lt is is_pushed sent so_far =
      sent_first all offer (drop (index + 1) all) before mid now entities pushed entity (lock_for kind name offer.value) refl is_pushed sent
      (subst (λ (left : List Offer). SentSoFar all left before mid entities) (split_at all index offer lt is) so_far)

  -- all offers are sent
  pub all_sent : (all : List Offer) (index : ℕ) (before now : Option Place) (entities : List Entity) → length all ≤ index →
      SentSoFar all (drop index all) before now entities → IsSentUnder bag kind name all before now entities
  all_sent all index before now entities le so_far = of_none (subst (λ (left : List Offer). SentSoFar all left before now entities) (drop_all index all le) so_far)
    where
      of_none : SentSoFar all [] before now entities → IsSentUnder bag kind name all before now entities
      of_none done = record {
        vectors = done.vectors;
        are_drawn = subst (λ (count : ℕ). AreDrawn before now count done.vectors) (sym (done.counted ∙ all_drawn done.count)) done.are_drawn;
        are_entities =
            sym (append-nil entities) ∙ ap (λ (rest : List Entity). entities ++ rest) (sym (none_left []))
            ∙ sym (done.goes_on []) ∙ ap (λ (vectors : List (List ℕ)). entities_for bag kind name vectors all) (append-nil done.vectors);
      }

  -- where the next offer is not sent, so many vectors were drawn at most
  pub drawn_with_next : (all : List Offer) (index : ℕ) (offer : Offer) (before mid now : Option Place) (entities : List Entity) → index < length all →
      offer ≡ get_or all index offer → SentSoFar all (drop index all) before mid entities → MayHaveDrawn 1 mid now → MayHaveDrawn (length all) before now
  drawn_with_next all index offer before mid now entities lt is so_far one =
      of_more (subst (λ (left : List Offer). SentSoFar all left before mid entities) (split_at all index offer lt is) so_far)
    where
      of_more : SentSoFar all (offer ∷ drop (index + 1) all) before mid entities → MayHaveDrawn (length all) before now
      of_more more = one_more_at_most before mid now more.count (length all) more.vectors more.are_drawn (omega (arith, more.at_most)) one

  -- of what was sent so far, so many vectors were drawn at most
  pub drawn_so_far : (all : List Offer) (left : List Offer) (before now : Option Place) (entities : List Entity) → SentSoFar all left before now entities → MayHaveDrawn (length all) before now
  drawn_so_far all left before now entities so_far =
      drawn_at_most before now so_far.count (length all) so_far.vectors so_far.are_drawn (omega (arith, so_far.at_most))

  both_true : (a b : Bool) → (a && b) ≡ true → b ≡ true
  both_true true b is = is
  both_true false b is = absurd (never is)
    where
      never : false ≡ true → ⊥
      never is = cc

  -- the bag has the locks of the offers that are left
  pub have_left : (all : List Offer) (index : ℕ) (offer : Offer) → index < length all → offer ≡ get_or all index offer → IsTrue (have_locks bag kind name (drop index all)) →
      IsTrue (have_locks bag kind name (drop (index + 1) all))
  have_left all index offer lt is have =
      both_true (has_lock bag (lock_for kind name offer.value)) (have_locks bag kind name (drop (index + 1) all))
      (subst (λ (left : List Offer). IsTrue (have_locks bag kind name left)) (split_at all index offer lt is) have)
