-- The words of the reader's parts.
use Rattle.std.specs.Prelude.{◌≡◌, ◌≢◌, ℕ, ◌+◌, List, [], ◌∷◌, ◌++◌, codes, Option, Some, None, Result, Ok, Err, MatchOption, MatchResult}
use Rattle.std.specs.List.{AllByRecursion}
use Rattle.schedule_text.specs.declared.fault.LineReason.{LineReason}
use Rattle.schedule_text.specs.declared.fault.LineReason.TheVariants.{Form}
use Rattle.schedule_text.specs.declared.fault.LineFault.{LineFault}
use Rattle.schedule_text.specs.declared.fault.LineFault.TheVariants.{Bad, NoMemory}
use Rattle.schedule_text.specs.declared.fault.ParseFault.{ParseFault}
use Rattle.schedule_text.specs.declared.fault.ParseFault.TheVariants.{BadLine, NoMemory as WantsMemory}
use Rattle.schedule_text.specs.declared.verb.Verb.{Verb}
use Rattle.schedule_text.specs.declared.verb.Verb.TheVariants.{Edit, Cut, Turn, Gather, Post, Ask, Offer, Lose, Crash, Deliver, Answer, SetPass, GivePass}
use Rattle.schedule_text.specs.Grammar.{Slot, Between, after_slot, change_forms, kept_forms, kind_forms, client_forms, number_forms, pass_forms}
use Rattle.schedule_text.specs.Faults.{IsFault, IsFaulty, HasFault}

-- what stands before the first byte of this value, and what follows it
pub record IsCut (bytes : List ℕ) (byte : ℕ) (front back : List ℕ) : Type 0 where
  pub is_whole : bytes ≡ front ++ byte ∷ back
  pub is_first : AllByRecursion (λ other. other ≢ byte) front

-- What was found is right and has these bytes as its text; or nothing right has them.
abbrev pub Reads : {A : Type 0} → (A → Type 0) → (A → List ℕ) → List ℕ → Option A → Type 0
Reads {A} is_right text bytes found =
    MatchOption found ((value : A) → is_right value → bytes ≢ text value) (λ value. is_right value × (bytes ≡ text value))

-- a fault of a word in a place of a form
abbrev pub IsSlotFault : Slot → List ℕ → LineFault → Type 0
IsSlotFault slot word (Bad reason) = IsFaulty slot word reason
IsSlotFault slot word NoMemory = Unit {0}

-- a fault of words that fit a form
abbrev pub IsFormFault : List Slot → List (List ℕ) → LineFault → Type 0
IsFormFault form words (Bad reason) = HasFault form words reason
IsFormFault form words NoMemory = Unit {0}

-- a fault of words where some forms may stand
abbrev pub IsFaultIn : List (List Slot) → List (List ℕ) → LineFault → Type 0
IsFaultIn forms words (Bad reason) = IsFault forms words reason
IsFaultIn forms words NoMemory = Unit {0}

-- a fault of words in their place
abbrev pub IsFaultThere : (List (List ℕ) → LineReason → Type 0) → List (List ℕ) → LineFault → Type 0
IsFaultThere at_fault words (Bad reason) = at_fault words reason
IsFaultThere at_fault words NoMemory = Unit {0}

-- What was read is right, and its words after some others are these; or they are at fault where some forms may stand.
abbrev pub IsReading :
    {A : Type 0} → List (List ℕ) → List (List Slot) → (A → Type 0) → (A → List (List ℕ)) → List (List ℕ)
    → Result A LineFault → Type 0
IsReading front forms is_right spelled words result =
    MatchResult result (λ value. is_right value × (front ++ words ≡ spelled value)) (λ fault. IsFaultIn forms words fault)

-- a line does not begin with a word and a space
abbrev pub BeginsOther : List ℕ → List ℕ → Type 0
BeginsOther line word = (rest : List ℕ) → line ≢ word ++ 32 ∷ rest

-- the first word of an event
abbrev pub verb_word : Verb → List ℕ
verb_word Edit = codes "edit"
verb_word Cut = codes "cut"
verb_word Turn = codes "turn"
verb_word Gather = codes "gather"
verb_word Post = codes "post"
verb_word Ask = codes "ask"
verb_word Offer = codes "offer"
verb_word Lose = codes "lose"
verb_word Crash = codes "crash"
verb_word Deliver = codes "deliver"
verb_word Answer = codes "answer"
verb_word SetPass = codes "setpass"
verb_word GivePass = codes "givepass"

-- the first words of all events
abbrev pub verbs : List Verb
verbs = Edit ∷ Cut ∷ Turn ∷ Gather ∷ Post ∷ SetPass ∷ GivePass ∷ Ask ∷ Offer ∷ Lose ∷ Crash ∷ Deliver ∷ Answer ∷ []

-- the forms of what follows the first word of an event
abbrev pub forms_after_verb : ℕ → ℕ → Verb → List (List Slot)
forms_after_verb clients passes Edit = after_slot (Between 1 clients) change_forms
forms_after_verb clients passes Cut = after_slot (Between 1 clients) kept_forms
forms_after_verb clients passes Turn = after_slot (Between 1 clients) kind_forms
forms_after_verb clients passes Gather = after_slot (Between 1 clients) kind_forms
forms_after_verb clients passes Post = after_slot (Between 1 clients) kind_forms
forms_after_verb clients passes Ask = client_forms clients
forms_after_verb clients passes Offer = client_forms clients
forms_after_verb clients passes Lose = client_forms clients
forms_after_verb clients passes Crash = client_forms clients
forms_after_verb clients passes Deliver = number_forms
forms_after_verb clients passes Answer = number_forms
forms_after_verb clients passes SetPass = pass_forms clients passes
forms_after_verb clients passes GivePass = pass_forms clients passes

-- a fault of a line as one of a text
abbrev pub fault_at : ℕ → LineFault → ParseFault
fault_at line (Bad reason) = BadLine line reason
fault_at line NoMemory = WantsMemory

-- a fault of the line after so many lines
abbrev pub IsFaultNext : (List (List ℕ) → LineReason → Type 0) → ℕ → List (List ℕ) → ParseFault → Type 0
IsFaultNext at_fault lines words (BadLine line reason) = (line ≡ lines + 1) × at_fault words reason
IsFaultNext at_fault lines words WantsMemory = Unit {0}

-- a fault that is told before that of a number in front: that of the form, and want of memory
abbrev pub early_fault : {A : Type 0} → Result A LineFault → Option LineFault
early_fault (Ok value) = None
early_fault (Err NoMemory) = Some NoMemory
early_fault (Err (Bad Form)) = Some (Bad Form)
early_fault (Err (Bad reason)) = None
