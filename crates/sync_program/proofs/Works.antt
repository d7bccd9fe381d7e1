-- Each command gives one output at most of an input, or one refusal.
use Rattle.std.proofs.Common.{◌≡◌, Bool, true, false, refl, sym, ap, subst, ◌∙◌}
use Rattle.std.specs.Prelude.{◌↔◌, IsTrue, Result, Ok, Err}
use Rattle.message_fields.specs.declared.fault.MessageFault.{MessageFault}
use Rattle.message_text.specs.declared.message.WireMessage.{WireMessage}
use Rattle.message_text.specs.Messages.{canonical_bytes}
use Rattle.message_text.specs.Laws.{SayOneMessage}
use Rattle.schedule_text.specs.Laws.{SpellsOneSchedule, RefusesOneLine, RefusesNoSchedule}
use Rattle.sync_program.specs.declared.command.WireCommand.{WireCommand}
use Rattle.sync_program.specs.Texts.{bad_schedule_line, bad_message_line}
use Rattle.sync_program.specs.Work.{IsDetermined}
use Rattle.sync_program.specs.Replay.{report_of, replaying}
use Rattle.sync_program.specs.Wire.{look_text, looking}

-- a text has one report at most, or is refused at one line
pub replaying-IsDetermined : SpellsOneSchedule → RefusesOneLine → RefusesNoSchedule → IsDetermined replaying
replaying-IsDetermined spells refuses neither = record {
  one_output = λ input output other one two.
      one.is_report ∙ ap report_of (spells input one.schedule two.schedule one.spells two.spells) ∙ sym two.is_report;
  one_refusal = λ input line other one two.
      one.says_so ∙ ap (λ number. bad_schedule_line number one.reason)
      (refuses input one.number two.number one.reason two.reason one.is_refused two.is_refused).0
      ∙ ap (λ reason. bad_schedule_line two.number reason)
      (refuses input one.number two.number one.reason two.reason one.is_refused two.is_refused).1 ∙ sym two.says_so;
  not_both = λ input output line one two. neither input one.schedule two.number two.reason one.spells two.is_refused;
}

-- the message that is said
abbrev message_in : WireMessage → Result WireMessage MessageFault → WireMessage
message_in other (Ok message) = message
message_in other (Err fault) = other

-- the fault that is said
abbrev fault_in : MessageFault → Result WireMessage MessageFault → MessageFault
fault_in other (Ok message) = other
fault_in other (Err fault) = fault

-- a message is no fault
message_is_no_fault : (message : WireMessage) (fault : MessageFault) → Ok message ≡ Err fault → ⊥
message_is_no_fault message fault same = cc

-- two flags that mean the same are equal
same_flag : (one two : Bool) (P : Type 0) → IsTrue one ↔ P → IsTrue two ↔ P → one ≡ two
same_flag true true P is_one is_two = refl
same_flag true false P is_one is_two = sym (is_two.1 (is_one.0 refl))
same_flag false true P is_one is_two = is_one.1 (is_two.0 refl)
same_flag false false P is_one is_two = refl

-- bytes are one message at most, or have one fault
pub looking-IsDetermined : SayOneMessage → (command : WireCommand) → IsDetermined (looking command)
looking-IsDetermined says command = record {
  one_output = λ bytes output other one two.
      let same : one.message ≡ two.message =
      ap (message_in one.message) (says command.direction bytes (Ok one.message) (Ok two.message) one.says two.says) in
      let P : WireMessage → Type 0 = λ message. IsTrue one.canonical ↔ (bytes ≡ canonical_bytes message) in
      let flags : one.canonical ≡ two.canonical =
      same_flag one.canonical two.canonical (bytes ≡ canonical_bytes two.message) (subst P same one.is_canonical) two.is_canonical in
      one.is_output ∙ ap (λ message. look_text command.look message one.canonical) same
      ∙ ap (λ flag. look_text command.look two.message flag) flags ∙ sym two.is_output;
  one_refusal = λ bytes line other one two.
      one.says_so ∙ ap bad_message_line
      (ap (fault_in one.fault) (says command.direction bytes (Err one.fault) (Err two.fault) one.says two.says)) ∙ sym two.says_so;
  not_both = λ bytes output line one two.
      message_is_no_fault one.message two.fault (says command.direction bytes (Ok one.message) (Err two.fault) one.says two.says);
}
