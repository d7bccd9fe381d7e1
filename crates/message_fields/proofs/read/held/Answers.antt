use Rattle.std.proofs.Common.{◌+◌, ◌-◌, length, slice_range, sym, subst}
use Rattle.message_fields.specs.declared.field.Held.TheVariants.{Eight, Bytes, Group, Four}
use Rattle.wire_format.specs.declared.field.Payload.TheVariants.{Eight as EightPayload, Bytes as BytesPayload, Group as GroupPayload, Four as FourPayload}
use Rattle.wire_format.specs.Fields.{IsField}
use Rattle.message_fields.specs.Fields.{Holds}
use Rattle.message_fields.proofs.PartLemmas.{bytes_held_at_end, group_held_inside, eight_held_at_end, four_held_at_end}
use Rattle.message_fields.proofs.read.held.Goals as goal

pub returns-in-Bytes : goal.returns-in-Bytes
returns-in-Bytes c =
    let part = slice_range c.args.input.now c.args.at c.args.end in
    let found : IsField part c.args.number (BytesPayload c.in-Bytes.content)
    = subst (IsField part c.args.number) c.in-Bytes.is c.requires.is_field in
    subst (λ payload. Holds c.args.input.now c.args.at c.args.end c.args.number payload (Bytes (record { begin = c.args.end - length c.in-Bytes.content.now; end = c.args.end }))) (sym c.in-Bytes.is)
    (bytes_held_at_end c.args.input.now c.args.at c.args.end c.args.number c.in-Bytes.content c.requires.before c.requires.within found)

pub returns-in-Group : goal.returns-in-Group
returns-in-Group c =
    let part = slice_range c.args.input.now c.args.at c.args.end in
    let found : IsField part c.args.number (GroupPayload c.in-Group.content)
    = subst (IsField part c.args.number) c.in-Group.is c.requires.is_field in
    subst (λ payload. Holds c.args.input.now c.args.at c.args.end c.args.number payload (Group (record { begin = c.args.at + c.varint_len.result; end = c.args.at + c.varint_len.result + length c.in-Group.content.now }))) (sym c.in-Group.is)
    (group_held_inside c.args.input.now c.args.at c.args.end c.args.number c.varint_len.result c.in-Group.content c.requires.before c.requires.within found c.varint_len.ensures)

pub returns-in-Eight : goal.returns-in-Eight
returns-in-Eight c =
    let part = slice_range c.args.input.now c.args.at c.args.end in
    let found : IsField part c.args.number (EightPayload c.in-Eight.field-0)
    = subst (IsField part c.args.number) c.in-Eight.is c.requires.is_field in
    subst (λ payload. Holds c.args.input.now c.args.at c.args.end c.args.number payload (Eight (record { begin = c.args.end - 8; end = c.args.end }))) (sym c.in-Eight.is)
    (eight_held_at_end c.args.input.now c.args.at c.args.end c.args.number c.in-Eight.field-0 c.requires.before c.requires.within found).1

pub overflow_sub-result-in-Eight : goal.overflow_sub-result-in-Eight
overflow_sub-result-in-Eight c =
    let part = slice_range c.args.input.now c.args.at c.args.end in
    let found : IsField part c.args.number (EightPayload c.in-Eight.field-0)
    = subst (IsField part c.args.number) c.in-Eight.is c.requires.is_field in
    (eight_held_at_end c.args.input.now c.args.at c.args.end c.args.number c.in-Eight.field-0 c.requires.before c.requires.within found).0

pub returns-in-Four : goal.returns-in-Four
returns-in-Four c =
    let part = slice_range c.args.input.now c.args.at c.args.end in
    let found : IsField part c.args.number (FourPayload c.in-Four.field-0)
    = subst (IsField part c.args.number) c.in-Four.is c.requires.is_field in
    subst (λ payload. Holds c.args.input.now c.args.at c.args.end c.args.number payload (Four (record { begin = c.args.end - 4; end = c.args.end }))) (sym c.in-Four.is)
    (four_held_at_end c.args.input.now c.args.at c.args.end c.args.number c.in-Four.field-0 c.requires.before c.requires.within found).1

pub overflow_sub-result-in-Four : goal.overflow_sub-result-in-Four
overflow_sub-result-in-Four c =
    let part = slice_range c.args.input.now c.args.at c.args.end in
    let found : IsField part c.args.number (FourPayload c.in-Four.field-0)
    = subst (IsField part c.args.number) c.in-Four.is c.requires.is_field in
    (four_held_at_end c.args.input.now c.args.at c.args.end c.args.number c.in-Four.field-0 c.requires.before c.requires.within found).0
