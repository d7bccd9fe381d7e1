pub mod KeyOrder
pub mod SlotLemmas
pub mod EntryLemmas
pub mod CopyLemmas
pub mod StoreLemmas
pub mod RowLemmas
pub mod ChangeLemmas
