pub mod KeyLemmas
pub mod OneThing
pub mod TextsRead
pub mod LoginsRead
pub mod SpecificsInside
pub mod KeysRead
pub mod BagsRead
pub mod SaidExtras
