pub mod PassKinds
