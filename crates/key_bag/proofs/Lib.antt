pub mod Names
mod Bagged
mod Exact
mod LawLemmas
