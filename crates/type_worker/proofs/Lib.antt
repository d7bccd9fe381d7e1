mod Opened
mod Batched
mod Settled
mod Held
mod LockLemmas
mod Drawn
mod SentLemmas
mod SealedTexts
