use Rattle.client_tags.proofs.hash.are_hash_bytes.Goals as goal

pub returns : goal.returns
returns c = record { has_20 = c.told-bytes; are_bytes = c.fits-bytes }
