pub mod LentHash
