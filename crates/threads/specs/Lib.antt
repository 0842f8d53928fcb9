-- What a chunk call of a held run reads and writes.
pub mod Owned
