-- Document 01 as definitions, in its order. The laws about them stand in proofs/.
pub mod Arith
pub mod Numbers
pub mod Refusals
pub mod Root
pub mod SplitmixUnit
pub mod ChunkedColumnReduce
pub mod MatvecCombine
pub mod OrthonormalizeBlock
pub mod JacobiEigen
pub mod Arrange
pub mod ChebyshevRayleighRitz
pub mod SpectralEmbedding
pub mod Memory
pub mod Requirements
pub mod Marks
pub mod Cases
