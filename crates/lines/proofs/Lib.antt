-- Laws for the proofs of this crate's functions: Runs (the bytes up to where something ends), Ends (where a line ends), Words (the words of a
-- line), Numbers (words as numbers, and what a line says), Plain (a line with just two numbers and one blank between them), Banners (words that
-- are given ones, and the banner), Cases (the definitions at work).
pub mod Runs
pub mod Ends
pub mod Words
pub mod Numbers
pub mod Plain
pub mod Banners
pub mod Cases
