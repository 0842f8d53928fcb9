-- What the contracts of `blocks` say beyond the machine's own words.
pub mod Chosen
