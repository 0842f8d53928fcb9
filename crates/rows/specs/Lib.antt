-- What the contracts of `rows` say beyond the definition's own words.
pub mod Pass
