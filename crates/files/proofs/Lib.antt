-- The theorems on run files that are written, and laws for the writer: Sized (what passes 17) and Fits (how long a text is).
pub mod Sized
pub mod Floats
pub mod Fits
pub mod RoundTrip
