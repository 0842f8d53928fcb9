-- The theorems (Theorems, Cases), and the laws that they rest on: the reader's on lines behind the size line (Bodies), up to it (Heads) and on
-- all (Files), and that right fronts go on (Cells: a triangle has room; Texts: an entry's line; Plain: lines of a text; Continued).
pub mod Entries
pub mod Plain
pub mod Bodies
pub mod Heads
pub mod Files
pub mod Cells
pub mod Texts
pub mod Continued
pub mod Theorems
pub mod Cases
