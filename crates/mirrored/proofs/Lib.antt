-- Counts (a row in file order has what the definition's row has), Lengths (so it is as long), Rising (the definition's rows rise), Rows (placed and
-- sorted, the lists are the definition's), Graph (which is valid and symmetric).
pub mod Counts
pub mod Lengths
pub mod Rising
pub mod Rows
pub mod Sizes
pub mod Graph
