-- What the theorems and the writer's contract cite.
pub mod RunText
pub mod RoundTrip
