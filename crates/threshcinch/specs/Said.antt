-- How much memory a run asks for, as a host is told it before it has any. Definitions only.
use Rattle.std.specs.Prelude.{cond, ◌||◌, List, ℕ, ltb, replicate}
use Rattle.definition.specs.Numbers.{rows_most, entries_most, lent_sizes, lent_count}
use Rattle.definition.specs.Refusals as definition

-- 1, 2, 3 or 8, as the opening would refuse a graph of n rows and m entries in d dimensions for so many rounds
unfoldable pub test_sizes : ℕ → ℕ → ℕ → ℕ → definition.Verdict
test_sizes d rounds n m =
    definition.or_else (definition.test_dims d)
    (definition.or_else (definition.given (ltb n 1) 2 0)
    (definition.or_else (definition.given (ltb rows_most n || ltb entries_most m) 3 0) (definition.test_rounds rounds)))

-- the eleven sizes, or zeros with a refusal
unfoldable pub sizes_by : definition.Verdict → ℕ → ℕ → ℕ → ℕ → List ℕ
sizes_by v d rounds n m = cond (definition.passes v) (lent_sizes d rounds n m) (replicate lent_count 0)
