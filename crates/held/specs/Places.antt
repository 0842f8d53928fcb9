-- Lists in memory: what a list is when a set of its places is filled. Definitions only.
use Rattle.std.specs.Prelude.{Bool, cond, List, ℕ}
use Rattle.definition.specs.Memory.{map_from}

-- xs with the places that pass the test s holding f of the place
unfoldable pub fill_where : {E : Type 0} → (ℕ → Bool) → (ℕ → E) → List E → List E
fill_where s f xs = map_from 0 (λ i x. cond (s i) (f i) x) xs
