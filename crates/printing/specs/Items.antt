-- Items by commas, and what the functions that put a text leave. Definitions only.
use Rattle.std.specs.Prelude.{List, [], ◌∷◌, ◌++◌, ◌≡◌, ℕ, zero, suc, ◌+◌, ◌≤◌, length}
use Rattle.digits.specs.Placed.{put}

-- item i of a line, by its text: behind a comma unless it is the first
unfoldable pub item_text : ℕ → List ℕ → List ℕ
item_text zero text = text
item_text (suc i) text = 44 ∷ text

-- items by commas, by the text of each
unfoldable pub joined_by : {A : Type 0} → (A → List ℕ) → List A → List ℕ
joined_by text [] = []
joined_by text (x ∷ []) = text x
joined_by text (x ∷ y ∷ xs) = text x ++ (44 ∷ joined_by text (y ∷ xs))

-- the place behind the text, and every byte
abbrev pub Puts : List ℕ → ℕ → List ℕ → ℕ → List ℕ → Type 0
Puts text at out next after = (next ≡ at + length text) × (after ≡ put text at out)

-- there is room for the text
abbrev pub Room : List ℕ → ℕ → List ℕ → Type 0
Room text at out = at + length text ≤ length out
