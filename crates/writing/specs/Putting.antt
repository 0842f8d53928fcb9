-- The lines that the inner functions of the writer put. Definitions only.
use Rattle.std.specs.Prelude.{List, [], ◌∷◌, ◌++◌, ℕ}
use Rattle.definition.specs.Numbers.{Params}
use Rattle.printing.specs.Items.{joined_by}
use Rattle.reading.specs.Grammar.{text_up_to}
use Rattle.files.specs.RunText.{numbers_of}

-- a line of items, by the text of each
abbrev pub line_by : {A : Type 0} → (A → List ℕ) → List ℕ → List A → List ℕ
line_by text name xs = name ++ (joined_by text xs ++ (10 ∷ []))

-- lines 1 to 4
unfoldable pub head_text : ℕ → Params → List ℕ
head_text d params = text_up_to (numbers_of d params [] [] []) 4
