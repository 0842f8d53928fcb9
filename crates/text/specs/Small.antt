-- What the text program answers for a graph: the seed with its counts, or a refusal. Definitions only.
use Rattle.std.specs.Prelude.{cond, List, [], ◌∷◌, ◌≡◌, ℕ, ◌+◌, ◌-◌, ◌*◌, ◌≤◌, ◌<◌, Float, length, get_or}
use Rattle.std.specs.Float.{nan}
use Rattle.definition.specs.Arith.{ieee64}
use Rattle.definition.specs.Numbers.{Params, lent_size}
use Rattle.definition.specs.Refusals.{Verdict, passes, test_request}
use Rattle.definition.specs.SpectralEmbedding.{Counts, graph_of, seed_at, counts}
use Rattle.printing.specs.Printed.{refusal_text, seed_text}

module _ (d : ℕ) (params : Params) (starts columns : List ℕ) (values : List Float) where
  -- refusals 1 to 10: the memory is as long as document 01 asks, so that 11 is not met
  unfoldable pub test_asked : Verdict
  test_asked = test_request ieee64 d params starts columns values (lent_size d params.rounds (length starts - 1) (length columns))

  abbrev pub seed_of : ℕ → ℕ → Float
  seed_of = seed_at ieee64 d params (graph_of ieee64 starts columns values)

  abbrev pub counts_of : Counts
  counts_of = counts ieee64 d params (graph_of ieee64 starts columns values)

  -- the seed with its counts, or the refusal
  abbrev pub answer_by : Verdict → List ℕ
  answer_by v = cond (passes v) (seed_text (length starts - 1) d counts_of seed_of) (refusal_text v.number v.place)

  unfoldable pub answer_of : List ℕ
  answer_of = answer_by test_asked

  -- what the one call has answered and left
  pub record Embeds (verdict : Verdict) (found : Counts) (output : List Float) : Type 0 where
    pub refused : (verdict.number ≡ 0 → ⊥) → verdict ≡ test_asked
    pub taken : verdict.number ≡ 0 → test_asked.number ≡ 0
    pub long : verdict.number ≡ 0 → (length starts - 1) * d ≤ length output
    pub counted : verdict.number ≡ 0 → found ≡ counts_of
    pub seeded : verdict.number ≡ 0 → (i c : ℕ) → i < length starts - 1 → c < d → get_or output (i * d + c) nan ≡ seed_of i c

-- the lengths of the program's own memory, 0 to 10: enough for 64 rows, 1,024 entries, 7 dimensions and 400 rounds
abbrev pub lengths : List ℕ
lengths = 64 ∷ 64 ∷ 1_024 ∷ 1_024 ∷ 960 ∷ 960 ∷ 960 ∷ 225 ∷ 1 ∷ 448 ∷ 6_400 ∷ []
