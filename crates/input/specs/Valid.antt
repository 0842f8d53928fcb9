-- What a request that passes the tests has shown: what a run may rest on. Definitions only; `proofs.Accepted` shows them of every accepted request.
use Rattle.std.specs.Prelude.{◌≡◌, true, List, ℕ, ◌-◌, ◌≤◌, ◌<◌, length, get_or}
use Rattle.std.specs.Float.Ieee.{lt, of_bits}
use Rattle.std.specs.Float.{binary64}
use Rattle.definition.specs.Arith.{Arith, is_finite}
use Rattle.definition.specs.Numbers.{Params, dims_most, rows_most, entries_most, rounds_most, degree_most, lent_size, lent_count}
use Rattle.definition.specs.Requirements.{Starts, Columns}

pub record ValidParams (p : Params) : Type 0 where
  pub rounds-least : 1 ≤ p.rounds
  pub rounds-most : p.rounds ≤ rounds_most
  pub degree-least : 1 ≤ p.degree
  pub degree-most : p.degree ≤ degree_most
  pub positive : lt (of_bits binary64 0) p.seed_std ≡ true
  pub finite : is_finite p.seed_std ≡ true

module _ (A : Arith) where
  pub record ValidGraph (starts columns : List ℕ) (values : List A.F) : Type 0 where
    pub rows-least : 1 ≤ length starts - 1
    pub rows-most : length starts - 1 ≤ rows_most
    pub entries-most : length columns ≤ entries_most
    pub lengths : length columns ≡ length values
    pub first : get_or starts 0 0 ≡ 0
    pub last : get_or starts (length starts - 1) 0 ≡ length columns
    pub rising : Starts starts 0 (length starts - 1) (length columns)
    pub below : Columns columns 0 (length columns) (length starts - 1)
    pub finite : (e : ℕ) → e < length values → A.finite (get_or values e A.none) ≡ true

  pub record ValidRequest (d : ℕ) (p : Params) (starts columns : List ℕ) (values : List A.F) (lent : ℕ → ℕ) : Type 0 where
    pub dims-least : 1 ≤ d
    pub dims-most : d ≤ dims_most
    pub graph : ValidGraph starts columns values
    pub params : ValidParams p
    pub enough : (j : ℕ) → j < lent_count → lent_size d p.rounds (length starts - 1) (length columns) j ≤ lent j
