-- `chebyshev_rayleigh_ritz`: start block, filter, Ritz step, bound and rounds. Definitions only.
use Rattle.std.specs.Prelude.{Bool, true, false, not, cond, ◌&&◌, ◌||◌, List, [], ℕ, zero, suc, ◌+◌, ◌-◌, ◌*◌, ltb, get_or}
use Rattle.definition.specs.Arith.{Arith, is_number}
use Rattle.definition.specs.Numbers.{Params, width}
use Rattle.definition.specs.ChunkedColumnReduce.{Vector, Block, sum_up, chunked_sum}
use Rattle.definition.specs.MatvecCombine.{Operator, Multipliers, matvec_combine}
use Rattle.definition.specs.OrthonormalizeBlock.{Basis, orthonormalize_block}
use Rattle.definition.specs.JacobiEigen.{Matrix, Eigen, symmetrized, jacobi_eigen}
use Rattle.definition.specs.Arrange.{arranged_by}

module _ (A : Arith) where
  -- `splitmix_unit(0)` onward
  unfoldable pub start_block : ℕ → Block A
  start_block k i c = A.start (i * k + c)

  -- ---- the filter's numbers for a bound b
  -- t1 = (2 - b)/b
  unfoldable pub t1 : A.F → A.F
  t1 b = A.div (A.sub A.two b) b

  -- alpha = 1/t1, then 1/(2 x t1 - alpha)
  unfoldable pub first_alpha : A.F → A.F
  first_alpha b = A.div A.one (t1 b)

  unfoldable pub next_alpha : A.F → A.F → A.F
  next_alpha b alpha = A.div A.one (A.sub (A.mul A.two (t1 b)) alpha)

  -- the multipliers of the first pass, of a later one whose alpha follows `alpha`, and of the plain pass
  unfoldable pub first_multipliers : A.F → A.F → Multipliers A
  first_multipliers b alpha = record { of_mv = A.div (A.mul A.two alpha) b; of_v = A.neg alpha; of_prev = A.zero }

  unfoldable pub later_multipliers : A.F → A.F → A.F → Multipliers A
  later_multipliers b alpha following = record {
    of_mv = A.div (A.mul (A.mul A.two A.two) following) b;
    of_v = A.mul (A.neg A.two) following;
    of_prev = A.mul (A.neg following) alpha;
  }

  unfoldable pub plain_multipliers : Multipliers A
  plain_multipliers = record { of_mv = A.one; of_v = A.zero; of_prev = A.zero }

  -- ---- the filter
  pub record Filtering : Type 0 where
    pub current : Block A
    pub previous : Block A
    pub alpha : A.F

  unfoldable pub first_pass : Operator A → A.F → Block A → Filtering
  first_pass op b v = record {
    current = matvec_combine A op (first_multipliers b (first_alpha b)) v v;
    previous = v;
    alpha = first_alpha b;
  }

  unfoldable pub later_pass : Operator A → A.F → Filtering → Filtering
  later_pass op b s = record {
    current = matvec_combine A op (later_multipliers b s.alpha (next_alpha b s.alpha)) s.current s.previous;
    previous = s.current;
    alpha = next_alpha b s.alpha;
  }

  -- m later passes
  unfoldable pub passes_from : Operator A → A.F → ℕ → Filtering → Filtering
  passes_from op b zero s = s
  passes_from op b (suc m) s = passes_from op b m (later_pass op b s)

  unfoldable pub filtered : Operator A → A.F → ℕ → Block A → Block A
  filtered op b degree v = (passes_from op b (degree - 1) (first_pass op b v)).current

  -- ---- Ritz values
  unfoldable pub products : ℕ → Block A → Block A → Matrix A
  products n v w p q = chunked_sum A n (λ i. A.mul (v i p) (w i q))

  -- falling, NaN last; ties (zeros of both signs tie) by lower index
  unfoldable pub ahead : A.F → A.F → Bool
  ahead x y = A.lt y x || (is_number A x && not (is_number A y))

  unfoldable pub ritz_order : ℕ → Vector A → List ℕ
  ritz_order k value = arranged_by ahead value k

  abbrev pub ritz_value : Matrix A → Vector A
  ritz_value b p = b p p

  -- the value at place j of the Ritz order
  unfoldable pub falling_value : ℕ → Vector A → ℕ → A.F
  falling_value k value j = value (get_or (ritz_order k value) j 0)

  -- raised to 0.1 and lowered to 0.9995; NaN becomes 0.1
  unfoldable pub next_bound : A.F → A.F
  next_bound x = cond (A.lt A.bound_least x) (cond (A.lt x A.bound_most) x A.bound_most) A.bound_least

  -- the value at place D + 1, counted from 0
  unfoldable pub cut_value : ℕ → Vector A → List ℕ → A.F
  cut_value d value order = value (get_or order (d + 1) 0)

  -- unless it is the last round
  unfoldable pub bound_after : ℕ → ℕ → ℕ → A.F → Vector A → List ℕ → A.F
  bound_after d rounds round b value order = cond (ltb (round + 1) rounds) (next_bound (cut_value d value order)) b

  -- ---- rounds
  pub record Solving : Type 0 where
    pub basis : Basis A
    pub bound : A.F
    pub vectors : Matrix A
    pub order : List ℕ

  -- the round's end: the Ritz order and the next bound
  unfoldable pub ritz_step : ℕ → ℕ → ℕ → A.F → Basis A → Eigen A → Solving
  ritz_step d rounds round b basis e =
      let order = ritz_order (width d) (ritz_value e.matrix) in
      record { basis = basis; bound = bound_after d rounds round b (ritz_value e.matrix) order; vectors = e.vectors; order = order }

  -- dimensions, rounds and degree, n rows, the operator and v0
  module _ (d : ℕ) (params : Params) (n : ℕ) (op : Operator A) (v0 : Vector A) where
    -- what a round's filter hands to orthonormalizing, with the counts so far
    unfoldable pub filtered_basis : Solving → Basis A
    filtered_basis s = record {
      block = filtered op s.bound params.degree s.basis.block;
      refreshed = s.basis.refreshed;
      zeroed = s.basis.zeroed;
    }

    unfoldable pub round_basis : ℕ → Solving → Basis A
    round_basis round s = orthonormalize_block A n (width d) v0 round (filtered_basis s)

    -- one plain pass, products, symmetrize, Jacobi
    unfoldable pub round_eigen : Block A → Eigen A
    round_eigen v = jacobi_eigen A (width d) (symmetrized A (products n v (matvec_combine A op plain_multipliers v v)))

    unfoldable pub round_step : ℕ → Solving → Solving
    round_step round s = ritz_step d params.rounds round s.bound (round_basis round s) (round_eigen (round_basis round s).block)

    -- m rounds from a round on
    unfoldable pub rounds_from : ℕ → ℕ → Solving → Solving
    rounds_from zero round s = s
    rounds_from (suc m) round s = rounds_from m (suc round) (round_step round s)

    unfoldable pub begun : Solving
    begun = record {
      basis = record { block = start_block (width d); refreshed = 0; zeroed = 0 };
      bound = A.bound_first;
      vectors = λ p q. A.zero;
      order = [];
    }

    unfoldable pub solved : Solving
    solved = rounds_from params.rounds 0 begun

    -- ---- the record of a run: round r's k + 1 numbers, from round 0 on
    -- the bound that the round's filter used, then all its Ritz values in the Ritz order
    unfoldable pub round_record : ℕ → Solving → ℕ → A.F
    round_record round s zero = s.bound
    round_record round s (suc j) = falling_value (width d) (ritz_value (round_eigen (round_basis round s).block).matrix) j

    unfoldable pub record_at : ℕ → ℕ → A.F
    record_at round j = round_record round (rounds_from round 0 begun) j

  -- the basis turned onto the Ritz vectors
  unfoldable pub rotated : ℕ → Block A → Matrix A → List ℕ → Block A
  rotated k v vectors order i d = sum_up A (λ p. A.mul (v i p) (vectors p (get_or order d 0))) 0 k
