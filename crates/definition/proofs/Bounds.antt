-- Every next bound lies in [0.1, 0.9995], and every alpha of the recurrence in (0, 1), for any number of passes, at both formats.
-- Assumes nothing.
use mathlib.Core.Bool.{Bool, true, false, cond}
use mathlib.Core.List.{List}
use Prim.Native.Nat.{ℕ, zero, suc, ◌+◌, ◌*◌, zero-le}
use native.Mathlib.Nat.{lt_of_le_of_lt}
use lib.Dec.{T, ltb, ltb→lt, lt→ltb}
use lib.IntN.{pos}
use lib.Ieee.{Float, nan, inf, fin, up, down, round, Format, binary32, binary64, of_bits, sub, mul, div, lt, le}
use lib.Ieee.Positive.{num, den, first_pos, positive, mul_mono, sub_anti, between}
use Rattle.definition.specs.Arith.{ieee}
use Rattle.definition.specs.Numbers.{Params}
use Rattle.definition.specs.ChebyshevRayleighRitz.{t1, first_alpha, next_alpha, next_bound, Filtering, first_pass, later_pass, passes_from, Solving, cut_value, bound_after, ritz_step, round_step, rounds_from}
use Rattle.definition.specs.ChunkedColumnReduce.{Vector, Block}
use Rattle.definition.specs.MatvecCombine.{Operator}
use Rattle.definition.proofs.FloatOrder.{lt→le, le_trans_all, le_lt_trans, lt-le_trans}
use Rattle.definition.proofs.Divide.{div_mono, sub_mono, sub-under}

-- z is from lo to hi
abbrev pub In : Float → Float → Float → Type 0
In lo hi z = T (le lo z) × T (le z hi)

-- a bound that is allowed, and a number strictly between 0 and 1
abbrev pub Bounded : Format → Float → Type 0
Bounded f b = In (ieee f).bound_least (ieee f).bound_most b

abbrev pub Unitary : Format → Float → Type 0
Unitary f a = T (lt (ieee f).zero a) × T (lt a (ieee f).one)

-- ---- the next bound

clamp_within : (lo hi x : Float) → T (le lo lo) → T (le lo hi) → T (le hi hi) → In lo hi (cond (lt lo x) (cond (lt x hi) x hi) lo)
clamp_within lo hi x p q r = go (lt lo x) (lt x hi) (lt→le lo x) (lt→le x hi)
  where
    go : (a b : Bool) → (T a → T (le lo x)) → (T b → T (le x hi)) → In lo hi (cond a (cond b x hi) lo)
    go true true h k = (h tt, k tt)
    go true false h k = (q, r)
    go false b h k = (p, q)

-- ---- the values at the ends, which compute
module _ (f : Format) where
  abbrev one : Float
  one = (ieee f).one

  abbrev two : Float
  two = (ieee f).two

  abbrev least : Float
  least = (ieee f).bound_least

  abbrev most : Float
  most = (ieee f).bound_most

  abbrev s_lo : Float
  s_lo = sub f two most

  abbrev s_hi : Float
  s_hi = sub f two least

  abbrev t_lo : Float
  t_lo = div f s_lo most

  abbrev t_hi : Float
  t_hi = div f s_hi least

  abbrev m_lo : Float
  m_lo = mul f two t_lo

  abbrev m_hi : Float
  m_hi = mul f two t_hi

  -- the least and the most of 2 x t1 - alpha, for an alpha from 0 to 1
  abbrev d_lo : Float
  d_lo = sub f m_lo one

  abbrev d_hi : Float
  d_hi = round f false (num m_hi) (den m_hi)

record Ends (f : Format) : Type 0 where
  least-least : T (le (least f) (least f))
  least-most : T (le (least f) (most f))
  most-most : T (le (most f) (most f))
  one-one : T (le (one f) (one f))
  two-two : T (le (two f) (two f))
  p_one : T (positive (one f))
  p_two : T (positive (two f))
  p_least : T (positive (least f))
  p_most : T (positive (most f))
  most-two : T (le (most f) (two f))
  p_s_lo : T (positive (s_lo f))
  p_s_hi : T (positive (s_hi f))
  p_t_lo : T (positive (t_lo f))
  p_t_hi : T (positive (t_hi f))
  p_m_lo : T (positive (m_lo f))
  p_m_hi : T (positive (m_hi f))
  one-m_lo : T (le (one f) (m_lo f))
  p_d_lo : T (positive (d_lo f))
  p_d_hi : T (positive (d_hi f))
  first-over : T (lt (ieee f).zero (div f (one f) (t_hi f)))
  first_under : T (lt (div f (one f) (t_lo f)) (one f))
  next-over : T (lt (ieee f).zero (div f (one f) (d_hi f)))
  next_under : T (lt (div f (one f) (d_lo f)) (one f))

ends : (f : Format) → Ends f
unfolding of_bits sub mul div round le lt
ends binary32 = record { least-least = tt; least-most = tt; most-most = tt; one-one = tt; two-two = tt; p_one = tt; p_two = tt; p_least = tt; p_most = tt; most-two = tt; p_s_lo = tt; p_s_hi = tt; p_t_lo = tt; p_t_hi = tt; p_m_lo = tt; p_m_hi = tt; one-m_lo = tt; p_d_lo = tt; p_d_hi = tt; first-over = tt; first_under = tt; next-over = tt; next_under = tt }
ends binary64 = record { least-least = tt; least-most = tt; most-most = tt; one-one = tt; two-two = tt; p_one = tt; p_two = tt; p_least = tt; p_most = tt; most-two = tt; p_s_lo = tt; p_s_hi = tt; p_t_lo = tt; p_t_hi = tt; p_m_lo = tt; p_m_hi = tt; one-m_lo = tt; p_d_lo = tt; p_d_hi = tt; first-over = tt; first_under = tt; next-over = tt; next_under = tt }

pub bound-within : (f : Format) (x : Float) → Bounded f (next_bound (ieee f) x)
unfolding next_bound
bound-within f x = clamp_within (least f) (most f) x (ends f).least-least (ends f).least-most (ends f).most-most

-- the bound at opening, 0.75
pub bound-first : (f : Format) → Bounded f (ieee f).bound_first
unfolding of_bits le
bound-first binary32 = (tt, tt)
bound-first binary64 = (tt, tt)

-- ---- between the ends

inside : (lo hi z : Float) → T (positive lo) → T (positive hi) → In lo hi z → T (positive z)
inside lo hi z p q h = between lo z hi p q h.0 h.1

zero-positive : (a : Float) → T (lt (fin false 0 (pos 0)) a) → T (lt a (fin false 1 (pos 0))) → T (positive a)
unfolding lt
zero-positive nan h k = absurd h
zero-positive (inf true) h k = absurd h
zero-positive (inf false) h k = absurd k
zero-positive (fin true m e) h k = absurd h
zero-positive (fin false m e) h k = lt→ltb 0 m (first_pos m (up e) (first_pos (m * up e) 1 (lt_of_le_of_lt zero-le (ltb→lt (0 * down e) (m * up e * 1) h))))

unitary_positive : (f : Format) (a : Float) → Unitary f a → T (positive a)
unfolding of_bits
unitary_positive binary32 a u = zero-positive a u.0 u.1
unitary_positive binary64 a u = zero-positive a u.0 u.1

module _ (f : Format) (b : Float) (h : Bounded f b) where
  p_b : T (positive b)
  p_b = inside (least f) (most f) b (ends f).p_least (ends f).p_most h

  s_in : In (s_lo f) (s_hi f) (sub f (two f) b)
  s_in = (
    sub_anti f (two f) b (most f) (ends f).p_two p_b (ends f).p_most h.1 (ends f).most-two,
    sub_anti f (two f) (least f) b (ends f).p_two (ends f).p_least p_b h.0 (le_trans_all b (most f) (two f) h.1 (ends f).most-two),
  )

  t_in : In (t_lo f) (t_hi f) (t1 (ieee f) b)
  unfolding t1
  t_in =
      let s = sub f (two f) b in
      let p = inside (s_lo f) (s_hi f) s (ends f).p_s_lo (ends f).p_s_hi s_in in (
        div_mono f (s_lo f) s (most f) b (ends f).p_s_lo p (ends f).p_most p_b s_in.0 h.1,
        div_mono f s (s_hi f) b (least f) p (ends f).p_s_hi p_b (ends f).p_least s_in.1 h.0,
      )

  p_t : T (positive (t1 (ieee f) b))
  p_t = inside (t_lo f) (t_hi f) (t1 (ieee f) b) (ends f).p_t_lo (ends f).p_t_hi t_in

  -- 1 / y for y from lo to hi
  flip_in : (lo hi y : Float) → T (positive lo) → T (positive hi) → In lo hi y → In (div f (one f) hi) (div f (one f) lo) (div f (one f) y)
  flip_in lo hi y p q k =
      let r = inside lo hi y p q k in (
        div_mono f (one f) (one f) hi y (ends f).p_one (ends f).p_one q r (ends f).one-one k.1,
        div_mono f (one f) (one f) y lo (ends f).p_one (ends f).p_one r p (ends f).one-one k.0,
      )

  between_ends : (lo hi y : Float) → T (positive lo) → T (positive hi) → In lo hi y
      → T (lt (ieee f).zero (div f (one f) hi)) → T (lt (div f (one f) lo) (one f)) → Unitary f (div f (one f) y)
  between_ends lo hi y p q k over under =
      let w = flip_in lo hi y p q k in (
        lt-le_trans (ieee f).zero (div f (one f) hi) (div f (one f) y) over w.0,
        le_lt_trans (div f (one f) y) (div f (one f) lo) (one f) w.1 under,
      )

  pub first_unitary : Unitary f (first_alpha (ieee f) b)
  unfolding first_alpha
  first_unitary = between_ends (t_lo f) (t_hi f) (t1 (ieee f) b) (ends f).p_t_lo (ends f).p_t_hi t_in (ends f).first-over (ends f).first_under

  m_in : In (m_lo f) (m_hi f) (mul f (two f) (t1 (ieee f) b))
  m_in = (
    mul_mono f (two f) (two f) (t_lo f) (t1 (ieee f) b) (ends f).p_two (ends f).p_two (ends f).p_t_lo p_t (ends f).two-two t_in.0,
    mul_mono f (two f) (two f) (t1 (ieee f) b) (t_hi f) (ends f).p_two (ends f).p_two p_t (ends f).p_t_hi (ends f).two-two t_in.1,
  )

  p_m : T (positive (mul f (two f) (t1 (ieee f) b)))
  p_m = inside (m_lo f) (m_hi f) (mul f (two f) (t1 (ieee f) b)) (ends f).p_m_lo (ends f).p_m_hi m_in

  -- the step keeps the open interval, whatever alpha it begins with
  pub next_unitary : (a : Float) → Unitary f a → Unitary f (next_alpha (ieee f) b a)
  unfolding next_alpha
  next_unitary a u =
      let m = mul f (two f) (t1 (ieee f) b) in
      let p-a = unitary_positive f a u in
      let a_one = lt→le a (one f) u.1 in
      let one-m = le_trans_all (one f) (m_lo f) m (ends f).one-m_lo m_in.0 in
      let a-m = le_trans_all a (one f) m a_one one-m in
      between_ends (d_lo f) (d_hi f) (sub f m a) (ends f).p_d_lo (ends f).p_d_hi (
        le_trans_all (d_lo f) (sub f m (one f)) (sub f m a)
            (sub_mono f (m_lo f) m (one f) (ends f).p_m_lo p_m (ends f).p_one m_in.0 (ends f).one-m_lo)
            (sub_anti f m a (one f) p_m p-a (ends f).p_one a_one one-m),
        sub-under f m (m_hi f) a p_m (ends f).p_m_hi p-a m_in.1 a-m,
      ) (ends f).next-over (ends f).next_under

-- ---- every alpha of the filter

-- m later passes from any alpha in (0, 1)
pub passes_unitary : (f : Format) (op : Operator (ieee f)) (b : Float) → Bounded f b → (m : ℕ) (s : Filtering (ieee f)) → Unitary f s.alpha
    → Unitary f (passes_from (ieee f) op b m s).alpha
unfolding passes_from later_pass
passes_unitary f op b h zero s u = u
passes_unitary f op b h (suc m) s u = passes_unitary f op b h m (later_pass (ieee f) op b s) (next_unitary f b h s.alpha u)

pub filter_unitary : (f : Format) (op : Operator (ieee f)) (b : Float) → Bounded f b → (m : ℕ) (v : Block (ieee f))
    → Unitary f (passes_from (ieee f) op b m (first_pass (ieee f) op b v)).alpha
unfolding first_pass
filter_unitary f op b h m v = passes_unitary f op b h m (first_pass (ieee f) op b v) (first_unitary f b h)

-- ---- every bound of the rounds

pub after_bounded : (f : Format) (d rounds round : ℕ) (b : Float) (value : Vector (ieee f)) (order : List ℕ) → Bounded f b
    → Bounded f (bound_after (ieee f) d rounds round b value order)
unfolding bound_after
after_bounded f d rounds round b value order h = go (ltb (round + 1) rounds)
  where
    go : (t : Bool) → Bounded f (cond t (next_bound (ieee f) (cut_value (ieee f) d value order)) b)
    go true = bound-within f (cut_value (ieee f) d value order)
    go false = h

module _ (f : Format) (d : ℕ) (params : Params) (n : ℕ) (op : Operator (ieee f)) (v0 : Vector (ieee f)) where
  pub rounds_bounded : (m round : ℕ) (s : Solving (ieee f)) → Bounded f s.bound → Bounded f (rounds_from (ieee f) d params n op v0 m round s).bound
  unfolding rounds_from round_step ritz_step
  rounds_bounded zero round s h = h
  rounds_bounded (suc m) round s h =
      rounds_bounded m (suc round) (round_step (ieee f) d params n op v0 round s) (after_bounded f d params.rounds round s.bound _ _ h)
