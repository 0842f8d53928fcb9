-- The arithmetic that document 01 is written over: one record, with binary64 and binary32 as instances. Definitions only.
use Rattle.std.specs.Prelude.{Bool, true, false, ◌&&◌, ℕ, ◌*◌, pos, Float}
use Rattle.std.specs.Float.Ieee as Ieee
use Rattle.std.specs.Float.{Format, binary32, binary64, nan, inf, fin}
use Rattle.definition.specs.Root.{root_of}
use Rattle.definition.specs.SplitmixUnit.{splitmix_unit}

pub record Arith : Type 1 where
  pub F : Type 0
  -- what a read past the end gives, in the logic: no code reads there
  pub none : F
  pub zero : F
  pub half : F
  pub one : F
  pub two : F
  -- 1e-12: what a root must exceed for its row to be no isolated one, and that row's inverse weight otherwise
  pub weight_floor : F
  -- 1e-30: what a column's standard deviation must exceed to be scaled
  pub spread_floor : F
  -- the bound of the filter: 0.75 at first, then from 0.1 to 0.9995
  pub bound_first : F
  pub bound_least : F
  pub bound_most : F
  -- the width's epsilon, 2^-52 at binary64, and its root, the limit of the collapse test
  pub epsilon : F
  pub collapse : F
  pub add : F → F → F
  pub sub : F → F → F
  pub mul : F → F → F
  pub div : F → F → F
  pub neg : F → F
  pub root : F → F
  pub lt : F → F → Bool
  pub le : F → F → Bool
  pub eq : F → F → Bool
  -- neither NaN nor infinite
  pub finite : F → Bool
  -- `splitmix_unit` of an index
  pub start : ℕ → F
  -- a whole number
  pub whole : ℕ → F
  -- seed_std, which is given in binary64
  pub seed_std : Float → F

-- a NaN alone differs from itself
abbrev pub is_number : (A : Arith) → A.F → Bool
is_number A x = A.eq x x

-- the bits of the constants: at binary32 those of binary64, rounded
pub record Bits : Type 0 where
  pub half : ℕ
  pub one : ℕ
  pub two : ℕ
  pub weight_floor : ℕ
  pub spread_floor : ℕ
  pub bound_first : ℕ
  pub bound_least : ℕ
  pub bound_most : ℕ
  pub epsilon : ℕ
  pub collapse : ℕ

abbrev pub bits : Format → Bits
bits binary64 = record {
  half = 0x3fe0_0000_0000_0000;
  one = 0x3ff0_0000_0000_0000;
  two = 0x4000_0000_0000_0000;
  weight_floor = 0x3d71_9799_812d_ea11;
  spread_floor = 0x39b4_484b_feeb_c2a0;
  bound_first = 0x3fe8_0000_0000_0000;
  bound_least = 0x3fb9_9999_9999_999a;
  bound_most = 0x3fef_fbe7_6c8b_4396;
  epsilon = 0x3cb0_0000_0000_0000;
  collapse = 0x3e50_0000_0000_0000;
}
bits binary32 = record {
  half = 0x3f00_0000;
  one = 0x3f80_0000;
  two = 0x4000_0000;
  weight_floor = 0x2b8c_bccc;
  spread_floor = 0x0da2_4260;
  bound_first = 0x3f40_0000;
  bound_least = 0x3dcc_cccd;
  bound_most = 0x3f7f_df3b;
  epsilon = 0x3400_0000;
  collapse = 0x39b5_04f3;
}

-- a number of binary64 at the width f
unfoldable pub narrowed : Format → Float → Float
narrowed binary64 x = x
narrowed binary32 nan = nan
narrowed binary32 (inf s) = inf s
narrowed binary32 (fin s m e) = Ieee.round binary32 s (m * Ieee.up e) (Ieee.down e)

-- above minus infinity and below plus infinity
abbrev pub is_finite : Float → Bool
is_finite x = Ieee.lt (inf true) x && Ieee.lt x (inf false)

abbrev pub ieee : Format → Arith
ieee f = record {
  F = Float;
  none = nan;
  zero = Ieee.of_bits f 0;
  half = Ieee.of_bits f (bits f).half;
  one = Ieee.of_bits f (bits f).one;
  two = Ieee.of_bits f (bits f).two;
  weight_floor = Ieee.of_bits f (bits f).weight_floor;
  spread_floor = Ieee.of_bits f (bits f).spread_floor;
  bound_first = Ieee.of_bits f (bits f).bound_first;
  bound_least = Ieee.of_bits f (bits f).bound_least;
  bound_most = Ieee.of_bits f (bits f).bound_most;
  epsilon = Ieee.of_bits f (bits f).epsilon;
  collapse = Ieee.of_bits f (bits f).collapse;
  add = Ieee.add f;
  sub = Ieee.sub f;
  mul = Ieee.mul f;
  div = Ieee.div f;
  neg = Ieee.neg;
  root = root_of f;
  lt = Ieee.lt;
  le = Ieee.le;
  eq = Ieee.eq;
  finite = is_finite;
  start = λ i. narrowed f (splitmix_unit i);
  whole = λ n. Ieee.of_int f (pos n);
  seed_std = narrowed f;
}

abbrev pub ieee64 : Arith
ieee64 = ieee binary64

abbrev pub ieee32 : Arith
ieee32 = ieee binary32
