-- Both widths of IEEE 754 keep a run in range. Assumes nothing.
use mathlib.Core.Path.{◌≡◌, refl}
use mathlib.Core.Bool.{Bool, true, false, ◌&&◌, false≢true}
use lib.Dec.{T}
use lib.Ieee.{Float, Format}
use Rattle.definition.specs.Arith.{ieee}
use Rattle.definition.proofs.Bounds.{Bounded, Unitary, bound-within, bound-first, first_unitary, next_unitary}
use Rattle.machine.specs.Ranges.{bound_sound, alpha_sound}
use Rattle.machine.proofs.Own.{both, both_of}
use Rattle.promises.specs.Run.{Steady}

is_true : (b : Bool) → T b → b ≡ true
is_true true t = refl
is_true false t = absurd t

true-is : (b : Bool) → b ≡ true → T b
true-is true e = tt
true-is false e = absurd (false≢true e)

both_true : (a b : Bool) → T a × T b → (a && b) ≡ true
both_true a b h = both a b (is_true a h.0) (is_true b h.1)

module _ (f : Format) where
  bound-sound : (b : Float) → Bounded f b → bound_sound (ieee f) b ≡ true
  unfolding bound_sound
  bound-sound b h = both_true ((ieee f).le (ieee f).bound_least b) ((ieee f).le b (ieee f).bound_most) h

  sound-bound : (b : Float) → bound_sound (ieee f) b ≡ true → Bounded f b
  unfolding bound_sound
  sound-bound b e = let g = both_of ((ieee f).le (ieee f).bound_least b) ((ieee f).le b (ieee f).bound_most) e in (true-is ((ieee f).le (ieee f).bound_least b) g.0, true-is ((ieee f).le b (ieee f).bound_most) g.1)

  alpha-sound : (a : Float) → Unitary f a → alpha_sound (ieee f) a ≡ true
  unfolding alpha_sound
  alpha-sound a h = both_true ((ieee f).lt (ieee f).zero a) ((ieee f).lt a (ieee f).one) h

  sound-alpha : (a : Float) → alpha_sound (ieee f) a ≡ true → Unitary f a
  unfolding alpha_sound
  sound-alpha a e = let g = both_of ((ieee f).lt (ieee f).zero a) ((ieee f).lt a (ieee f).one) e in (true-is ((ieee f).lt (ieee f).zero a) g.0, true-is ((ieee f).lt a (ieee f).one) g.1)

  pub steady : Steady (ieee f)
  steady = record {
    bound-first = bound-sound (ieee f).bound_first (bound-first f);
    bound-next = λ x. bound-sound _ (bound-within f x);
    alpha-first = λ b h. alpha-sound _ (first_unitary f b (sound-bound b h));
    alpha-next = λ b a h u. alpha-sound _ (next_unitary f b (sound-bound b h) a (sound-alpha a u));
  }
