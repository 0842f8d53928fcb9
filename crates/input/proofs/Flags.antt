-- The value of `a || b` and of `a && b`, by what the test of a said: where a decides, the code's flag is a, and b otherwise. Assumes nothing.
use mathlib.Core.Path.{◌≡◌, sym, ap, ◌∙◌}
use mathlib.Core.Bool.{Bool, true, false, ◌&&◌, ◌||◌}

module _ {a flag : Bool} (b : Bool) where
  pub or_decided : a ≡ true → flag ≡ a → flag ≡ (a || b)
  or_decided h e = e ∙ h ∙ sym (ap (λ (v : Bool). v || b) h)

  pub or_open : a ≡ false → flag ≡ b → flag ≡ (a || b)
  or_open h e = e ∙ sym (ap (λ (v : Bool). v || b) h)

  pub and_decided : a ≡ false → flag ≡ a → flag ≡ (a && b)
  and_decided h e = e ∙ h ∙ sym (ap (λ (v : Bool). v && b) h)

  pub and_open : a ≡ true → flag ≡ b → flag ≡ (a && b)
  and_open h e = e ∙ sym (ap (λ (v : Bool). v && b) h)
