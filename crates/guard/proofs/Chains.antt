-- Tests joined by `&&`, as the code makes them: w is the flag that the code found, a the test that it equals. Assumes nothing.
use mathlib.Core.Path.{◌≡◌, sym, ap, ◌∙◌}
use mathlib.Core.Bool.{Bool, true, false, ◌&&◌}

module _ {w a : Bool} (e : w ≡ a) where
  -- it failed: it is the value of the chain
  pub failed : (b : Bool) → w ≡ false → w ≡ (a && b)
  failed b h = h ∙ sym (ap (λ (v : Bool). v && b) (sym e ∙ h))

  -- it passed: the value is that of the tests after it
  pub passed : {x b : Bool} → w ≡ true → x ≡ b → x ≡ (a && b)
  passed {b = b} h g = g ∙ sym (ap (λ (v : Bool). v && b) (sym e ∙ h))
