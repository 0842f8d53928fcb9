-- Each test passes until one refuses.
use mathlib.Core.Path.{refl, sym, ◌∙◌}
use borrow.Author.Tests.{lt-ltb, le-ltb}
use Rattle.input.proofs.Verdicts.{stops, goes_past, faulty_first, faultless_first}
use Rattle.threshcinch.specs.Said.{test_sizes}
use Rattle.threshcinch.proofs.test_sizes.Goals as goal

pub returns-in_err-test_dims : goal.returns-in_err-test_dims
unfolding test_sizes
returns-in_err-test_dims c = stops _ _ c.from_residual.ensures.1 _ c.in_err-test_dims.ensures

pub returns-then-rows-lt1 : goal.returns-then-rows-lt1
unfolding test_sizes
returns-then-rows-lt1 c = goes_past c.in_ok-test_dims.ensures (faulty_first _ 1 0 _ (lt-ltb _ _ c.if-rows-lt1.true) refl)

pub returns-then-is_over : goal.returns-then-is_over
unfolding test_sizes
returns-then-is_over c =
    goes_past c.in_ok-test_dims.ensures
    (faultless_first _ 2 0 (le-ltb _ _ c.if-rows-lt1.false) (faulty_first _ 2 0 _ (sym c.is_over.ensures ∙ c.if-is_over.true) refl))

pub returns : goal.returns
unfolding test_sizes
returns c =
    goes_past c.in_ok-test_dims.ensures
    (faultless_first _ 2 0 (le-ltb _ _ c.if-rows-lt1.false)
    (faultless_first _ 3 0 (sym c.is_over.ensures ∙ c.if-is_over.false) c.test_rounds.ensures))
