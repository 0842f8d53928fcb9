-- Lists that have each number equally often are equally long; so rows start where they should. Assumes nothing.
use mathlib.Core.List.{List, [], ◌∷◌}
use mathlib.Core.Path.{◌≡◌, refl, ap, ◌∙◌}
use Prim.Native.Nat.{ℕ, zero, suc, ◌+◌, ◌≤◌}
use native.Mathlib.Omega.{arith}
use borrow.Author.Tests.{lt-ltb, le-ltb}
use lib.Dec.{ltb}
use lib.ListN.{length, length-append}
use Rattle.definition.proofs.Fill.{split, same_or}
use Rattle.edges.specs.Sorting.{one, count}
use Rattle.edges.proofs.Order.{one_self}
use Rattle.market.specs.Market.{Entry}
use Rattle.market.specs.Graph.{linked, row_of, columns_up_to, start_of}
use Rattle.market.specs.Passes.{Within, neighbours, gathered_start}
use Rattle.market.proofs.Right.{Distinct}
use Rattle.market.proofs.Starts.{start_first, start-next}
use Rattle.mirrored.proofs.Counts.{bit, one_other, passing_above, same_count}

-- how many of a list are below n
total : ℕ → List ℕ → ℕ
total zero l = 0
total (suc n) l = count n l + total n l

total_nil : (n : ℕ) → total n [] ≡ 0
unfolding total count
total_nil zero = refl
total_nil (suc n) = omega (arith, total_nil n)

total_cons : (n y : ℕ) (l : List ℕ) → total n (y ∷ l) ≡ bit (ltb y n) + total n l
unfolding total count
total_cons zero y l = rw (le-ltb y 0 (omega arith)) refl
total_cons (suc n) y l =
    same_or n y
    (λ e. omega (arith, total_cons n y l, one_self y, ap (λ (z : ℕ). one z y) e, ap bit (lt-ltb y (suc n) (omega arith)), ap bit (le-ltb y n (omega arith))))
    (λ e. split y n
    (λ h. omega (arith, total_cons n y l, one_other n y e, ap bit (lt-ltb y (suc n) (omega arith)), ap bit (lt-ltb y n h)))
    (λ h. omega (arith, total_cons n y l, one_other n y e, ap bit (le-ltb y (suc n) (omega arith)), ap bit (le-ltb y n h))))

total_length : (n : ℕ) (l : List ℕ) → ((x : ℕ) → n ≤ x → count x l ≡ 0) → total n l ≡ length l
unfolding count
total_length n [] h = total_nil n
total_length n (y ∷ l) h =
    split y n
    (λ p. omega (arith, total_cons n y l, ap bit (lt-ltb y n p), total_length n l (λ x q. omega (arith, h x q))))
    (λ p. absurd (omega (arith, h y p, one_self y)))

total_same : (n : ℕ) (l r : List ℕ) → ((x : ℕ) → count x l ≡ count x r) → total n l ≡ total n r
unfolding total
total_same zero l r h = refl
total_same (suc n) l r h = omega (arith, h n, total_same n l r h)

pub same_length : (n : ℕ) (l r : List ℕ) → ((x : ℕ) → count x l ≡ count x r) → ((x : ℕ) → n ≤ x → count x r ≡ 0) → length l ≡ length r
same_length n l r h z = omega (arith, total_same n l r h, total_length n l (λ x q. h x ∙ z x q), total_length n r z)

-- ---- rows

module _ (n : ℕ) (es : List Entry) (w : Within n es) (d : Distinct es) where
  pub row-length : (i : ℕ) → length (neighbours i es) ≡ length (row_of n es i)
  unfolding row_of
  row-length i = same_length n (neighbours i es) (row_of n es i) (λ x. same_count n es i x w d) (λ x h. passing_above (linked es i) 0 n x (omega arith))

  pub start-same : (i : ℕ) → gathered_start es i ≡ start_of n es i
  unfolding start_of columns_up_to
  start-same zero = start_first es
  start-same (suc i) = omega (arith, start-same i, row-length i, start-next es i, length-append (columns_up_to n es i) (row_of n es i))
