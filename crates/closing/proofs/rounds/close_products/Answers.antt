use Prim.Native.Nat.{◌+◌}
use Rattle.definition.specs.Arith.{ieee64}
use Rattle.machine.specs.Closing.{symmetric_in, eigen_matrix, eigen_vectors, order_in}
use native.Mathlib.Omega.{arith}
use Rattle.definition.proofs.Places.{row_end, square-most}
use Rattle.closing.proofs.Order.{order_below}
use Rattle.closing.proofs.Round.{round_made}
use Rattle.closing.proofs.rounds.close_products.Goals as goal

pub overflow_mul-k : goal.overflow_mul-k
overflow_mul-k c = omega (arith, square-most c.width-k.result (omega arith))

pub after_products-progress-requires-clause-round_lt_rounds : goal.after_products-progress-requires-clause-round_lt_rounds
after_products-progress-requires-clause-round_lt_rounds c =
    (c.requires.state_ready.progress.round, rw (← c.width-k.ensures) (order_below _ _ _ c.ritz_order-order.result _ c.ritz_order-order.ensures (omega arith)))

pub record_round-requires-clause-by_index : goal.record_round-requires-clause-by_index
record_round-requires-clause-by_index c = λ j l. order_below _ _ _ c.ritz_order-order.result j c.ritz_order-order.ensures l

pub record_round-requires-clause-k_in_bounds : goal.record_round-requires-clause-k_in_bounds
record_round-requires-clause-k_in_bounds c =
    rw c.width-k.ensures
    (omega (arith, row_end c.args.state.progress.round (c.args.state.asked.dims + 8 + 1) c.args.state.asked.rounds c.requires.state_ready.progress.round))

pub returns-clause-result_value : goal.returns-clause-result_value
unfolding symmetric_in eigen_matrix eigen_vectors order_in
returns-clause-result_value c =
    let k = c.width-k.ensures in
    round_made ieee64 _ _ (rw (c.requires.asked_same, k) at c.totals.ensures) (rw k at c.symmetrize.ensures) (rw k at c.jacobi_in_place.ensures.matrix_after)
    (rw k at c.jacobi_in_place.ensures.vectors_after) (rw k at c.ritz_order-order.ensures) c.after_products-progress.ensures
