use mathlib.Core.Path.{refl, ap, ◌∙◌}
use Prim.Native.Nat.{ℕ}
use native.Mathlib.Omega.{arith}
use Rattle.definition.specs.Memory.{fill_range}
use Rattle.market.specs.Graph.{one}
use Rattle.matrix_market.proofs.Places.{placeable, columns_fit, counted-length, counted_again, counted_are, rows_start, columns_sorted}
use Rattle.matrix_market.proofs.place_graph.Goals as goal

pub count_starts-requires : goal.count_starts-requires
count_starts-requires c =
    let a = c.args in
    let r = c.requires.0 in
    (r.behind.within, placeable a.text.now a.n a.from _ _ _ r _ _ r.starts-room (omega arith))

pub scatter-requires : goal.scatter-requires
scatter-requires c =
    let a = c.args in
    let r = c.requires.0 in
    let s = c.count_starts in
    let text = a.text.now in (
      r.behind.within,
      placeable text a.n a.from _ _ _ r _ _ (omega (arith, r.starts-room, counted-length text a.n a.from _ _ _ r a.starts.now _ refl s.ensures)) (columns_fit text a.n a.from _ _ _ r _ refl),
      counted_again text a.n a.from _ _ _ r a.starts.now _ refl s.ensures,
    )

pub sort_rows-requires : goal.sort_rows-requires
sort_rows-requires c =
    let a = c.args in
    let r = c.requires.0 in
    rows_start a.text.now a.n a.from _ _ _ r a.starts.now _ refl c.count_starts.ensures a.columns.now _ refl c.scatter.ensures.1 _ c.scatter.ensures.0

pub returns : goal.returns
returns c =
    let a = c.args in
    let r = c.requires.0 in
    let text = a.text.now in
    record {
      starts_are = c.scatter.ensures.0 ∙ counted_are text a.n a.from _ _ _ r a.starts.now _ refl c.count_starts.ensures;
      columns_are = columns_sorted text a.n a.from _ _ _ r a.starts.now _ refl c.count_starts.ensures a.columns.now _ refl c.scatter.ensures.1 _ _ c.scatter.ensures.0 c.sort_rows.ensures;
      values_are = c.fill_ones.ensures ∙ ap (λ (m : ℕ). fill_range 0 m (λ p. one) a.values.now) c.requires.1;
    }
