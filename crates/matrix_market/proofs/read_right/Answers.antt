use mathlib.Core.Path.{sym}
use Prim.Native.Nat.{◌+◌}
use native.Mathlib.Omega.{arith}
use lib.ListN.{length}
use Rattle.input.proofs.Verdicts.{passed}
use Rattle.matrix_market.specs.Said.{entries_at}
use Rattle.matrix_market.proofs.Sizes.{kept_of, room_of_lem}
use Rattle.matrix_market.proofs.Outcomes.{out_limits, out_room, out_placed}
use Rattle.matrix_market.proofs.read_right.Goals as goal

pub returns-in_err-test_limits : goal.returns-in_err-test_limits
returns-in_err-test_limits c =
    let a = c.args in
    out_limits a.n (a.entries + a.doubles) (entries_at a.text.now a.from) a.starts.now a.columns.now a.values.now c.requires.placed
    _ _ c.from_residual.ensures.1 c.in_err-test_limits.ensures

pub test_room-requires : goal.test_room-requires
test_room-requires c =
    let a = c.args in
    (kept_of a.n (a.entries + a.doubles) (passed c.in_ok-test_limits.ensures)).rows

pub returns-in_err-test_room : goal.returns-in_err-test_room
returns-in_err-test_room c =
    let a = c.args in
    out_room a.n (a.entries + a.doubles) (entries_at a.text.now a.from) a.starts.now a.columns.now a.values.now c.requires.placed
    c.in_ok-test_limits.ensures _ _ c.from_residual-in_err-test_room.ensures.1 c.in_err-test_room.ensures

pub place_graph-requires : goal.place_graph-requires
place_graph-requires c =
    let a = c.args in
    let k = kept_of a.n (a.entries + a.doubles) (passed c.in_ok-test_limits.ensures) in
    let q = room_of_lem a.n (a.entries + a.doubles) (length a.starts.now) (length a.columns.now) (length a.values.now) (passed c.in_ok-test_room.ensures) in
    let p = c.requires.placed in (
      record {
        behind = c.requires.behind;
        rows = k.rows;
        placed = omega (arith, p, k.entries);
        starts-room = q.0;
        columns-room = omega (arith, p, q.1);
        values-room = omega (arith, p, q.2);
      },
      sym p,
    )

pub returns : goal.returns
returns c =
    let a = c.args in
    out_placed a.n (a.entries + a.doubles) (entries_at a.text.now a.from) a.starts.now a.columns.now a.values.now c.requires.placed
    c.in_ok-test_limits.ensures c.in_ok-test_room.ensures _ _ _ c.place_graph.ensures
