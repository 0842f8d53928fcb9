-- a law for each way.
use mathlib.Core.Path.{sym}
use Prim.Native.Nat.{◌+◌}
use native.Mathlib.Omega.{arith}
use Rattle.matrix_market.proofs.Sizes.{no_rows, many_rows, many_entries, limits_kept}
use Rattle.matrix_market.proofs.test_limits.Goals as goal

pub returns-then-n-eq0 : goal.returns-then-n-eq0
returns-then-n-eq0 c =
    let a = c.args in
    sym (no_rows a.n (a.entries + a.doubles) c.if-n-eq0.true)

pub returns-then-n-gt-ROWS_MOST : goal.returns-then-n-gt-ROWS_MOST
returns-then-n-gt-ROWS_MOST c =
    let a = c.args in
    sym (many_rows a.n (a.entries + a.doubles) c.if-n-eq0.false c.if-n-gt-ROWS_MOST.true)

pub returns-then-entries-gt-ENTRIES_MOST : goal.returns-then-entries-gt-ENTRIES_MOST
returns-then-entries-gt-ENTRIES_MOST c =
    let a = c.args in
    sym (many_entries a.n (a.entries + a.doubles) c.if-n-eq0.false c.if-n-gt-ROWS_MOST.false (omega (arith, c.if-entries-gt-ENTRIES_MOST.true)))

pub returns-then-entries-doubles-gt-ENTRIES_MOST : goal.returns-then-entries-doubles-gt-ENTRIES_MOST
returns-then-entries-doubles-gt-ENTRIES_MOST c =
    let a = c.args in
    sym (many_entries a.n (a.entries + a.doubles) c.if-n-eq0.false c.if-n-gt-ROWS_MOST.false c.if-entries-doubles-gt-ENTRIES_MOST.true)

pub returns : goal.returns
returns c =
    let a = c.args in
    sym (limits_kept a.n (a.entries + a.doubles) c.if-n-eq0.false c.if-n-gt-ROWS_MOST.false c.if-entries-doubles-gt-ENTRIES_MOST.false)
