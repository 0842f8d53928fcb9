use mathlib.Core.Path.{refl}
use native.Mathlib.Omega.{arith}
use borrow.Author.Tests.{lt-ltb, le-ltb}
use lib.Dec.{ltb}
use lib.ListN.{length}
use Rattle.files.specs.RunText.{test_sizes}
use Rattle.input.proofs.Verdicts.{faulty, faultless, faulty_first, faultless_first}
use Rattle.writing.proofs.test_sizes.Goals as goal

pub returns-then-rounds-gt-ROUNDS_MOST : goal.returns-then-rounds-gt-ROUNDS_MOST
unfolding test_sizes
returns-then-rounds-gt-ROUNDS_MOST c =
    let a = c.args in
    faulty_first (ltb 400 a.rounds) 16 2 _ (lt-ltb 400 a.rounds c.if-rounds-gt-ROUNDS_MOST.true) refl

pub returns-then-starts-gt-STARTS_MOST : goal.returns-then-starts-gt-STARTS_MOST
unfolding test_sizes
returns-then-starts-gt-STARTS_MOST c =
    let a = c.args in
    let starts = length a.graph.starts.now in
    faultless_first (ltb 400 a.rounds) 17 2 (le-ltb 400 a.rounds (omega arith)) (faulty_first (ltb 65 starts) 16 5 _ (lt-ltb 65 starts c.if-starts-gt-STARTS_MOST.true) refl)

pub returns-then-columns-gt-ENTRIES_MOST : goal.returns-then-columns-gt-ENTRIES_MOST
unfolding test_sizes
returns-then-columns-gt-ENTRIES_MOST c =
    let a = c.args in
    let starts = length a.graph.starts.now in
    let columns = length a.graph.columns.now in
    faultless_first (ltb 400 a.rounds) 17 2 (le-ltb 400 a.rounds (omega arith)) (faultless_first (ltb 65 starts) 17 5 (le-ltb 65 starts (omega arith)) (faulty_first (ltb 1024 columns) 16 6 _ (lt-ltb 1024 columns c.if-columns-gt-ENTRIES_MOST.true) refl))

pub returns-then-values-gt-ENTRIES_MOST : goal.returns-then-values-gt-ENTRIES_MOST
unfolding test_sizes
returns-then-values-gt-ENTRIES_MOST c =
    let a = c.args in
    let starts = length a.graph.starts.now in
    let columns = length a.graph.columns.now in
    let values = length a.graph.values.now in
    faultless_first (ltb 400 a.rounds) 17 2 (le-ltb 400 a.rounds (omega arith)) (faultless_first (ltb 65 starts) 17 5 (le-ltb 65 starts (omega arith)) (faultless_first (ltb 1024 columns) 17 6 (le-ltb 1024 columns (omega arith)) (faulty (ltb 1024 values) 16 7 (lt-ltb 1024 values c.if-values-gt-ENTRIES_MOST.true) refl)))

pub returns : goal.returns
unfolding test_sizes
returns c =
    let a = c.args in
    let starts = length a.graph.starts.now in
    let columns = length a.graph.columns.now in
    let values = length a.graph.values.now in
    faultless_first (ltb 400 a.rounds) 17 2 (le-ltb 400 a.rounds (omega arith)) (faultless_first (ltb 65 starts) 17 5 (le-ltb 65 starts (omega arith)) (faultless_first (ltb 1024 columns) 17 6 (le-ltb 1024 columns (omega arith)) (faultless (ltb 1024 values) 17 7 (le-ltb 1024 values (omega arith)) refl)))
