use Prim.Native.Nat.{◌<◌}
use Rattle.machine.specs.State.{chunk_count}
use Rattle.state.specs.Said.{asked_in}
use Rattle.spectral.proofs.Chunks.{none_done, next_ready, next-marked, one_more, all_done}
use Rattle.state.proofs.Places.{same_places, places_on}
use mathlib.Core.Path.{refl, ◌∙◌}
use native.Mathlib.Omega.{arith}
use Rattle.spectral.proofs.all_chunks.Goals as goal

pub loop-h-init : goal.loop-h-init
loop-h-init c = (c.chunk_count-chunks.ensures, none_done _ _ _ _, refl, same_places _)

pub work_chunk-requires : goal.work_chunk-requires
work_chunk-requires c =
    let i = c.loop-h.invariant in
    let l : c.loop-h.h < chunk_count (asked_in c.args.state.asked) = omega (arith, i.0, c.loop-h-test.true) in
    record { ready = next_ready i.1 c.requires.by_index l; h_in_bounds = next-marked i.1 c.requires.asked_in_bounds l }

pub loop-h-preserved : goal.loop-h-preserved
loop-h-preserved c =
    let w = c.work_chunk in
    let i = c.loop-h.invariant in (
      i.0,
      one_more i.1 (omega (arith, i.0, c.loop-h-test.true)) w.ensures.memory_after w.ensures.marks_after,
      w.auto.marks ∙ i.2,
      places_on i.3 w.ensures.same_places,
    )

pub returns : goal.returns
returns c =
    let i = c.loop-h.invariant in
    let d = all_done i.1 (omega (arith, i.0, c.loop-h-test.false)) in
    record { memory_after = d.0; same_places = i.3; marks_after = d.1 }
