use mathlib.Core.Path.{◌≡◌, sym, ◌∙◌}
use native.Mathlib.Omega.{arith}
use lib.ListN.{length, get_or-replicate}
use Rattle.definition.specs.Arith.{ieee64}
use Rattle.definition.proofs.Fill.{fill_same, fill_again}
use Rattle.rows.proofs.Passes.{gathered_none, gathered-more}
use Rattle.rows.proofs.pass.gather_entries.Goals as goal
use Rattle.rows.proofs.pass.gather_entries.Goals.{In-loop-p}

pub loop-p-init : goal.loop-p-init
loop-p-init c = (omega arith, fill_same _ _ _ _ ieee64.none (λ i p q r. get_or-replicate 15 i _ _ r ∙ sym (gathered_none ieee64 _ _ _ _ _ _ i)))

pub loop-p-preserved : goal.loop-p-preserved
loop-p-preserved c = (omega arith, fill_again 0 _ _ _ _ _ ieee64.none c.loop-p.invariant.1 c.add_entry.ensures (λ i p q h. rw h (gathered-more ieee64 _ _ _ _ _ _ _ i (omega (arith, c.loop-p.invariant)))))

pub returns : goal.returns
returns c =
    let e : c.loop-p.p ≡ length c.args.columns.now = omega arith in
    rw (← e) c.loop-p.invariant.1
