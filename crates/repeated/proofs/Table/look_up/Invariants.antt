-- The invariant: behind place i no key is this one.
use Rattle.repeated.proofs.Chains.{Looking}
use Rattle.repeated.proofs.Table.look_up.Given as goal

abbrev pub invariant-loop-i : goal.invariant-loop-i
invariant-loop-i l = Looking l.key l.self-inside.count l.self-inside.keys l.i

abbrev pub decreases-loop-i : goal.decreases-loop-i
decreases-loop-i l = l.i
