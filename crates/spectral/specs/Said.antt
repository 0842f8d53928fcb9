-- The one call's answer as the definitions have it, and the first chunks of a stage done upward. Definitions only.
use Rattle.std.specs.Prelude.{List, ℕ}
use Rattle.definition.specs.Arith.{ieee64}
use Rattle.definition.specs.Numbers.{Params}
use Rattle.held.specs.Calls.{whole}
use Rattle.input.specs.Said.{verdict_of}
use Rattle.machine.specs.State.{Asked, Lists, State, Lent}
use Rattle.machine.specs.Work.{work}
use Rattle.promises.specs.OneCall.{Whole}
use Rattle.state.specs.Said.{counts_in}
use Rattle.spectral.specs.declared.Embedded.{Embedded}

-- what the call answered and left
abbrev pub whole_in : Embedded → Lent ieee64 → List ℕ → Whole ieee64
whole_in r m marks = record { verdict = verdict_of r.verdict; counts = counts_in r.counts; lent = m; marks = marks }

-- the memory with the first h chunks of the state's stage done, upward
abbrev pub done_up : State ieee64 → Lists ieee64 → ℕ → Lent ieee64 → Lent ieee64
done_up s g h m = whole (λ j x. work ieee64 s g j x) h m

-- the parameters that a run was asked for, as its state keeps them
abbrev pub params_asked : Asked → Params
params_asked a = record { rounds = a.rounds; degree = a.degree; seed_std = a.seed_std }
