-- The code's calls in turn, at binary64: what `run::open`, `run::chunk` and `run::close` leave, each on what the call before it left. Definitions only.
use Rattle.std.specs.Prelude.{◌≡◌, List, [], ◌∷◌, ℕ, suc, ◌+◌, ◌-◌, ◌*◌, length}
use Rattle.definition.specs.Arith.{ieee64}
use Rattle.definition.specs.Numbers.{Params, chunks}
use Rattle.held.specs.Calls.{Call}
use Rattle.held.specs.Marks.{done, count, Marked}
use Rattle.machine.specs.State.{Lists, Lent, asked_of}
use Rattle.machine.specs.Calls.{Outcome, open_call}
use Rattle.promises.specs.Run.{machine_of}
use Rattle.promises.specs.Shows.{ShowsEnd}
use Rattle.promises.specs.Promises.{call_on, has_ended, Accepted, accepted_of, stages_of, Standing, Untouched}
use Rattle.promises.specs.OneCall.{end_of}

-- Outcomes one after the other: each is what the contract of `run::chunk` or `run::close` says of the one before it.
pub data Turns (g : Lists ieee64) : List Call → Outcome ieee64 → Outcome ieee64 → Type 0 where
  none : {o : Outcome ieee64} → Turns g [] o o
  next : {k : Call} {ks : List Call} {o o' o'' : Outcome ieee64} → o' ≡ call_on ieee64 g k o → Turns g ks o' o'' → Turns g (k ∷ ks) o o''

-- What is promised of the last of them, after an accepted opening of the memory m.
pub record Promised (d : ℕ) (params : Params) (g : Lists ieee64) (m : Lent ieee64) (marks : List ℕ) (ks : List Call) (o : Outcome ieee64) : Type 0 where
  -- state and memory are the definition's for exactly the chunks done, the Ritz record for exactly the rounds closed, and nothing behind the
  -- sizes in use is touched
  pub stands : Standing ieee64 d params g m o
  -- the marks are as long as they were lent, each of the first C is 0 or 1, and those behind C are as they were
  pub marked : Marked (chunks (length g.starts - 1)) marks o.marks
  -- the chunks done are calls accepted: C chunks and a closing for each stage closed, and the chunks marked since
  pub so_far : accepted_of ieee64 g ks (open_call ieee64 d params g m marks)
      ≡ stands.closed * suc (chunks (length g.starts - 1)) + count (done o.marks) (chunks (length g.starts - 1))
  pub untouched : Untouched ieee64 (asked_of ieee64 d params g) m o.lent
  -- no call is refused by 16; 15 is met exactly by a run that has ended
  pub never_16 : (k : Call) → (machine_of ieee64 g).refuse k o.state o.lent o.marks ≡ 16 → ⊥
  pub ended_15 : has_ended ieee64 o.state → (k : Call) → (machine_of ieee64 g).refuse k o.state o.lent o.marks ≡ 15
  pub only_15 : (k : Call) → (machine_of ieee64 g).refuse k o.state o.lent o.marks ≡ 15 → has_ended ieee64 o.state
  -- a run that has ended has the one state and the one memory, the definition's seed, counts and Ritz record, after document 01's number of accepted calls
  pub same_end : has_ended ieee64 o.state → (o.state ≡ (end_of ieee64 d params g m).state) × (o.lent ≡ (end_of ieee64 d params g m).mem)
  pub ends : has_ended ieee64 o.state → ShowsEnd ieee64 d params g o.state o.lent
  pub calls : has_ended ieee64 o.state → accepted_of ieee64 g ks (open_call ieee64 d params g m marks) ≡ stages_of ieee64 d params g * suc (chunks (length g.starts - 1))
  pub passes : has_ended ieee64 o.state → o.state.counts.passes ≡ params.rounds * (params.degree + 1)
