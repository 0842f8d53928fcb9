-- A held run over any machine: the calls, the stages with no calls, and what it is for a run to stand at a stage. Definitions only.
use Rattle.std.specs.Prelude.{◌≡◌, List, [], ◌∷◌, Bool, cond, ℕ, zero, suc, ◌+◌, ◌*◌, set}
use Rattle.held.specs.Marks.{done, count, cleared, Marked}

-- a call of the host: do chunk h, or close the stage
pub data Call : Type 0 where
  chunk : ℕ → Call
  close : Call

-- what a held run is made of
pub record Machine : Type 1 where
  -- the state that the run keeps between calls, and the memory that is lent to it
  pub S : Type 0
  pub M : Type 0
  -- how many chunks a stage has
  pub chunks : ℕ
  -- the run is over
  pub over : S → Bool
  -- what chunk h does; it acts on any type M, so that a count which a chunk call raises can stand in M beside the lists
  pub part : S → ℕ → M → M
  -- what closing does to the state, from the memory where all chunks are done
  pub next : S → M → S
  -- what closing does to the memory: closing may write memory too
  pub tidy : S → M → M
  -- the refusal of a call, by number; 0: the call is accepted
  pub refuse : Call → S → M → List ℕ → ℕ

module _ {M : Type 0} where
  -- the updates of the chunks below n that d names, upward
  unfoldable pub parts : (ℕ → M → M) → (ℕ → Bool) → ℕ → M → M
  parts op d zero m = m
  parts op d (suc k) m = cond (d k) (op k (parts op d k m)) (parts op d k m)

  -- those of all of them
  unfoldable pub whole : (ℕ → M → M) → ℕ → M → M
  whole op zero m = m
  whole op (suc k) m = op k (whole op k m)

-- the calls of k chunks from h on, upward, and then the calls ks
unfoldable pub upward : ℕ → ℕ → List Call → List Call
upward zero h ks = ks
upward (suc k) h ks = chunk h ∷ upward k (suc h) ks

-- the calls of n stages, the chunks of each upward
unfoldable pub order : ℕ → ℕ → List Call
order chunks zero = []
order chunks (suc n) = upward chunks 0 (close ∷ order chunks n)

-- how many calls a refusal lets through: 1 where it is 0
abbrev pub one : ℕ → ℕ
one zero = 1
one (suc r) = 0

module _ (K : Machine) where
  -- a run at the beginning of a stage
  pub record Base : Type 0 where
    pub state : K.S
    pub mem : K.M

  -- a run between two calls
  pub record Conf : Type 0 where
    pub state : K.S
    pub mem : K.M
    pub marks : List ℕ
    pub calls : ℕ

  -- ---- the definition: stage after stage, with no calls

  -- the memory of a stage that began with m, where the chunks that d names are done
  abbrev pub mem_at : K.S → K.M → (ℕ → Bool) → K.M
  mem_at s m d = parts (K.part s) d K.chunks m

  -- the memory where all chunks of the stage are done
  unfoldable pub full : Base → K.M
  full b = whole (K.part b.state) K.chunks b.mem

  -- the beginning of the next stage
  unfoldable pub stage : Base → Base
  stage b = record { state = K.next b.state (full b); mem = K.tidy b.state (full b) }

  -- the beginning after n stages
  unfoldable pub iter : ℕ → Base → Base
  iter zero b = b
  iter (suc n) b = iter n (stage b)

  -- ---- the calls

  -- what an accepted call does
  unfoldable pub accept : Call → Conf → Conf
  accept (chunk h) c = record { state = c.state; mem = K.part c.state h c.mem; marks = set c.marks h 1; calls = suc c.calls }
  accept close c = record { state = K.next c.state c.mem; mem = K.tidy c.state c.mem; marks = cleared K.chunks c.marks; calls = suc c.calls }

  -- what a call does, by the number of its refusal: a refused call changes nothing
  unfoldable pub step_by : ℕ → Call → Conf → Conf
  step_by zero k c = accept k c
  step_by (suc r) k c = c

  -- the refusal of a call where the run stands
  unfoldable pub refusal : Call → Conf → ℕ
  refusal k c = K.refuse k c.state c.mem c.marks

  -- what a call does
  unfoldable pub step : Call → Conf → Conf
  step k c = step_by (refusal k c) k c

  -- what calls do, one after the other
  unfoldable pub run : List Call → Conf → Conf
  run [] c = c
  run (k ∷ ks) c = run ks (step k c)

  -- a run that has just been opened: no chunk marked, no call taken
  unfoldable pub opened : Base → List ℕ → Conf
  opened b marks = record { state = b.state; mem = b.mem; marks = cleared K.chunks marks; calls = 0 }

  -- a run that is over after p stages
  unfoldable pub finished : List ℕ → ℕ → Base → Conf
  finished marks p b = record { state = b.state; mem = b.mem; marks = cleared K.chunks marks; calls = p * suc K.chunks }

  -- how many of the calls are accepted
  unfoldable pub accepted : List Call → Conf → ℕ
  accepted [] c = 0
  accepted (k ∷ ks) c = one (refusal k c) + accepted ks (step k c)

  -- c is stage p of the definition, where exactly the marked chunks are done
  pub record Seen (start : Base) (marks₀ : List ℕ) (p : ℕ) (c : Conf) : Type 0 where
    pub state : c.state ≡ (iter p start).state
    pub mem : c.mem ≡ mem_at (iter p start).state (iter p start).mem (done c.marks)
    pub marks : Marked K.chunks marks₀ c.marks
    pub calls : c.calls ≡ p * suc K.chunks + count (done c.marks) K.chunks
