-- Each stage tests the rows that it reads.
use mathlib.Core.Path.{◌≡◌, sym, ◌∙◌}
use mathlib.Core.Logic.{◌⊎◌, inl, inr, ⊎_elim}
use native.Mathlib.Omega.{arith}
use Rattle.ready.proofs.Tested.{starts_ready}
use Rattle.state.specs.declared.stage.Stage.TheVariants as at
use Rattle.state.specs.Said.{asked_in}
use Rattle.guard.proofs.Chains.{failed, passed}
use Rattle.guard.proofs.Stages.{its_number, its_name, tests_starts, tests_columns, tests_edges, tests_none}
use Rattle.guard.proofs.rows.rows_sound.Goals as goal
use Rattle.guard.proofs.rows.rows_sound.Goals.{In-FilterPass}

-- the two stages that read the lent edges
passes : (c : In-FilterPass) → (c.args.stage ≡ 5) ⊎ (c.args.stage ≡ 13)
passes c =
    ⊎_elim (λ p. inl (its_number c.from.ensures at.FilterPass (omega arith) p)) (λ p. inr (its_number c.from.ensures at.PlainPass (omega arith) p))
    c.in-FilterPass.is

pub columns_sound-requires-clause-starts : goal.columns_sound-requires-clause-starts
columns_sound-requires-clause-starts c =
    let g = c.args in
    starts_ready (asked_in g.a.asked) g.graph.starts.now g.h c.requires.starts-enough (sym c.starts_sound-in-Edges.ensures ∙ c.if-starts_sound.true) c.requires.chunk

pub columns_sound-requires-then-starts_sound-2-clause-starts :
    goal.columns_sound-requires-then-starts_sound-2-clause-starts
columns_sound-requires-then-starts_sound-2-clause-starts c =
    let g = c.args in
    starts_ready (asked_in g.a.asked) g.graph.starts.now g.h c.requires.starts-enough (sym c.starts_sound-in-FilterPass.ensures ∙ c.if-starts_sound-2.true) c.requires.chunk

pub returns-in-Degrees : goal.returns-in-Degrees
returns-in-Degrees c = c.starts_sound.ensures ∙ tests_starts _ _ _ _ _ (its_number c.from.ensures at.Degrees (omega arith) c.in-Degrees.is)

pub returns-then-starts_sound : goal.returns-then-starts_sound
returns-then-starts_sound c =
    passed c.starts_sound-in-Edges.ensures c.if-starts_sound.true c.columns_sound.ensures
    ∙ tests_columns _ _ _ _ _ (its_number c.from.ensures at.Edges (omega arith) c.in-Edges.is)

pub returns-else-starts_sound : goal.returns-else-starts_sound
returns-else-starts_sound c =
    failed c.starts_sound-in-Edges.ensures _ c.if-starts_sound.false
    ∙ tests_columns _ _ _ _ _ (its_number c.from.ensures at.Edges (omega arith) c.in-Edges.is)

pub returns-then-starts_sound-2 : goal.returns-then-starts_sound-2
returns-then-starts_sound-2 c =
    passed c.starts_sound-in-FilterPass.ensures c.if-starts_sound-2.true c.columns_sound-then-starts_sound-2.ensures
    ∙ tests_edges _ _ _ _ _ (passes (goal.at.returns-then-starts_sound-2 c).In-FilterPass)

pub returns-else-starts_sound-2 : goal.returns-else-starts_sound-2
returns-else-starts_sound-2 c =
    failed c.starts_sound-in-FilterPass.ensures _ c.if-starts_sound-2.false
    ∙ tests_edges _ _ _ _ _ (passes (goal.at.returns-else-starts_sound-2 c).In-FilterPass)

pub returns-in_default : goal.returns-in_default
returns-in_default c =
    tests_none _ _ _ _ _ (λ p. c.in_default.not-Degrees (its_name c.from.ensures at.Degrees (omega arith) p))
    (λ p. c.in_default.not-Edges (its_name c.from.ensures at.Edges (omega arith) p))
    (λ p. ⊎_elim (λ q. c.in_default.not-FilterPass (its_name c.from.ensures at.FilterPass (omega arith) q))
    (λ q. c.in_default.not-PlainPass (its_name c.from.ensures at.PlainPass (omega arith) q)) p)
