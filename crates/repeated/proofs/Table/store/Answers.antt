use mathlib.Core.Path.{sym, ap, ◌∙◌}
use mathlib.Core.List.{[], ◌∷◌, ◌++◌}
use native.Mathlib.Omega.{arith}
use lib.ListN.{length}
use Rattle.repeated.proofs.Chains.{stored-length, stored_more, table_more}
use Rattle.repeated.proofs.Table.store.Goals as goal

pub bounds-self-inside-place : goal.bounds-self-inside-place
bounds-self-inside-place c = omega (arith, c.requires, stored-length c.self.inside.keys c.self.inside.count, ap length c.self.view_is)

pub bounds-self-inside-place-2 : goal.bounds-self-inside-place-2
bounds-self-inside-place-2 c = omega (arith, c.requires, stored-length c.self.inside.keys c.self.inside.count, ap length c.self.view_is)

pub invariant_of-self : goal.invariant_of-self
invariant_of-self c =
    let e = c.hash-h.ensures in
    table_more _ _ _ _ _ _ c.self.invariant (omega (arith, c.requires, stored-length c.self.inside.keys c.self.inside.count, ap length c.self.view_is)) e.0 e.1

pub returns : goal.returns
returns c =
    stored_more _ _ _ (omega (arith, c.requires, c.self.invariant.keys_room, stored-length c.self.inside.keys c.self.inside.count, ap length c.self.view_is))
    ∙ ap (λ kept. kept ++ c.args.key ∷ []) c.self.view_is
