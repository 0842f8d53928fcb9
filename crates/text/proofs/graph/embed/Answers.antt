use mathlib.Core.Path.{◌≡◌, sym, ap, subst}
use mathlib.Core.List.{List, [], ◌∷◌}
use Prim.Native.Nat.{ℕ}
use lib.Ieee.{Float}
use borrow.Author.Rules.{rules}
use Rattle.input.specs.Said.{verdict_of, params_of}
use Rattle.state.specs.Said.{counts_in}
use Rattle.text.specs.Small.{Embeds}
use Rattle.text.proofs.Small.{embeds_in}
use Rattle.text.proofs.graph.embed.Goals as goal

-- what was shown of the list that the memory held, of the list that was lent
handed_back : (P : List Float → Type 0) {held lent : List Float} → P held → lent ≡ held → P lent
handed_back P p e = subst P (sym e) p

pub returns : goal.returns
returns c =
    let a = c.args in
    let g = a.graph in
    let r = c.spectral_embedding.result in
    handed_back (Embeds a.d (params_of a.params) g.starts.now g.columns.now g.values.now (verdict_of r.verdict) (counts_in r.counts))
    (embeds_in r _ _ c.spectral_embedding.ensures.answer c.requires.0 c.requires.1 c.requires.3
    (ap (λ (x : ℕ). 64 ∷ 64 ∷ 1_024 ∷ 1_024 ∷ 960 ∷ 960 ∷ 960 ∷ 225 ∷ 1 ∷ x ∷ 6_400 ∷ []) c.requires.2))
    (search rules)
