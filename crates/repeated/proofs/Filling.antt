-- A block on its way to be full: what is looked for stands behind the entries whose keys are stored. And a block that is, which all lines
-- behind it have met: nothing has to know it then. Assumes nothing.
use mathlib.Core.Path.{◌≡◌, refl, sym, ap, ◌∙◌}
use mathlib.Core.Bool.{Bool, true, false}
use mathlib.Core.List.{List, [], ◌∷◌, ◌++◌}
use Prim.Native.Nat.{ℕ, ◌+◌, ◌≤◌, ◌<◌}
use native.Mathlib.Numerals.{add-one}
use native.Mathlib.Omega.{arith}
use lib.ListN.{length}
use Rattle.definition.proofs.Fill.{split}
use Rattle.lines.specs.Kinds.{kinds_at}
use Rattle.lines.specs.Read.{ReadsLine}
use Rattle.lines.specs.declared.LineRead.{LineRead}
use Rattle.market.specs.Market.{Entry}
use Rattle.market.specs.Passes.{repeat_from, entries_in}
use Rattle.market.proofs.Passes.{repeat_over}
use Rattle.repeated.specs.Blocks.{hits, adding, first_of, meet_from}
use Rattle.repeated.specs.Tables.{places, keys_of, Keeps, Holds, Fills, Passed}
use Rattle.repeated.specs.declared.Rest.{Rest}
use Rattle.repeated.proofs.Repeats.{repeat_hit, repeat_on, repeat_behind}
use Rattle.repeated.proofs.Keys.{first_more}

pub record Filling (text : List ℕ) (from first limit at line : ℕ) (kept : List ℕ) : Type 0 where
  pub block : Holds text from kept
  pub whole : entries_in (kinds_at text from) ≡ first_of text from (length kept) ++ entries_in (kinds_at text at)
  pub same : repeat_from [] first limit (kinds_at text from) ≡ repeat_from (first_of text from (length kept)) line limit (kinds_at text at)
  pub behind : from ≤ at
  pub within : at ≤ length text
  pub below : line ≤ at
  pub begins : at ≤ from → (length kept + 1 < places) × (line < limit)

module _ (text : List ℕ) (from first limit : ℕ) where
  pub filling_none : (kept : List ℕ) → kept ≡ [] → from < length text → first ≤ from → first < limit → Filling text from first limit from first kept
  unfolding keys_of
  filling_none [] e p q r = record {
    block = refl;
    whole = refl;
    same = refl;
    behind = omega arith;
    within = omega arith;
    below = q;
    begins = λ u. (omega arith, r);
  }
  filling_none (x ∷ xs) e p q r = absurd cc

  module _ (at line : ℕ) (kept : List ℕ) (f : Filling text from first limit at line kept) where
    -- the block is full, or nothing is left
    pub filling_done : ((length kept + 1 < places) → (line < limit) → at < length text → ⊥) → from < length text
        → Fills text from first limit (record { at = at; line = line; limit = limit }) kept
    filling_done w p = record {
      block = f.block;
      same = f.same;
      on = split from at (λ u. u) (λ u. let b = f.begins u in absurd (w b.0 b.1 (omega (arith, f.behind))));
      within = f.within;
      below = f.below;
    }

    module _ (r : LineRead) (a : ReadsLine text at r) (p : line < limit) {b : Bool} (g : b ≡ hits (first_of text from (length kept)) r.kind) where
      -- a repeat
      pub filling_hit : b ≡ true → Fills text from first limit (record { at = r.next; line = line; limit = line }) kept
      filling_hit e = record {
        block = f.block;
        same =
            f.same
            ∙ repeat_hit (first_of text from (length kept)) line limit r.kind (kinds_at text r.next) a.lines g p e
            ∙ sym (repeat_over (first_of text from (length kept)) line line (kinds_at text r.next) (omega arith));
        on = omega (arith, f.behind, a.on);
        within = a.within;
        below = omega (arith, f.below, a.on);
      }

      pub filling_on : (kept' : List ℕ) → b ≡ false → Keeps r.kind kept kept' → Filling text from first limit r.next (line + 1) kept'
      filling_on kept' e k =
          let seen = first_of text from (length kept) in
          let s : kept' ≡ keys_of (adding seen r.kind) = k seen f.block in
          let n = first_more text from at r.next seen r.kind kept' f.whole a.lines s in
          record {
            block = s ∙ ap keys_of (sym n.first);
            whole = n.whole ∙ ap (λ (l : List Entry). l ++ entries_in (kinds_at text r.next)) (sym n.first);
            same =
                f.same
                ∙ repeat_on seen line limit r.kind (kinds_at text r.next) a.lines g p e
                ∙ rw (add-one line, n.first);
            behind = omega (arith, f.behind, a.on);
            within = a.within;
            below = omega (arith, f.below, a.on);
            begins = λ u. absurd (omega (arith, f.behind, a.on));
          }

pub filled_met : (text : List ℕ) (from first limit : ℕ) (f : Rest) (kept : List ℕ) (n : ℕ) → Fills text from first limit f kept
    → n ≡ meet_from (first_of text from (length kept)) f.line f.limit (kinds_at text f.at)
    → Passed text from first limit (record { at = f.at; line = f.line; limit = n })
filled_met text from first limit f kept n e m = record {
  same = e.same ∙ repeat_behind (first_of text from (length kept)) f.line f.limit (kinds_at text f.at) ∙ rw m;
  on = e.on;
  within = e.within;
  below = e.below;
}
