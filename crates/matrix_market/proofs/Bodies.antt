-- The passes over the text together: which file it is, or the first line at fault. Assumes nothing.
use mathlib.Core.Bool.{true, false}
use mathlib.Core.List.{List, []}
use mathlib.Core.Path.{◌≡◌, refl, ap, ◌∙◌}
use Prim.Native.Nat.{ℕ, ◌≤◌, ◌<◌}
use borrow.Author.Tests.{lt-ltb, le-ltb}
use lib.ListN.{length}
use Rattle.lines.specs.Lines.{lines_of}
use Rattle.lines.specs.Kinds.{kinds_at}
use Rattle.lines.specs.declared.Kind.{Kind}
use Rattle.market.specs.Market.{market, body, Head, head_of, on_head, read_market}
use Rattle.market.specs.Passes.{Stop, scan_from, repeat_from, entries_in, read_by, Within}
use Rattle.market.proofs.Passes.{by_parts}
use Rattle.market.proofs.Right.{Right, Distinct, body-right, fresh_distinct}
use Rattle.mirrored.proofs.Sizes.{placed-size}
use Rattle.matrix_market.specs.Said.{Tests, entries_at}
use Rattle.matrix_market.specs.declared.Tested.{Tested}
use Rattle.std.specs.Prelude.{Result, Ok, Err}

-- ---- a right body

module _ (n m k : ℕ) (ks : List Kind) (is : body n m [] k ks ≡ market n (entries_in ks)) where
  right-all : Right n m [] ks (market n (entries_in ks))
  right-all = body-right n (entries_in ks) n m [] k ks is

  pub right-within : Within n (entries_in ks)
  right-within = right-all.within

  pub right_distinct : Distinct (entries_in ks)
  right_distinct = fresh_distinct [] (entries_in ks) right-all.fresh

-- ---- behind the size line

module _ (text : List ℕ) (from n m k : ℕ) (s : Stop) (is : s ≡ scan_from n m 0 0 k (kinds_at text from)) (again : ℕ)
    (rep : again ≡ repeat_from [] k s.line (kinds_at text from)) where
  body_is : body n m [] k (kinds_at text from) ≡ read_by n s again (entries_in (kinds_at text from))
  body_is = rw (rep, is) (by_parts n m [] 0 0 k (kinds_at text from) refl)

  pub tested_again : again < s.line → Tests (body n m [] k (kinds_at text from)) text (Err again)
  unfolding read_by
  tested_again h = record { is = body_is ∙ rw (lt-ltb again s.line h) refl; counted = tt }

  pub tested_wrong : s.line ≤ again → s.right ≡ false → Tests (body n m [] k (kinds_at text from)) text (Err s.line)
  unfolding read_by
  tested_wrong h p = record { is = body_is ∙ rw (le-ltb again s.line h, p) refl; counted = tt }

  body-right-is : s.line ≤ again → s.right ≡ true → body n m [] k (kinds_at text from) ≡ market n (entries_at text from)
  unfolding read_by
  body-right-is h p = body_is ∙ rw (le-ltb again s.line h, p) refl

  pub tested_right : s.line ≤ again → s.right ≡ true → from ≤ length text → s.entries ≤ length text → s.doubles ≤ s.entries
      → Tests (body n m [] k (kinds_at text from)) text (Ok (record { n = n; at = from; entries = s.entries; doubles = s.doubles }))
  tested_right h p w few doubled =
      let b = body-right-is h p in
      record {
        is = b;
        counted = record {
          behind = record { m = m; k = k; is = b; within = w };
          placed = placed-size n m k (kinds_at text from) s is p (right-within n m k (kinds_at text from) b) (right_distinct n m k (kinds_at text from) b);
          few = few;
          doubled = doubled;
        };
      }

-- ---- the whole text

pub whole-text : (text : List ℕ) (h : Head) (r : Result Tested ℕ) → head_of (lines_of text) ≡ h → Tests (on_head h) text r → Tests (read_market text) text r
unfolding read_market
whole-text text h r p t = record { is = ap on_head p ∙ t.is; counted = t.counted }
