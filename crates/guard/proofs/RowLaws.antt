-- Laws of a chunk's rows: when a start has a fault, and when none has; columns past the last one allowed. Assumes nothing.
use mathlib.Core.Path.{◌≡◌, refl, sym, ap, ap₂, ◌∙◌}
use mathlib.Core.Bool.{Bool, true, false, ◌||◌}
use mathlib.Core.List.{List}
use Prim.Native.Nat.{ℕ, suc, ◌+◌, ◌-◌, ◌≤◌, ◌<◌}
use native.Mathlib.Omega.{arith}
use borrow.Author.Tests.{lt-ltb, le-ltb, le-leb, lt-leb}
use lib.Dec.{leb, ltb}
use lib.ListN.{length, get_or}
use Rattle.definition.specs.Numbers.{first_row}
use Rattle.definition.specs.Requirements.{Starts}
use Rattle.definition.proofs.Chunks.{first-up}
use Rattle.definition.proofs.Fill.{split}
use Rattle.definition.proofs.Rows.{rising-up, starts-up}
use Rattle.machine.specs.Ranges.{none_from, start_fault}
use Rattle.ready.proofs.Tested.{at_none}
use Rattle.guard.proofs.Scans.{found_at}

-- a scan's bounds, as the code found them
pub bounds : (f : ℕ → Bool) {a b e d : ℕ} → a ≡ b → e ≡ d → none_from f a e ≡ none_from f b d
bounds f p q = ap₂ (λ (x y : ℕ). none_from f x y) p q

or_either : (a b : Bool) → b ≡ true → (a || b) ≡ true
or_either true b h = refl
or_either false b h = h

module _ (entries : ℕ) (starts : List ℕ) (i : ℕ) where
  abbrev falls : Bool
  falls = ltb (get_or starts (i + 1) 0) (get_or starts i 0)

  abbrev passes_end : Bool
  passes_end = ltb entries (get_or starts (i + 1) 0)

  pub fault-falls : get_or starts (i + 1) 0 < get_or starts i 0 → start_fault entries starts i ≡ true
  fault-falls h = ap (λ (b : Bool). b || passes_end) (lt-ltb (get_or starts (i + 1) 0) (get_or starts i 0) h)

  pub fault_past : entries < get_or starts (i + 1) 0 → start_fault entries starts i ≡ true
  fault_past h = or_either falls passes_end (lt-ltb entries (get_or starts (i + 1) 0) h)

  pub fault-none : get_or starts i 0 ≤ get_or starts (i + 1) 0 → get_or starts (i + 1) 0 ≤ entries → start_fault entries starts i ≡ false
  fault-none h g =
      ap₂ (λ (a b : Bool). a || b) (le-ltb (get_or starts (i + 1) 0) (get_or starts i 0) h) (le-ltb entries (get_or starts (i + 1) 0) g)

-- starts that do not fall: the last one decides
pub rising-sound : (entries : ℕ) (starts : List ℕ) (first end : ℕ) → first < end
    → ((i : ℕ) → first ≤ i → i < end → get_or starts i 0 ≤ get_or starts (i + 1) 0) → leb (get_or starts end 0) entries ≡ none_from (start_fault entries starts) first end
rising-sound entries starts first end l r =
    split (get_or starts end 0) (suc entries)
    (λ s. le-leb (get_or starts end 0) entries (omega arith)
    ∙ sym (at_none (start_fault entries starts) first end (omega arith)
    (λ i p q. fault-none entries starts i (r i p q) (omega (arith, rising-up starts first end r (i + 1) end (omega arith) (omega arith) (omega arith))))))
    (λ s. let z : end - 1 + 1 ≡ end = omega arith in
    lt-leb (get_or starts end 0) entries (omega arith)
    ∙ sym (found_at (start_fault entries starts) first end (end - 1) (omega arith) (omega arith)
    (fault_past entries starts (end - 1) (omega (arith, ap (λ (j : ℕ). get_or starts j 0) z)))))

-- past the last column allowed is not below n
pub past_high : (n c : ℕ) → 1 ≤ n → ltb (n - 1) c ≡ leb n c
past_high n c l = split (n - 1) c (λ s. lt-ltb (n - 1) c s ∙ sym (le-leb n c (omega arith))) (λ s. le-ltb (n - 1) c s ∙ sym (lt-leb n c (omega arith)))

-- ---- where a chunk's rows begin and end, as the code found them
module _ (starts : List ℕ) (n h m : ℕ) (s : Starts starts (first_row n h) (first_row n (h + 1)) m) where
  pub chunk-ends : {f e : ℕ} → f ≡ first_row n h → e ≡ first_row n (h + 1)
      → (f ≤ e) × (e < length starts) × (get_or starts f 0 ≤ get_or starts e 0) × (get_or starts e 0 ≤ m)
  chunk-ends p q =
      let o = first-up n h (h + 1) (omega arith) in
      rw (p, q)
      (o, s.enough, starts-up starts (first_row n h) (first_row n (h + 1)) m s (first_row n h) (first_row n (h + 1)) (omega arith) o (omega arith), s.within (first_row n (h + 1)) o (omega arith))
