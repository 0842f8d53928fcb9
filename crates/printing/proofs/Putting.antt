-- A text put into a list, and another behind it. Assumes nothing.
use mathlib.Core.Path.{◌≡◌, sym, ap, ap₂, ◌∙◌}
use mathlib.Core.Bool.{Bool, cond}
use mathlib.Core.List.{List, [], ◌++◌, append_assoc}
use Prim.Native.Nat.{ℕ, ◌+◌, ◌≤◌}
use native.Mathlib.Nat.{add-zero}
use native.Mathlib.Omega.{arith}
use borrow.Author.Tests.{le-leb}
use lib.ListN.{length, take, drop, length-append, take-append-drop}
use lib.Seq.{length-take-le, take_at, drop-drop, take-length, paste}
use Rattle.digits.specs.Placed.{put, placed, Writes}
use Rattle.std.specs.Prelude.{Option, Some, IsSome}
use Rattle.std.specs.Option.{is_some}
use Rattle.digits.proofs.Lists.{put-behind}
use Rattle.digits.proofs.RoundTrip.{fits-written}

-- what each function here ensures: the place behind the text, and every byte
abbrev pub Put : List ℕ → ℕ → List ℕ → ℕ → List ℕ → Type 0
Put text at out next after = (next ≡ at + length text) × (after ≡ put text at out)

-- nothing put
pub put-none : (at : ℕ) (out : List ℕ) → Put [] at out at out
put-none at out =
    (sym (add-zero at), sym (ap (λ (n : ℕ). take at out ++ drop n out) (add-zero at) ∙ take-append-drop at out))

-- the digits' writers put their text where it fits
module _ (text : List ℕ) (at : ℕ) (out : List ℕ) (answer : Option ℕ) (after : List ℕ) (fits : at + length text ≤ length out) (w : Writes text at out answer after) where
  written : answer ≡ Some (at + length text)
  written = w.answered ∙ fits-written text at out fits

  pub written-some : IsSome answer
  written-some = ap is_some written

  pub written-put : (next : ℕ) → answer ≡ Some next → Put text at out next after
  unfolding placed
  written-put next e =
      let k : Some (at + length text) ≡ Some next = sym written ∙ e in
      (cc, w.bytes ∙ ap (λ (t : Bool). cond t (put text at out) out) (le-leb (at + length text) (length out) fits))

-- a copy of the whole text
pub copied_put : (text : List ℕ) (at : ℕ) (out : List ℕ) → paste out at text (length text) ≡ put text at out
copied_put text at out =
    append_assoc (take at out) (take (length text) text) (drop (at + length text) out)
    ∙ ap (λ (t : List ℕ). take at out ++ (t ++ drop (at + length text) out)) (take-length text)

-- ---- two texts, one behind the other
module _ (a b : List ℕ) (at : ℕ) (out : List ℕ) (fits : at + length a ≤ length out) where
  front : take (at + length a) (put a at out) ≡ take at out ++ a
  front =
      ap (take (at + length a)) (sym (append_assoc (take at out) a (drop (at + length a) out)))
      ∙ take_at (take at out ++ a) (drop (at + length a) out) (at + length a)
      (length-append (take at out) a ∙ ap (λ (n : ℕ). n + length a) (length-take-le at out (omega arith)))

  behind : drop ((at + length a) + length b) (put a at out) ≡ drop (at + length (a ++ b)) out
  behind =
      let n : (at + length a) + length b ≡ at + length (a ++ b) = omega (arith, length-append a b) in
      sym (drop-drop (length b) (at + length a) (put a at out)) ∙ ap (drop (length b)) (put-behind a at out fits)
      ∙ drop-drop (length b) (at + length a) out ∙ ap (λ (k : ℕ). drop k out) n

  put_append : put b (at + length a) (put a at out) ≡ put (a ++ b) at out
  put_append =
      ap₂ (λ (l r : List ℕ). l ++ (b ++ r)) front behind
      ∙ append_assoc (take at out) a (b ++ drop (at + length (a ++ b)) out)
      ∙ ap (λ (r : List ℕ). take at out ++ r) (sym (append_assoc a b (drop (at + length (a ++ b)) out)))

  pub put_then : {next end : ℕ} {between after : List ℕ} → Put a at out next between → Put b next between end after
      → Put (a ++ b) at out end after
  put_then p q = (
    omega (arith, length-append a b, p.0, q.0),
    q.1 ∙ ap₂ (λ (n : ℕ) (l : List ℕ). put b n l) p.0 p.1 ∙ put_append,
  )
