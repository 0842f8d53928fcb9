-- Up to the size line: what each line does to the head that is looked for. Assumes nothing.
use mathlib.Core.Path.{◌≡◌, refl, sym, ap, ◌∙◌}
use mathlib.Core.Bool.{Bool, true, false, cond}
use mathlib.Core.List.{List, [], ◌∷◌}
use mathlib.Core.Logic.{⊎_elim}
use Prim.Native.Nat.{ℕ, suc, ◌+◌, ◌≤◌}
use native.Mathlib.Numerals.{add-one}
use native.Mathlib.Omega.{arith}
use denote.Enum.Declared
use types.Run.{OneOf}
use lib.ListN.{length}
use Rattle.digits.proofs.Bytes.{lt_or_ge}
use Rattle.lines.proofs.Ends.{kinds_end}
use Rattle.lines.specs.contracts.Kind as KindOf
use Rattle.lines.specs.Lines.{lines_of}
use Rattle.lines.specs.Kinds.{kinds_at}
use Rattle.lines.specs.Read.{ReadsLine, ReadsBanner}
use Rattle.lines.specs.declared.Kind.{Kind}
use Rattle.lines.specs.declared.Kind.TheVariants as K
use Rattle.lines.specs.declared.BannerRead.{BannerRead}
use Rattle.lines.specs.declared.LineRead.{LineRead}
use Rattle.market.specs.Market.{sized, wrong, head_from, head_of, right_size}
use Rattle.scanning.specs.Said.{Place, ReadsHead}
use Rattle.scanning.specs.Inner.{FindsSize}
use Rattle.scanning.specs.declared.HeadRead.{HeadRead}
use Rattle.std.specs.Prelude.{Result, Ok, Err}

-- which of its variants a kind is, counted from 0: what an arm of a `match` with several knows
abbrev pub variant : Kind → ℕ
variant k = Declared.tag_of KindOf.the_type k

-- ---- one line

-- a blank line or a comment
head-on : (k : ℕ) (kind : Kind) (ks : List Kind) → OneOf (0 ∷ 1 ∷ []) (variant kind) → head_from k (kind ∷ ks) ≡ head_from (suc k) ks
unfolding head_from
head-on k K.Blank ks t = refl
head-on k K.Comment ks t = refl
head-on k (K.Entry r c) ks t = ⊎_elim (λ e. absurd (omega arith)) (λ e. absurd (omega arith)) t
head-on k (K.Size r c m) ks t = ⊎_elim (λ e. absurd (omega arith)) (λ e. absurd (omega arith)) t
head-on k K.Other ks t = ⊎_elim (λ e. absurd (omega arith)) (λ e. absurd (omega arith)) t

-- an entry or what no line may say
head_off : (k : ℕ) (kind : Kind) (ks : List Kind) → OneOf (2 ∷ 4 ∷ []) (variant kind) → head_from k (kind ∷ ks) ≡ wrong k
unfolding head_from
head_off k K.Blank ks t = ⊎_elim (λ e. absurd (omega arith)) (λ e. absurd (omega arith)) t
head_off k K.Comment ks t = ⊎_elim (λ e. absurd (omega arith)) (λ e. absurd (omega arith)) t
head_off k (K.Entry r c) ks t = refl
head_off k (K.Size r c m) ks t = ⊎_elim (λ e. absurd (omega arith)) (λ e. absurd (omega arith)) t
head_off k K.Other ks t = refl

head-size : (k r c m : ℕ) (ks : List Kind) (b : Bool) → b ≡ right_size r c m → head_from k (K.Size r c m ∷ ks) ≡ cond b (sized r m (suc k) ks) (wrong k)
unfolding head_from
head-size k r c m ks b e = ap (λ (t : Bool). cond t (sized r m (suc k) ks) (wrong k)) (sym e)

head_end_lem : (k : ℕ) → head_from k [] ≡ wrong k
unfolding head_from
head_end_lem k = refl

-- ---- the loop

-- line `line` begins at `at`, and no size line stands before it
pub record Finding (text : List ℕ) (from at line : ℕ) : Type 0 where
  pub is : head_from 2 (kinds_at text from) ≡ head_from line (kinds_at text at)
  pub within : at ≤ length text
  pub line_low : line ≤ at

module _ (text : List ℕ) (from at line : ℕ) (f : Finding text from at line) where
  pub find_end : length text ≤ at → FindsSize text from (Err line)
  find_end h = record {
    is = f.is ∙ ap (head_from line) (kinds_end text at h) ∙ head_end_lem line;
    within = omega arith;
    line = omega arith;
  }

  module _ (r : LineRead) (reads : ReadsLine text at r) where
    behind : head_from 2 (kinds_at text from) ≡ head_from line (r.kind ∷ kinds_at text r.next)
    behind = f.is ∙ ap (head_from line) reads.lines

    pub find_on : OneOf (0 ∷ 1 ∷ []) (variant r.kind) → Finding text from r.next (line + 1)
    find_on t = record {
      is = behind ∙ head-on line r.kind (kinds_at text r.next) t ∙ ap (λ (k : ℕ). head_from k (kinds_at text r.next)) (sym (add-one line));
      within = reads.within;
      line_low = omega (arith, reads.on, f.line_low);
    }

    pub find_off : OneOf (2 ∷ 4 ∷ []) (variant r.kind) → FindsSize text from (Err line)
    find_off t = record {
      is = behind ∙ head_off line r.kind (kinds_at text r.next) t;
      within = omega arith;
      line = omega arith;
    }

    module _ (a c m : ℕ) (is-size : r.kind ≡ K.Size a c m) where
      size_told : (b : Bool) → b ≡ right_size a c m
          → head_from 2 (kinds_at text from) ≡ cond b (sized a m (suc line) (kinds_at text r.next)) (wrong line)
      size_told b e =
          behind ∙ ap (λ (k : Kind). head_from line (k ∷ kinds_at text r.next)) is-size
          ∙ head-size line a c m (kinds_at text r.next) b e

      pub find_size : true ≡ right_size a c m → FindsSize text from (Ok (record { n = a; m = m; at = r.next; line = line + 1 }))
      find_size e = record {
        is = size_told true e ∙ ap (λ (k : ℕ). sized a m k (kinds_at text r.next)) (sym (add-one line));
        within = reads.within;
        line = omega (arith, reads.on, f.line_low);
      }

      pub find_wrong : false ≡ right_size a c m → FindsSize text from (Err line)
      find_wrong e = record { is = size_told false e; within = omega arith; line = omega arith }

-- ---- the banner

head_empty : (text : List ℕ) → length text ≡ 0 → head_of (lines_of text) ≡ wrong 1
unfolding lines_of head_of
head_empty [] h = refl
head_empty (b ∷ bs) h = absurd (omega arith)

module _ (text : List ℕ) (b : BannerRead) (reads : ReadsBanner text b) where
  -- by the first line, where there is one
  head_told_lem : 1 ≤ length text → (t : Bool) → b.is_right ≡ t → head_of (lines_of text) ≡ cond t (head_from 2 (kinds_at text b.next)) (wrong 1)
  unfolding head_of
  head_told_lem some t e =
      ap head_of (reads.lines some)
      ∙ ap (λ (u : Bool). cond u (head_from 2 (kinds_at text b.next)) (wrong 1)) (sym reads.right ∙ e)

  pub head-wrong : b.is_right ≡ false → ReadsHead text (Err 1)
  head-wrong e = record {
    is = ⊎_elim (λ h. head_told_lem h false e) (λ h. head_empty text (omega arith)) (lt_or_ge 0 (length text));
    within = omega arith;
    line = omega arith;
  }

  module _ (right : b.is_right ≡ true) where
    pub head-place : Place text b.next 2
    head-place = record { within = reads.within; line = reads.on (sym reads.right ∙ right) }

    pub head-right : (r : Result HeadRead ℕ) → FindsSize text b.next r → ReadsHead text r
    head-right r f =
        let on : 2 ≤ b.next = reads.on (sym reads.right ∙ right) in
        record { is = head_told_lem (omega (arith, reads.within)) true right ∙ f.is; within = f.within; line = f.line }
