-- What is left to read once some lines are read: for the code, which goes line by line, and for the laws of whole files. Assumes nothing.
use mathlib.Core.Path.{◌≡◌, refl, sym, ap, ◌∙◌}
use mathlib.Core.Bool.{Bool, true, cond, false≢true}
use mathlib.Core.List.{List, [], ◌∷◌}
use Prim.Native.Nat.{ℕ, zero, suc, ◌≤◌, ◌<◌}
use native.Mathlib.Omega.{arith}
use borrow.Author.Tests.{lt-ltb, le-ltb}
use lib.Dec.{eqb, ltb}
use lib.ListN.{length, get_or}
use Rattle.digits.specs.Digits.{every}
use Rattle.std.specs.Prelude.{Option, Some, None, Err}
use Rattle.std.specs.Option.{ok_or}
use Rattle.digits.specs.ReadDecimal.{some_number}
use Rattle.digits.proofs.Reading.{same_number}
use Rattle.reading.specs.declared.Kind.TheVariants.{UpTo, Bits}
use Rattle.reading.specs.Grammar.{bytes_most, RunNumbers, numbers_at, line_at, line_count, largest64, rounds_most, d_line, rounds_line, degree_line, seed_std_line, starts_line, columns_line, values_line}
use Rattle.reading.specs.ReadLine.{Found, found, none, line_from}
use Rattle.reading.specs.ReadRun.{Read, run, fault, on_line, one, read_lists, read_lines, read_run}
use Rattle.reading.specs.Parts.{line_of, one_of, read_entries}
use Rattle.reading.proofs.Lines.{Fair, line-sound}

-- what `ok_or` makes of an answer that is none
pub refused_as : {A : Type 0} (o : Option A) (line e : ℕ) → Err e ≡ ok_or o line → (o ≡ None) × (e ≡ line)
refused_as None line e h = (refl, cc)
refused_as (Some x) line e h = let z : ◌≡◌ {A = ℕ} 0 1 = cc in absurd (omega arith)

-- ---- line by line
pub each_line : (P : ℕ → Type 0) → P 0 → P 1 → P 2 → P 3 → P 4 → P 5 → P 6 → (i : ℕ) → i < line_count → P i
each_line P a b c d e f g zero h = a
each_line P a b c d e f g (suc zero) h = b
each_line P a b c d e f g (suc (suc zero)) h = c
each_line P a b c d e f g (suc (suc (suc zero))) h = d
each_line P a b c d e f g (suc (suc (suc (suc zero)))) h = e
each_line P a b c d e f g (suc (suc (suc (suc (suc zero))))) h = f
each_line P a b c d e f g (suc (suc (suc (suc (suc (suc zero)))))) h = g
each_line P a b c d e f g (suc (suc (suc (suc (suc (suc (suc i))))))) h = absurd (omega arith)

in_decimal : (name : List ℕ) (largest fewest most : ℕ) → every (ltb 0) name ≡ true → largest ≤ largest64 → fewest ≤ 1
    → Fair (line_of name (UpTo largest) fewest most)
in_decimal name largest fewest most p q r = record { few = r; small = q; bits = λ e. absurd (false≢true e); letters = p }

in_hex_lem : (name : List ℕ) (fewest most : ℕ) → every (ltb 0) name ≡ true → fewest ≤ 1 → Fair (line_of name Bits fewest most)
in_hex_lem name fewest most p r = record { few = r; small = omega arith; bits = λ e. refl; letters = p }

pub fair : (i : ℕ) → i < line_count → Fair (line_at i)
unfolding every
fair =
    each_line (λ i. Fair (line_at i))
    (in_decimal d_line.name largest64 1 1 refl (omega arith) (omega arith))
    (in_decimal rounds_line.name rounds_most 1 1 refl (omega arith) (omega arith))
    (in_decimal degree_line.name largest64 1 1 refl (omega arith) (omega arith))
    (in_hex_lem seed_std_line.name 1 1 refl (omega arith))
    (in_decimal starts_line.name largest64 0 starts_line.most refl (omega arith) (omega arith))
    (in_decimal columns_line.name columns_line.largest 0 columns_line.most refl (omega arith) (omega arith))
    (in_hex_lem values_line.name 0 values_line.most refl (omega arith))

-- ---- what is left after 0 to 7 lines, and with what the next line is found to be
unfoldable pub after7 : List ℕ → RunNumbers → ℕ → Read
after7 bytes f at = cond (eqb at (length bytes)) (run f) (fault 8)

abbrev with7 : List ℕ → ℕ → ℕ → ℕ → ℕ → List ℕ → List ℕ → Found → Read
with7 bytes d rounds degree seed_std starts columns F =
    on_line F 7
    (λ values next. after7 bytes
    (record { d = d; rounds = rounds; degree = degree; seed_std = seed_std; starts = starts; columns = columns; values = values }) next)

unfoldable pub after6 : List ℕ → ℕ → ℕ → ℕ → ℕ → List ℕ → List ℕ → ℕ → Read
after6 bytes d rounds degree seed_std starts columns at = with7 bytes d rounds degree seed_std starts columns (line_from values_line bytes at)

abbrev with6 : List ℕ → ℕ → ℕ → ℕ → ℕ → List ℕ → Found → Read
with6 bytes d rounds degree seed_std starts F = on_line F 6 (λ columns next. after6 bytes d rounds degree seed_std starts columns next)

abbrev with5 : List ℕ → ℕ → ℕ → ℕ → ℕ → Found → Read
with5 bytes d rounds degree seed_std F = on_line F 5 (λ starts next. read_entries bytes d rounds degree seed_std starts next)

unfoldable pub after4 : List ℕ → ℕ → ℕ → ℕ → ℕ → ℕ → Read
after4 bytes d rounds degree seed_std at = with5 bytes d rounds degree seed_std (line_from starts_line bytes at)

abbrev with4 : List ℕ → ℕ → ℕ → ℕ → Found → Read
with4 bytes d rounds degree F = on_line F 4 (λ vs next. after4 bytes d rounds degree (one vs) next)

unfoldable pub after3 : List ℕ → ℕ → ℕ → ℕ → ℕ → Read
after3 bytes d rounds degree at = with4 bytes d rounds degree (line_from seed_std_line bytes at)

abbrev with3 : List ℕ → ℕ → ℕ → Found → Read
with3 bytes d rounds F = on_line F 3 (λ vs next. after3 bytes d rounds (one vs) next)

unfoldable pub after2 : List ℕ → ℕ → ℕ → ℕ → Read
after2 bytes d rounds at = with3 bytes d rounds (line_from degree_line bytes at)

abbrev with2 : List ℕ → ℕ → Found → Read
with2 bytes d F = on_line F 2 (λ vs next. after2 bytes d (one vs) next)

unfoldable pub after1 : List ℕ → ℕ → ℕ → Read
after1 bytes d at = with2 bytes d (line_from rounds_line bytes at)

abbrev with1 : List ℕ → Found → Read
with1 bytes F = on_line F 1 (λ vs next. after1 bytes (one vs) next)

unfoldable pub after0 : List ℕ → ℕ → Read
after0 bytes at = with1 bytes (line_from d_line bytes at)

-- after i lines, whose numbers are those of f
abbrev pub rest_at : List ℕ → RunNumbers → ℕ → ℕ → Read
rest_at bytes f at i =
    get_or
    (after0 bytes at
    ∷ after1 bytes f.d at
    ∷ after2 bytes f.d f.rounds at
    ∷ after3 bytes f.d f.rounds f.degree at
    ∷ after4 bytes f.d f.rounds f.degree f.seed_std at
    ∷ read_entries bytes f.d f.rounds f.degree f.seed_std f.starts at
    ∷ after6 bytes f.d f.rounds f.degree f.seed_std f.starts f.columns at
    ∷ after7 bytes f at
    ∷ [])
    i
    (fault 8)

start_of : (bytes : List ℕ) → read_lines bytes ≡ after0 bytes 0
unfolding read_lines read_lists after0 after1 after2 after3 after4 read_entries after6 after7
start_of bytes = refl

lists_of : (bytes : List ℕ) (d rounds degree seed_std at : ℕ) → read_lists bytes d rounds degree seed_std at ≡ after4 bytes d rounds degree seed_std at
unfolding read_lists after4 read_entries after6 after7
lists_of bytes d rounds degree seed_std at = refl

pub few_bytes : (bytes : List ℕ) → length bytes ≤ bytes_most → read_run bytes ≡ read_lines bytes
unfolding read_run
few_bytes bytes h = ap (λ (t : Bool). cond t (fault 0) (read_lines bytes)) (le-ltb bytes_most (length bytes) h)

pub many_bytes : (bytes : List ℕ) → bytes_most < length bytes → read_run bytes ≡ fault 0
unfolding read_run
many_bytes bytes h = ap (λ (t : Bool). cond t (fault 0) (read_lines bytes)) (lt-ltb bytes_most (length bytes) h)

pub rest-start : (bytes : List ℕ) (f : RunNumbers) → read_lines bytes ≡ rest_at bytes f 0 0
rest-start bytes f = start_of bytes

pub rest-lists : (bytes : List ℕ) (f : RunNumbers) (at : ℕ) → read_lists bytes f.d f.rounds f.degree f.seed_std at ≡ rest_at bytes f at 4
rest-lists bytes f at = lists_of bytes f.d f.rounds f.degree f.seed_std at

pub rest_end : (bytes : List ℕ) (f : RunNumbers) (at : ℕ) → rest_at bytes f at 7 ≡ cond (eqb at (length bytes)) (run f) (fault 8)
unfolding after7
rest_end bytes f at = refl

-- ---- one line more
module _ (bytes : List ℕ) (f : RunNumbers) where
  pub rest-found : (i : ℕ) → i < line_count → (at : ℕ) (vs : List ℕ) (next : ℕ) → line_from (line_at i) bytes at ≡ found vs next → numbers_at f i ≡ vs
      → rest_at bytes f at i ≡ rest_at bytes f next (suc i)
  unfolding after0 after1 after2 after3 after4 read_entries after6 after7
  rest-found =
      each_line (λ i. (at : ℕ) (vs : List ℕ) (next : ℕ) → line_from (line_at i) bytes at ≡ found vs next → numbers_at f i ≡ vs
      → rest_at bytes f at i ≡ rest_at bytes f next (suc i))
      (λ at vs next e h. ap (with1 bytes) (e ∙ ap (λ (x : List ℕ). found x next) (sym h)))
      (λ at vs next e h. ap (with2 bytes f.d) (e ∙ ap (λ (x : List ℕ). found x next) (sym h)))
      (λ at vs next e h. ap (with3 bytes f.d f.rounds) (e ∙ ap (λ (x : List ℕ). found x next) (sym h)))
      (λ at vs next e h. ap (with4 bytes f.d f.rounds f.degree) (e ∙ ap (λ (x : List ℕ). found x next) (sym h)))
      (λ at vs next e h. ap (with5 bytes f.d f.rounds f.degree f.seed_std) (e ∙ ap (λ (x : List ℕ). found x next) (sym h)))
      (λ at vs next e h. ap (with6 bytes f.d f.rounds f.degree f.seed_std f.starts) (e ∙ ap (λ (x : List ℕ). found x next) (sym h)))
      (λ at vs next e h. ap (with7 bytes f.d f.rounds f.degree f.seed_std f.starts f.columns)
      (e ∙ ap (λ (x : List ℕ). found x next) (sym h)))

  pub rest-none : (i : ℕ) → i < line_count → (at : ℕ) → line_from (line_at i) bytes at ≡ none → rest_at bytes f at i ≡ fault (suc i)
  unfolding after0 after1 after2 after3 after4 read_entries after6 after7
  rest-none =
      each_line (λ i. (at : ℕ) → line_from (line_at i) bytes at ≡ none → rest_at bytes f at i ≡ fault (suc i))
      (λ at e. ap (with1 bytes) e)
      (λ at e. ap (with2 bytes f.d) e)
      (λ at e. ap (with3 bytes f.d f.rounds) e)
      (λ at e. ap (with4 bytes f.d f.rounds f.degree) e)
      (λ at e. ap (with5 bytes f.d f.rounds f.degree f.seed_std) e)
      (λ at e. ap (with6 bytes f.d f.rounds f.degree f.seed_std f.starts) e)
      (λ at e. ap (with7 bytes f.d f.rounds f.degree f.seed_std f.starts f.columns) e)

-- ---- where a line ends
pub line-inside : (i : ℕ) → i < line_count → (bytes : List ℕ) (at : ℕ) (vs : List ℕ) (next : ℕ) → line_from (line_at i) bytes at ≡ found vs next
    → next ≤ length bytes
line-inside i below bytes at vs next e = (line-sound (line_at i) bytes (fair i below) at vs next e).inside

-- ---- lines 1 to 4, each with one number
one-says : (F : Found) (v next : ℕ) → one_of F ≡ some_number v next → (vs : List ℕ) × (F ≡ found vs next) × (one vs ≡ v)
one-says (found vs n) v next e = let s = same_number (one vs) n v next e in (vs, ap (found vs) s.1, s.0)
one-says none v next e = let z : ◌≡◌ {A = ℕ} 0 1 = cc in absurd (omega arith)

one_none : (F : Found) → one_of F ≡ None → F ≡ none
one_none (found vs n) h = let z : ◌≡◌ {A = ℕ} 0 1 = cc in absurd (omega arith)
one_none none h = refl

-- the place behind such a line
pub one_inside : (i : ℕ) → i < line_count → (bytes : List ℕ) (at v next : ℕ) → one_of (line_from (line_at i) bytes at) ≡ some_number v next
    → next ≤ length bytes
one_inside i below bytes at v next e =
    let s = one-says (line_from (line_at i) bytes at) v next e in
    line-inside i below bytes at s.0 next s.1

module _ (bytes : List ℕ) where
  pub d-right : (v next : ℕ) → one_of (line_from d_line bytes 0) ≡ some_number v next → read_lines bytes ≡ after1 bytes v next
  unfolding after0
  d-right v next e =
      let s = one-says (line_from d_line bytes 0) v next e in
      start_of bytes ∙ ap (with1 bytes) s.1 ∙ ap (λ (x : ℕ). after1 bytes x next) s.2

  pub d-wrong : one_of (line_from d_line bytes 0) ≡ None → read_lines bytes ≡ fault 1
  unfolding after0
  d-wrong e = start_of bytes ∙ ap (with1 bytes) (one_none (line_from d_line bytes 0) e)

  pub rounds-right : (d at v next : ℕ) → one_of (line_from rounds_line bytes at) ≡ some_number v next → after1 bytes d at ≡ after2 bytes d v next
  unfolding after1
  rounds-right d at v next e =
      let s = one-says (line_from rounds_line bytes at) v next e in
      ap (with2 bytes d) s.1 ∙ ap (λ (x : ℕ). after2 bytes d x next) s.2

  pub rounds-wrong : (d at : ℕ) → one_of (line_from rounds_line bytes at) ≡ None → after1 bytes d at ≡ fault 2
  unfolding after1
  rounds-wrong d at e = ap (with2 bytes d) (one_none (line_from rounds_line bytes at) e)

  pub degree-right : (d rounds at v next : ℕ) → one_of (line_from degree_line bytes at) ≡ some_number v next
      → after2 bytes d rounds at ≡ after3 bytes d rounds v next
  unfolding after2
  degree-right d rounds at v next e =
      let s = one-says (line_from degree_line bytes at) v next e in
      ap (with3 bytes d rounds) s.1 ∙ ap (λ (x : ℕ). after3 bytes d rounds x next) s.2

  pub degree-wrong : (d rounds at : ℕ) → one_of (line_from degree_line bytes at) ≡ None → after2 bytes d rounds at ≡ fault 3
  unfolding after2
  degree-wrong d rounds at e = ap (with3 bytes d rounds) (one_none (line_from degree_line bytes at) e)

  pub seed-right : (d rounds degree at v next : ℕ) → one_of (line_from seed_std_line bytes at) ≡ some_number v next
      → after3 bytes d rounds degree at ≡ read_lists bytes d rounds degree v next
  unfolding after3
  seed-right d rounds degree at v next e =
      let s = one-says (line_from seed_std_line bytes at) v next e in
      ap (with4 bytes d rounds degree) s.1 ∙ ap (λ (x : ℕ). after4 bytes d rounds degree x next) s.2
      ∙ sym (lists_of bytes d rounds degree v next)

  pub seed-wrong : (d rounds degree at : ℕ) → one_of (line_from seed_std_line bytes at) ≡ None → after3 bytes d rounds degree at ≡ fault 4
  unfolding after3
  seed-wrong d rounds degree at e = ap (with4 bytes d rounds degree) (one_none (line_from seed_std_line bytes at) e)
