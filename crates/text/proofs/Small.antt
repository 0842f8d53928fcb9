-- The one call on the text program's own memory: 11 is never met, the seed and the counts are the definition's, and they are printed. Assumes nothing.
use mathlib.Core.Path.{◌≡◌, refl, sym, ap, ap₂, ◌∙◌, subst}
use mathlib.Core.Bool.{Bool, true, false, cond}
use mathlib.Core.List.{List, [], ◌∷◌, ◌++◌}
use Prim.Native.Nat.{ℕ, zero, suc, ◌+◌, ◌-◌, ◌*◌, ◌≤◌, ◌<◌}
use native.Mathlib.Nat.{mul-le-mul}
use native.Mathlib.Omega.{arith}
use borrow.Author.Tests.{eqb-true, eqb-false, eq-eqb, ne_eqb, le-ltb}
use lib.Dec.{eqb, ltb}
use lib.Ieee.{Float, binary64, nan}
use lib.ListN.{length, get_or}
use Rattle.std.specs.Prelude.{Result, Ok, IsOk}
use Rattle.definition.specs.Arith.{ieee64}
use Rattle.definition.specs.Memory.{wholes_of, place, block_of}
use Rattle.definition.specs.Numbers.{Params, chunks, lent_sizes, lent_size, lent_count}
use Rattle.definition.specs.Refusals.{Verdict, accepted, passes, given, or_else, test_dims, test_graph, test_params, test_lent, test_request}
use Rattle.definition.specs.SpectralEmbedding.{Counts}
use Rattle.definition.proofs.First.{all_first}
use Rattle.digits.specs.Placed.{put}
use Rattle.input.specs.declared.refusal.Refusal.{Refusal}
use Rattle.input.specs.Said.{verdict_of}
use Rattle.input.proofs.Accepted.{both_pass, dims_valid, graph_valid}
use Rattle.input.proofs.Verdicts.{test_passes}
use Rattle.machine.specs.State.{Lists, Lent, lengths_of}
use Rattle.promises.specs.OneCall.{Whole, whole_call, ran_whole, refused_whole}
use Rattle.promises.proofs.Ieee.{steady}
use Rattle.promises.specs.Promises.{stages_of}
use Rattle.promises.proofs.Upward.{whole-shows, here_fit}
use Rattle.printing.specs.Printed.{bits_text, numbers_text, row_name, rows_text, head_text, seed_text, refusal_text, room}
use Rattle.printing.specs.Room.{judged_in, length_in, Leaves}
use Rattle.printing.specs.Answer.{test_printed, answer_text, test_answer}
use Rattle.printing.proofs.Answers.{right-seed, refusal_tests, seed_tests, refusal-says, seed-says, answer-written, answer_left}
use Rattle.printing.proofs.Leaving.{same_text}
use Rattle.spectral.specs.Said.{whole_in}
use Rattle.spectral.specs.declared.Embedded.{Embedded}
use Rattle.state.specs.Said.{lists_in, counts_in}
use Rattle.text.specs.Small.{test_asked, counts_of, seed_of, answer_of, Embeds, lengths}

-- ---- lists, place by place
abbrev AllLe : List ℕ → List ℕ → Type 0
AllLe [] ys = Unit {0}
AllLe (x ∷ xs) [] = ⊥
AllLe (x ∷ xs) (y ∷ ys) = (x ≤ y) × AllLe xs ys

all-le : (xs ys : List ℕ) → AllLe xs ys → (j : ℕ) → get_or xs j 0 ≤ get_or ys j 0
all-le [] ys h j = omega arith
all-le (x ∷ xs) [] h j = absurd h
all-le (x ∷ xs) (y ∷ ys) h zero = h.0
all-le (x ∷ xs) (y ∷ ys) h (suc j) = all-le xs ys h.1 j

-- ---- 11 is not met
lent-accepted : (d rounds n m : ℕ) (lent : ℕ → ℕ) → ((j : ℕ) → lent_size d rounds n m j ≤ lent j) → test_lent d rounds n m lent ≡ accepted
unfolding test_lent
lent-accepted d rounds n m lent h =
    ap (λ (x : ℕ). given (ltb x lent_count) 11 x)
    (all_first (λ j. ltb (lent j) (lent_size d rounds n m j)) 0 lent_count (λ i p q. le-ltb (lent i) (lent_size d rounds n m i) (h i)))

one_chunk : (n : ℕ) → n ≤ 64 → chunks n ≤ 1
unfolding chunks
one_chunk n l = omega arith

sizes_most : (d rounds n m : ℕ) → d ≤ 7 → rounds ≤ 400 → n ≤ 64 → m ≤ 1024 → AllLe (lent_sizes d rounds n m) lengths
unfolding lent_sizes
sizes_most d rounds n m p t q r =
    let w : d + 8 ≤ 15 = omega arith in
    let x : d + 8 + 1 ≤ 16 = omega arith in
    let c : chunks n * (d + 8) ≤ 1 * 15 = mul-le-mul (one_chunk n q) w in
    (q, (q, (r, (r, (mul-le-mul q w, (mul-le-mul q w, (mul-le-mul q w, (mul-le-mul c w, (one_chunk n q, (mul-le-mul q p, (mul-le-mul t x, tt)))))))))))

-- the first test decides, or what comes after is the same
else_alike : (v w w' : Verdict) → (v.number ≡ 0 → w ≡ w') → or_else v w ≡ or_else v w'
unfolding or_else
else_alike v w w' h = by (eqb v.number 0) refl where
  by : (b : Bool) → eqb v.number 0 ≡ b → cond b w v ≡ cond b w' v
  by true e = h (eqb-true v.number 0 e)
  by false e = refl

module _ (d : ℕ) (params : Params) (g : Lists ieee64) (few : length g.starts ≤ 65) (small : length g.columns ≤ 1024) (brief : params.rounds ≤ 400) where
  abbrev rows : ℕ
  rows = length g.starts - 1

  pub same_test : (lent : ℕ → ℕ) → ((j : ℕ) → wholes_of lengths j ≤ lent j)
      → test_request ieee64 d params g.starts g.columns g.values lent ≡ test_asked d params g.starts g.columns g.values
  unfolding test_asked test_request
  same_test lent h =
      else_alike (test_dims d) _ _
      (λ e. let p = (dims_valid d e).1 in
      let most = all-le (lent_sizes d params.rounds rows (length g.columns)) lengths (sizes_most d params.rounds rows (length g.columns) p brief (omega (arith, few)) small) in
      let a = lent-accepted d params.rounds rows (length g.columns) lent (λ j. let u = most j in let v = h j in omega (arith, u, v)) in
      let b = lent-accepted d params.rounds rows (length g.columns) (lent_size d params.rounds rows (length g.columns)) (λ j. omega arith) in
      ap (λ (v : Verdict). or_else (test_graph ieee64 g.starts g.columns g.values) (or_else (test_params params) v)) (a ∙ sym b))

-- ---- the call, as its contract has it
module _ (d : ℕ) (params : Params) (g : Lists ieee64) (few : length g.starts ≤ 65) (small : length g.columns ≤ 1024) (brief : params.rounds ≤ 400) (m : Lent ieee64) (marks : List ℕ) (long : (j : ℕ) → wholes_of lengths j ≤ wholes_of (lengths_of ieee64 m marks) j) where
  abbrev tests : Verdict
  tests = test_request ieee64 d params g.starts g.columns g.values (wholes_of (lengths_of ieee64 m marks))

  abbrev Embedding : Whole ieee64 → Type 0
  Embedding w = Embeds d params g.starts g.columns g.values w.verdict w.counts w.lent.output

  number_of : (w u : Whole ieee64) → w ≡ u → w.verdict.number ≡ u.verdict.number
  number_of w u h = ap (λ (x : Whole ieee64). x.verdict.number) h

  ran : tests.number ≡ 0 → Embedding (ran_whole ieee64 d params g m marks)
  unfolding block_of place
  ran ok =
      let shows = whole-shows ieee64 (steady binary64) d params g m marks ok in
      record {
        refused = λ f. absurd (f refl);
        taken = λ z. sym (ap (λ (v : Verdict). v.number) (same_test d params g few small brief (wholes_of (lengths_of ieee64 m marks)) long)) ∙ ok;
        long = λ z. (here_fit ieee64 (steady binary64) d params g m marks ok (stages_of ieee64 d params g) (omega arith)).lent.lists.output;
        counted = λ z. shows.counts;
        seeded = λ z. shows.seed;
      }

  stayed : (tests.number ≡ 0 → ⊥) → Embedding (refused_whole ieee64 tests m marks)
  stayed non = record {
    refused = λ f. same_test d params g few small brief (wholes_of (lengths_of ieee64 m marks)) long;
    taken = λ z. absurd (non z);
    long = λ z. absurd (non z);
    counted = λ z. absurd (non z);
    seeded = λ z. absurd (non z);
  }

  pub embeds : (w : Whole ieee64) → w ≡ whole_call ieee64 d params g m marks → Embedding w
  unfolding whole_call
  embeds w h = subst Embedding (sym h) (go (passes tests) refl)
    where
      go : (b : Bool) → eqb tests.number 0 ≡ b → Embedding (cond b (ran_whole ieee64 d params g m marks) (refused_whole ieee64 tests m marks))
      go true e = ran (eqb-true tests.number 0 e)
      go false e = stayed (eqb-false tests.number 0 e)

-- ---- the text of a seed depends on its numbers alone
numbers_alike : (row other : ℕ → Float) (m : ℕ) → ((c : ℕ) → c < m → row c ≡ other c) → numbers_text row m ≡ numbers_text other m
unfolding numbers_text
numbers_alike row other zero h = refl
numbers_alike row other (suc zero) h = ap bits_text (h 0 (omega arith))
numbers_alike row other (suc (suc m)) h =
    ap₂ (λ (a : List ℕ) (x : Float). a ++ (44 ∷ bits_text x)) (numbers_alike row other (suc m) (λ c l. h c (omega arith))) (h (suc m) (omega arith))

rows_alike : (seed other : ℕ → ℕ → Float) (d m : ℕ) → ((i c : ℕ) → i < m → c < d → seed i c ≡ other i c) → rows_text seed d m ≡ rows_text other d m
unfolding rows_text
rows_alike seed other d zero h = refl
rows_alike seed other d (suc m) h =
    ap₂ (λ (a b : List ℕ). a ++ (row_name ++ (b ++ (10 ∷ [])))) (rows_alike seed other d m (λ i c l q. h i c (omega arith) q)) (numbers_alike (seed m) (other m) d (λ c l. h m c (omega arith) l))

-- ---- what is printed
module _ (d : ℕ) (params : Params) (starts columns : List ℕ) (values : List Float) {v : Verdict} {t : Counts} {output : List Float} (e : Embeds d params starts columns values v t output) where
  abbrev asked : Verdict
  asked = test_asked d params starts columns values

  says-refusal : (v.number ≡ 0 → ⊥) → refusal_text v.number v.place ≡ answer_of d params starts columns values
  unfolding answer_of
  says-refusal f =
      let same = e.refused f in
      let not-passed : passes asked ≡ false = ne_eqb asked.number 0 (λ z. f (ap (λ (x : Verdict). x.number) same ∙ z)) in
      ap (λ (x : Verdict). refusal_text x.number x.place) same
      ∙ sym (ap (λ (b : Bool). cond b (seed_text (length starts - 1) d (counts_of d params starts columns values) (seed_of d params starts columns values)) (refusal_text asked.number asked.place)) not-passed)

  says-seed : v.number ≡ 0 → seed_text (length starts - 1) d t (λ i c. get_or output (i * d + c) nan) ≡ answer_of d params starts columns values
  unfolding answer_of seed_text
  says-seed z =
      let passed : passes asked ≡ true = eq-eqb asked.number 0 (e.taken z) in
      ap₂ (λ (x : Counts) (r : List ℕ). head_text (length starts - 1) x ++ r) (e.counted z) (rows_alike (λ i c. get_or output (i * d + c) nan) (seed_of d params starts columns values) d (length starts - 1) (e.seeded z))
      ∙ sym (ap (λ (b : Bool). cond b (seed_text (length starts - 1) d (counts_of d params starts columns values) (seed_of d params starts columns values)) (refusal_text asked.number asked.place)) passed)

  -- ---- what the second writer prints of it: its tests pass, and the text is the answer
  abbrev n : ℕ
  n = length starts - 1

  printable : length starts ≤ 65 → (test_printed v d n (length output)).number ≡ 0
  unfolding test_asked test_request
  printable few = go (eqb v.number 0) refl
    where
      go : (b : Bool) → eqb v.number 0 ≡ b → (test_printed v d n (length output)).number ≡ 0
      go true q =
          let z = eqb-true v.number 0 q in
          let tests = both_pass _ _ (e.taken z) in
          let rows = (graph_valid ieee64 starts columns values (both_pass _ _ tests.1).0).rows-least in
          test_passes (right-seed d n (length output) refl tests.0 (λ none. omega arith) (omega arith) (e.long z) ∙ seed_tests v d n (length output) z) refl
      go false q = test_passes (refusal_tests v d n (length output) (eqb-false v.number 0 q)) refl

  says : answer_text v d n t output ≡ answer_of d params starts columns values
  says = go (eqb v.number 0) refl
    where
      go : (b : Bool) → eqb v.number 0 ≡ b → answer_text v d n t output ≡ answer_of d params starts columns values
      go true q = let z = eqb-true v.number 0 q in sym (seed-says v d n t output z) ∙ says-seed z
      go false q = let f = eqb-false v.number 0 q in sym (refusal-says v d n t output f) ∙ says-refusal f

  -- w is what it answered
  module _ {rows : ℕ} (out : List ℕ) (w : Result ℕ Refusal) {after : List ℕ} (same : rows ≡ n) (few : length starts ≤ 65) (long : room ≤ length out)
      (left : Leaves (test_answer v d rows t output out) (answer_text v d rows t output) out (judged_in w) (length_in w) after) where
    here : Leaves (test_answer v d n t output out) (answer_text v d n t output) out (judged_in w) (length_in w) after
    here = subst (λ (r : ℕ). Leaves (test_answer v d r t output out) (answer_text v d r t output) out (judged_in w) (length_in w) after) same left

    pub is-written : IsOk w
    is-written = answer-written v d n t output out w (printable few) long here

    pub answers : {count : ℕ} → w ≡ Ok count
        → (count ≡ length (answer_of d params starts columns values)) × (count ≤ room) × (after ≡ put (answer_of d params starts columns values) 0 out)
    answers is = same_text out says (answer_left v d n t output out is (printable few) long here)

-- the same of the code's records, where the lent lists have the lengths of the program's memory
pub embeds_in : {d : ℕ} {params : Params} {starts columns : List ℕ} {values : List Float} (r : Embedded) (m : Lent ieee64) (marks : List ℕ) {after : Lent ieee64} {marked : List ℕ}
    → whole_in r after marked ≡ whole_call ieee64 d params (lists_in starts columns values) m marks
    → length starts ≤ 65 → length columns ≤ 1024 → params.rounds ≤ 400 → lengths_of ieee64 m marks ≡ lengths
    → Embeds d params starts columns values (verdict_of r.verdict) (counts_in r.counts) after.output
embeds_in {d} {params} {starts} {columns} {values} r m marks {after} {marked} h few small brief same =
    embeds d params (lists_in starts columns values) few small brief m marks (λ j. subst (λ (l : List ℕ). wholes_of lengths j ≤ wholes_of l j) (sym same) (omega arith)) (whole_in r after marked) h
