-- A stage that fills places of one lent list, as sets of places in all ten: what it keeps, whose the places are, and what it reads. Assumes nothing.
use mathlib.Core.Path.{◌≡◌, refl, sym, ap, ◌∙◌}
use mathlib.Core.Bool.{Bool, true, false, not, false≢true}
use mathlib.Core.List.{List}
use Prim.Native.Nat.{ℕ, zero, suc}
use native.Mathlib.Omega.{arith}
use lib.ListN.{length, get_or, get_or-eq_default}
use lib.Seq.{ext_get_or}
use Rattle.definition.specs.Arith.{Arith}
use Rattle.definition.proofs.Fill.{split}
use Rattle.held.specs.Places.{fill_where}
use Rattle.held.proofs.Places.{where_length, where_in, where_out}
use Rattle.held.proofs.Lens.{Lens, fill_op, Local, Disjoint}
use Rattle.held.proofs.Lens as lens
use Rattle.machine.specs.State.{Lent, with_v0, with_partials, with_output, with_block}
use Rattle.promises.proofs.Lenses.{v0_l, partials_l, output_l, block_l}
use Rattle.threads.specs.Owned.{Places, nowhere, OneOwner, NoOther, in_v0, in_partials, in_output, in_block, outside, SameLengths, AgreeWhere, DifferAt}

-- ---- tests and lists
pub not-true : (b : Bool) → not b ≡ true → b ≡ false
not-true true e = absurd (false≢true e)
not-true false e = refl

-- the test of a list that the stage does not write
pub never : {X : Type 0} → false ≡ true → X
never e = absurd (false≢true e)

pub nobody : (h j p : ℕ) → false ≡ true → false ≡ true → h ≡ j
nobody h j p o q = never o

-- a place that h owns is no other's
pub owned_alone : (own : ℕ → ℕ → Bool) → ((h j p : ℕ) → own h p ≡ true → own j p ≡ true → h ≡ j) → (h p : ℕ) → own h p ≡ true → NoOther own h p
owned_alone own once h p o j ne = go (own j p) refl
  where
    go : (b : Bool) → own j p ≡ b → b ≡ false
    go true e = absurd (ne (once j h p e o))
    go false e = refl

module _ {E : Type 0} where
  pub same_list : (d : E) (l l' : List E) → length l ≡ length l' → ((p : ℕ) → get_or l p d ≡ get_or l' p d) → l ≡ l'
  same_list d l l' e h = ext_get_or d l l' e (λ p q. h p)

  -- two lists of one length filled by functions that agree there
  pub fill_same : (t : ℕ → Bool) (f f' : ℕ → E) (d : E) (xs xs' : List E) (p : ℕ) → length xs ≡ length xs' → t p ≡ true → f p ≡ f' p
      → get_or (fill_where t f xs) p d ≡ get_or (fill_where t f' xs') p d
  fill_same t f f' d xs xs' p e o q =
      split p (length xs)
      (λ l. where_in t f xs p d o l ∙ q ∙ sym (where_in t f' xs' p d o (omega arith)))
      (λ l. get_or-eq_default (fill_where t f xs) d (rw where_length l) ∙ sym (get_or-eq_default (fill_where t f' xs') d (rw where_length (omega arith))))

module _ (A : Arith) where
  pub same-lengths : (m : Lent A) → SameLengths A m m
  same-lengths m = record { inverse = refl; v0 = refl; edge_columns = refl; edge_weights = refl; block0 = refl; block1 = refl; block2 = refl; partials = refl; output = refl; ritz_record = refl }

  pub agree_same : (t : Places) (m : Lent A) → AgreeWhere A t m m
  agree_same t m = record {
    inverse = λ p o. refl;
    v0 = λ p o. refl;
    edge_columns = λ p o. refl;
    edge_weights = λ p o. refl;
    block0 = λ p o. refl;
    block1 = λ p o. refl;
    block2 = λ p o. refl;
    partials = λ p o. refl;
    output = λ p o. refl;
    ritz_record = λ p o. refl;
  }

  -- the ten lists make the memory
  pub same-lent : (m m' : Lent A) → m.inverse ≡ m'.inverse → m.v0 ≡ m'.v0 → m.edge_columns ≡ m'.edge_columns → m.edge_weights ≡ m'.edge_weights
      → m.block0 ≡ m'.block0 → m.block1 ≡ m'.block1 → m.block2 ≡ m'.block2 → m.partials ≡ m'.partials → m.output ≡ m'.output
      → m.ritz_record ≡ m'.ritz_record → m ≡ m'
  same-lent m m' a b c d e f g k l o =
      λ i. record { inverse = a i; v0 = b i; edge_columns = c i; edge_weights = d i; block0 = e i; block1 = f i; block2 = g i; partials = k i; output = l i; ritz_record = o i }

  -- memories that differ at other chunks' places agree at the chunk's own
  pub own_same : (whose : ℕ → Places) → OneOwner whose → (h : ℕ) (m m' : Lent A) → DifferAt A whose h m m' → AgreeWhere A (whose h) m m'
  own_same whose one h m m' D = record {
    inverse = λ p o. D.inverse p (owned_alone (λ j. (whose j).inverse) one.inverse h p o);
    v0 = λ p o. D.v0 p (owned_alone (λ j. (whose j).v0) one.v0 h p o);
    edge_columns = λ p o. D.edge_columns p (owned_alone (λ j. (whose j).edge_columns) one.edge_columns h p o);
    edge_weights = λ p o. D.edge_weights p (owned_alone (λ j. (whose j).edge_weights) one.edge_weights h p o);
    block0 = λ p o. D.block0 p (owned_alone (λ j. (whose j).block0) one.block0 h p o);
    block1 = λ p o. D.block1 p (owned_alone (λ j. (whose j).block1) one.block1 h p o);
    block2 = λ p o. D.block2 p (owned_alone (λ j. (whose j).block2) one.block2 h p o);
    partials = λ p o. D.partials p (owned_alone (λ j. (whose j).partials) one.partials h p o);
    output = λ p o. D.output p (owned_alone (λ j. (whose j).output) one.output h p o);
    ritz_record = λ p o. D.ritz_record p (owned_alone (λ j. (whose j).ritz_record) one.ritz_record h p o);
  }

  -- ---- a list that no chunk writes is the same list
  module _ (whose : ℕ → Places) (h : ℕ) (m m' : Lent A) (D : DifferAt A whose h m m') where
    pub inverse-same : ((j p : ℕ) → (whose j).inverse p ≡ false) → m.inverse ≡ m'.inverse
    inverse-same u = same_list A.none m.inverse m'.inverse D.lengths.inverse (λ p. D.inverse p (λ j ne. u j p))

    pub v0-same : ((j p : ℕ) → (whose j).v0 p ≡ false) → m.v0 ≡ m'.v0
    v0-same u = same_list A.none m.v0 m'.v0 D.lengths.v0 (λ p. D.v0 p (λ j ne. u j p))

    pub columns-same : ((j p : ℕ) → (whose j).edge_columns p ≡ false) → m.edge_columns ≡ m'.edge_columns
    columns-same u = same_list 0 m.edge_columns m'.edge_columns D.lengths.edge_columns (λ p. D.edge_columns p (λ j ne. u j p))

    pub weights-same : ((j p : ℕ) → (whose j).edge_weights p ≡ false) → m.edge_weights ≡ m'.edge_weights
    weights-same u = same_list A.none m.edge_weights m'.edge_weights D.lengths.edge_weights (λ p. D.edge_weights p (λ j ne. u j p))

    pub block0-same : ((j p : ℕ) → (whose j).block0 p ≡ false) → m.block0 ≡ m'.block0
    block0-same u = same_list A.none m.block0 m'.block0 D.lengths.block0 (λ p. D.block0 p (λ j ne. u j p))

    pub block1-same : ((j p : ℕ) → (whose j).block1 p ≡ false) → m.block1 ≡ m'.block1
    block1-same u = same_list A.none m.block1 m'.block1 D.lengths.block1 (λ p. D.block1 p (λ j ne. u j p))

    pub block2-same : ((j p : ℕ) → (whose j).block2 p ≡ false) → m.block2 ≡ m'.block2
    block2-same u = same_list A.none m.block2 m'.block2 D.lengths.block2 (λ p. D.block2 p (λ j ne. u j p))

    pub partials-same : ((j p : ℕ) → (whose j).partials p ≡ false) → m.partials ≡ m'.partials
    partials-same u = same_list A.none m.partials m'.partials D.lengths.partials (λ p. D.partials p (λ j ne. u j p))

    pub output-same : ((j p : ℕ) → (whose j).output p ≡ false) → m.output ≡ m'.output
    output-same u = same_list A.none m.output m'.output D.lengths.output (λ p. D.output p (λ j ne. u j p))

    pub record_same : ((j p : ℕ) → (whose j).ritz_record p ≡ false) → m.ritz_record ≡ m'.ritz_record
    record_same u = same_list A.none m.ritz_record m'.ritz_record D.lengths.ritz_record (λ p. D.ritz_record p (λ j ne. u j p))

  -- ---- one lent list L, and the sets of places of all ten that lie in it
  pub record Listed {E : Type 0} (L : Lens (Lent A) E) (d : E) (in_l : (ℕ → Bool) → Places) : Type 0 where
    -- the list put: as long, the same outside of a set, the same inside
    pub lengths : (l : List E) (m : Lent A) → length l ≡ length (L.get m) → SameLengths A (L.put l m) m
    pub outer : (t : ℕ → Bool) (l : List E) (m : Lent A) → ((p : ℕ) → t p ≡ false → get_or l p d ≡ get_or (L.get m) p d) → AgreeWhere A (outside (in_l t)) (L.put l m) m
    pub inner : (t : ℕ → Bool) (m m' : Lent A) → ((p : ℕ) → t p ≡ true → get_or (L.get m) p d ≡ get_or (L.get m') p d) → AgreeWhere A (in_l t) m m'
    pub once : (own : ℕ → ℕ → Bool) → ((h j p : ℕ) → own h p ≡ true → own j p ≡ true → h ≡ j) → OneOwner (λ j. in_l (own j))
    -- a memory that differs at other chunks' places of the list: all else is m's
    pub long : (own : ℕ → ℕ → Bool) (h : ℕ) (m m' : Lent A) → DifferAt A (λ j. in_l (own j)) h m m' → length (L.get m) ≡ length (L.get m')
    pub mine : (own : ℕ → ℕ → Bool) (h : ℕ) (m m' : Lent A) → DifferAt A (λ j. in_l (own j)) h m m' → (p : ℕ) → NoOther own h p → get_or (L.get m) p d ≡ get_or (L.get m') p d
    pub rest : (own : ℕ → ℕ → Bool) (h : ℕ) (m m' : Lent A) → DifferAt A (λ j. in_l (own j)) h m m' → L.put (L.get m') m ≡ m'

  pub v0_listed : Listed (v0_l A) A.none in_v0
  v0_listed = record {
    lengths = λ l m e. record { inverse = refl; v0 = e; edge_columns = refl; edge_weights = refl; block0 = refl; block1 = refl; block2 = refl; partials = refl; output = refl; ritz_record = refl };
    outer = λ t l m e. record { inverse = λ p o. refl; v0 = λ p o. e p (not-true (t p) o); edge_columns = λ p o. refl; edge_weights = λ p o. refl; block0 = λ p o. refl; block1 = λ p o. refl; block2 = λ p o. refl; partials = λ p o. refl; output = λ p o. refl; ritz_record = λ p o. refl };
    inner = λ t m m' e. record { inverse = λ p. never; v0 = e; edge_columns = λ p. never; edge_weights = λ p. never; block0 = λ p. never; block1 = λ p. never; block2 = λ p. never; partials = λ p. never; output = λ p. never; ritz_record = λ p. never };
    once = λ own e. record { inverse = nobody; v0 = e; edge_columns = nobody; edge_weights = nobody; block0 = nobody; block1 = nobody; block2 = nobody; partials = nobody; output = nobody; ritz_record = nobody };
    long = λ own h m m' D. D.lengths.v0;
    mine = λ own h m m' D. D.v0;
    rest = λ own h m m' D. same-lent (with_v0 A m'.v0 m) m'
        (inverse-same (λ j. in_v0 (own j)) h m m' D (λ j p. refl)) refl (columns-same (λ j. in_v0 (own j)) h m m' D (λ j p. refl))
        (weights-same (λ j. in_v0 (own j)) h m m' D (λ j p. refl)) (block0-same (λ j. in_v0 (own j)) h m m' D (λ j p. refl)) (block1-same (λ j. in_v0 (own j)) h m m' D (λ j p. refl))
        (block2-same (λ j. in_v0 (own j)) h m m' D (λ j p. refl)) (partials-same (λ j. in_v0 (own j)) h m m' D (λ j p. refl)) (output-same (λ j. in_v0 (own j)) h m m' D (λ j p. refl))
        (record_same (λ j. in_v0 (own j)) h m m' D (λ j p. refl));
  }

  pub partials_listed : Listed (partials_l A) A.none in_partials
  partials_listed = record {
    lengths = λ l m e. record { inverse = refl; v0 = refl; edge_columns = refl; edge_weights = refl; block0 = refl; block1 = refl; block2 = refl; partials = e; output = refl; ritz_record = refl };
    outer = λ t l m e. record { inverse = λ p o. refl; v0 = λ p o. refl; edge_columns = λ p o. refl; edge_weights = λ p o. refl; block0 = λ p o. refl; block1 = λ p o. refl; block2 = λ p o. refl; partials = λ p o. e p (not-true (t p) o); output = λ p o. refl; ritz_record = λ p o. refl };
    inner = λ t m m' e. record { inverse = λ p. never; v0 = λ p. never; edge_columns = λ p. never; edge_weights = λ p. never; block0 = λ p. never; block1 = λ p. never; block2 = λ p. never; partials = e; output = λ p. never; ritz_record = λ p. never };
    once = λ own e. record { inverse = nobody; v0 = nobody; edge_columns = nobody; edge_weights = nobody; block0 = nobody; block1 = nobody; block2 = nobody; partials = e; output = nobody; ritz_record = nobody };
    long = λ own h m m' D. D.lengths.partials;
    mine = λ own h m m' D. D.partials;
    rest = λ own h m m' D. same-lent (with_partials A m'.partials m) m'
        (inverse-same (λ j. in_partials (own j)) h m m' D (λ j p. refl)) (v0-same (λ j. in_partials (own j)) h m m' D (λ j p. refl)) (columns-same (λ j. in_partials (own j)) h m m' D (λ j p. refl))
        (weights-same (λ j. in_partials (own j)) h m m' D (λ j p. refl)) (block0-same (λ j. in_partials (own j)) h m m' D (λ j p. refl)) (block1-same (λ j. in_partials (own j)) h m m' D (λ j p. refl))
        (block2-same (λ j. in_partials (own j)) h m m' D (λ j p. refl)) refl (output-same (λ j. in_partials (own j)) h m m' D (λ j p. refl))
        (record_same (λ j. in_partials (own j)) h m m' D (λ j p. refl));
  }

  pub output_listed : Listed (output_l A) A.none in_output
  output_listed = record {
    lengths = λ l m e. record { inverse = refl; v0 = refl; edge_columns = refl; edge_weights = refl; block0 = refl; block1 = refl; block2 = refl; partials = refl; output = e; ritz_record = refl };
    outer = λ t l m e. record { inverse = λ p o. refl; v0 = λ p o. refl; edge_columns = λ p o. refl; edge_weights = λ p o. refl; block0 = λ p o. refl; block1 = λ p o. refl; block2 = λ p o. refl; partials = λ p o. refl; output = λ p o. e p (not-true (t p) o); ritz_record = λ p o. refl };
    inner = λ t m m' e. record { inverse = λ p. never; v0 = λ p. never; edge_columns = λ p. never; edge_weights = λ p. never; block0 = λ p. never; block1 = λ p. never; block2 = λ p. never; partials = λ p. never; output = e; ritz_record = λ p. never };
    once = λ own e. record { inverse = nobody; v0 = nobody; edge_columns = nobody; edge_weights = nobody; block0 = nobody; block1 = nobody; block2 = nobody; partials = nobody; output = e; ritz_record = nobody };
    long = λ own h m m' D. D.lengths.output;
    mine = λ own h m m' D. D.output;
    rest = λ own h m m' D. same-lent (with_output A m'.output m) m'
        (inverse-same (λ j. in_output (own j)) h m m' D (λ j p. refl)) (v0-same (λ j. in_output (own j)) h m m' D (λ j p. refl)) (columns-same (λ j. in_output (own j)) h m m' D (λ j p. refl))
        (weights-same (λ j. in_output (own j)) h m m' D (λ j p. refl)) (block0-same (λ j. in_output (own j)) h m m' D (λ j p. refl)) (block1-same (λ j. in_output (own j)) h m m' D (λ j p. refl))
        (block2-same (λ j. in_output (own j)) h m m' D (λ j p. refl)) (partials-same (λ j. in_output (own j)) h m m' D (λ j p. refl)) refl
        (record_same (λ j. in_output (own j)) h m m' D (λ j p. refl));
  }

  pub block_listed : (b : ℕ) → Listed (block_l A b) A.none (in_block b)
  block_listed zero = record {
    lengths = λ l m e. record { inverse = refl; v0 = refl; edge_columns = refl; edge_weights = refl; block0 = e; block1 = refl; block2 = refl; partials = refl; output = refl; ritz_record = refl };
    outer = λ t l m e. record { inverse = λ p o. refl; v0 = λ p o. refl; edge_columns = λ p o. refl; edge_weights = λ p o. refl; block0 = λ p o. e p (not-true (t p) o); block1 = λ p o. refl; block2 = λ p o. refl; partials = λ p o. refl; output = λ p o. refl; ritz_record = λ p o. refl };
    inner = λ t m m' e. record { inverse = λ p. never; v0 = λ p. never; edge_columns = λ p. never; edge_weights = λ p. never; block0 = e; block1 = λ p. never; block2 = λ p. never; partials = λ p. never; output = λ p. never; ritz_record = λ p. never };
    once = λ own e. record { inverse = nobody; v0 = nobody; edge_columns = nobody; edge_weights = nobody; block0 = e; block1 = nobody; block2 = nobody; partials = nobody; output = nobody; ritz_record = nobody };
    long = λ own h m m' D. D.lengths.block0;
    mine = λ own h m m' D. D.block0;
    rest = λ own h m m' D. same-lent (with_block A 0 m'.block0 m) m'
        (inverse-same (λ j. in_block 0 (own j)) h m m' D (λ j p. refl)) (v0-same (λ j. in_block 0 (own j)) h m m' D (λ j p. refl)) (columns-same (λ j. in_block 0 (own j)) h m m' D (λ j p. refl))
        (weights-same (λ j. in_block 0 (own j)) h m m' D (λ j p. refl)) refl (block1-same (λ j. in_block 0 (own j)) h m m' D (λ j p. refl))
        (block2-same (λ j. in_block 0 (own j)) h m m' D (λ j p. refl)) (partials-same (λ j. in_block 0 (own j)) h m m' D (λ j p. refl)) (output-same (λ j. in_block 0 (own j)) h m m' D (λ j p. refl))
        (record_same (λ j. in_block 0 (own j)) h m m' D (λ j p. refl));
  }
  block_listed (suc zero) = record {
    lengths = λ l m e. record { inverse = refl; v0 = refl; edge_columns = refl; edge_weights = refl; block0 = refl; block1 = e; block2 = refl; partials = refl; output = refl; ritz_record = refl };
    outer = λ t l m e. record { inverse = λ p o. refl; v0 = λ p o. refl; edge_columns = λ p o. refl; edge_weights = λ p o. refl; block0 = λ p o. refl; block1 = λ p o. e p (not-true (t p) o); block2 = λ p o. refl; partials = λ p o. refl; output = λ p o. refl; ritz_record = λ p o. refl };
    inner = λ t m m' e. record { inverse = λ p. never; v0 = λ p. never; edge_columns = λ p. never; edge_weights = λ p. never; block0 = λ p. never; block1 = e; block2 = λ p. never; partials = λ p. never; output = λ p. never; ritz_record = λ p. never };
    once = λ own e. record { inverse = nobody; v0 = nobody; edge_columns = nobody; edge_weights = nobody; block0 = nobody; block1 = e; block2 = nobody; partials = nobody; output = nobody; ritz_record = nobody };
    long = λ own h m m' D. D.lengths.block1;
    mine = λ own h m m' D. D.block1;
    rest = λ own h m m' D. same-lent (with_block A 1 m'.block1 m) m'
        (inverse-same (λ j. in_block 1 (own j)) h m m' D (λ j p. refl)) (v0-same (λ j. in_block 1 (own j)) h m m' D (λ j p. refl)) (columns-same (λ j. in_block 1 (own j)) h m m' D (λ j p. refl))
        (weights-same (λ j. in_block 1 (own j)) h m m' D (λ j p. refl)) (block0-same (λ j. in_block 1 (own j)) h m m' D (λ j p. refl)) refl
        (block2-same (λ j. in_block 1 (own j)) h m m' D (λ j p. refl)) (partials-same (λ j. in_block 1 (own j)) h m m' D (λ j p. refl)) (output-same (λ j. in_block 1 (own j)) h m m' D (λ j p. refl))
        (record_same (λ j. in_block 1 (own j)) h m m' D (λ j p. refl));
  }
  block_listed (suc (suc b)) = record {
    lengths = λ l m e. record { inverse = refl; v0 = refl; edge_columns = refl; edge_weights = refl; block0 = refl; block1 = refl; block2 = e; partials = refl; output = refl; ritz_record = refl };
    outer = λ t l m e. record { inverse = λ p o. refl; v0 = λ p o. refl; edge_columns = λ p o. refl; edge_weights = λ p o. refl; block0 = λ p o. refl; block1 = λ p o. refl; block2 = λ p o. e p (not-true (t p) o); partials = λ p o. refl; output = λ p o. refl; ritz_record = λ p o. refl };
    inner = λ t m m' e. record { inverse = λ p. never; v0 = λ p. never; edge_columns = λ p. never; edge_weights = λ p. never; block0 = λ p. never; block1 = λ p. never; block2 = e; partials = λ p. never; output = λ p. never; ritz_record = λ p. never };
    once = λ own e. record { inverse = nobody; v0 = nobody; edge_columns = nobody; edge_weights = nobody; block0 = nobody; block1 = nobody; block2 = e; partials = nobody; output = nobody; ritz_record = nobody };
    long = λ own h m m' D. D.lengths.block2;
    mine = λ own h m m' D. D.block2;
    rest = λ own h m m' D. same-lent (with_block A (suc (suc b)) m'.block2 m) m'
        (inverse-same (λ j. in_block (suc (suc b)) (own j)) h m m' D (λ j p. refl)) (v0-same (λ j. in_block (suc (suc b)) (own j)) h m m' D (λ j p. refl)) (columns-same (λ j. in_block (suc (suc b)) (own j)) h m m' D (λ j p. refl))
        (weights-same (λ j. in_block (suc (suc b)) (own j)) h m m' D (λ j p. refl)) (block0-same (λ j. in_block (suc (suc b)) (own j)) h m m' D (λ j p. refl)) (block1-same (λ j. in_block (suc (suc b)) (own j)) h m m' D (λ j p. refl))
        refl (partials-same (λ j. in_block (suc (suc b)) (own j)) h m m' D (λ j p. refl)) (output-same (λ j. in_block (suc (suc b)) (own j)) h m m' D (λ j p. refl))
        (record_same (λ j. in_block (suc (suc b)) (own j)) h m m' D (λ j p. refl));
  }

  -- ---- chunks that do `op` to the memory; `whose h` are the places of chunk h
  pub record Writes (whose : ℕ → Places) (op : ℕ → Lent A → Lent A) : Type 0 where
    pub lengths : (h : ℕ) (m : Lent A) → SameLengths A (op h m) m
    pub outer : (h : ℕ) (m : Lent A) → AgreeWhere A (outside (whose h)) (op h m) m

  pub record Reads (whose : ℕ → Places) (op : ℕ → Lent A → Lent A) : Type 0 where
    pub once : OneOwner whose
    pub inner : (h : ℕ) (m m' : Lent A) → DifferAt A whose h m m' → AgreeWhere A (whose h) (op h m) (op h m')

  -- chunk h fills its own places of one list
  abbrev pub filled : {E : Type 0} → Lens (Lent A) E → (ℕ → ℕ → Bool) → (ℕ → Lent A → ℕ → E) → ℕ → Lent A → Lent A
  filled L own val h m = L.put (fill_where (own h) (val h m) (L.get m)) m

  pub writes_fill : {E : Type 0} (L : Lens (Lent A) E) (d : E) (in_l : (ℕ → Bool) → Places) → Listed L d in_l
      → (own : ℕ → ℕ → Bool) (val : ℕ → Lent A → ℕ → E) → Writes (λ h. in_l (own h)) (filled L own val)
  writes_fill L d in_l I own val = record {
    lengths = λ h m. I.lengths (fill_where (own h) (val h m) (L.get m)) m (where_length (own h) (val h m) (L.get m));
    outer = λ h m. I.outer (own h) (fill_where (own h) (val h m) (L.get m)) m (λ p o. where_out (own h) (val h m) (L.get m) p d o);
  }

  -- by a function that is local
  pub reads_fill : {E : Type 0} (L : Lens (Lent A) E) (d : E) (in_l : (ℕ → Bool) → Places) → Listed L d in_l
      → (own : ℕ → ℕ → Bool) (val : ℕ → Lent A → ℕ → E) → Disjoint L own d → Local L own d val → Reads (λ h. in_l (own h)) (filled L own val)
  unfolding fill_op
  reads_fill L d in_l I own val dis loc = record {
    once = I.once own dis;
    inner = λ h m m' D. I.inner (own h) (fill_op L own d val h m) (fill_op L own d val h m')
        (λ p o. sym (lens.reads_own L own d val loc h (L.get m') m (sym (I.long own h m m' D)) (λ j q. sym (I.mine own h m m' D j (owned_alone own dis h j q))) p o)
        ∙ ap (λ (z : Lent A). get_or (L.get (fill_op L own d val h z)) p d) (I.rest own h m m' D));
  }

  -- they do nothing
  pub writes_idle : Writes (λ h. nowhere) (λ h m. m)
  writes_idle = record { lengths = λ h m. same-lengths m; outer = λ h m. agree_same (outside nowhere) m }

  pub reads_idle : Reads (λ h. nowhere) (λ h m. m)
  reads_idle = record {
    once = record { inverse = nobody; v0 = nobody; edge_columns = nobody; edge_weights = nobody; block0 = nobody; block1 = nobody; block2 = nobody; partials = nobody; output = nobody; ritz_record = nobody };
    inner = λ h m m' D. record { inverse = λ p. never; v0 = λ p. never; edge_columns = λ p. never; edge_weights = λ p. never; block0 = λ p. never; block1 = λ p. never; block2 = λ p. never; partials = λ p. never; output = λ p. never; ritz_record = λ p. never };
  }
