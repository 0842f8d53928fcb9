-- Laws of decimals: one digit more, how long, which digits, and that a number and its decimal determine each other. Assumes nothing.
use mathlib.Core.Path.{◌≡◌, refl, sym, ap, ◌∙◌}
use mathlib.Core.Logic.{⊎_elim}
use mathlib.Core.Bool.{Bool, true, false, cond, not, false≢true}
use mathlib.Core.List.{List, [], ◌∷◌, ◌++◌, append_assoc, append-nil}
use Prim.Native.Nat.{ℕ, zero, suc, ◌+◌, ◌-◌, ◌*◌, ◌/◌, ◌%◌, ◌^◌, ◌≤◌, ◌<◌}
use native.Mathlib.Nat.{pow-suc}
use native.Mathlib.Omega.{arith}
use borrow.Author.Tests.{lt-ltb, le-ltb, ne_eqb, eqb-false, not-true}
use lib.Dec.{ltb, eqb}
use lib.ListN.{length, get_or, length-append, get_or-append}
use Rattle.digits.specs.Digits.{decimal_of, decimal, is_digit, every, value_from}
use Rattle.digits.specs.ReadDecimal.{plain}
use Rattle.digits.proofs.Bytes.{lt_or_ge, digit_range, range_digit}
use Rattle.digits.proofs.Lists.{every_append, every_one, every_cons}

-- ---- digit by digit, with m digits at most
small : (m n : ℕ) → n < 10 → decimal_of (suc m) n ≡ (48 + n) ∷ []
unfolding decimal_of
small m n p = ap (λ (t : Bool). cond t ((48 + n) ∷ []) (decimal_of m (n / 10) ++ ((48 + n % 10) ∷ []))) (lt-ltb n 10 p)

more : (m n : ℕ) → 10 ≤ n → decimal_of (suc m) n ≡ decimal_of m (n / 10) ++ ((48 + n % 10) ∷ [])
unfolding decimal_of
more m n p = ap (λ (t : Bool). cond t ((48 + n) ∷ []) (decimal_of m (n / 10) ++ ((48 + n % 10) ∷ []))) (le-ltb n 10 p)

tenth : (m n : ℕ) → n < 10 ^ suc m → n / 10 < 10 ^ m
tenth m n p = omega (arith, pow-suc 10 m)

-- more room changes nothing
room : (m n : ℕ) → n < 10 ^ suc m → decimal_of (suc m) n ≡ decimal_of (suc (suc m)) n
room zero n p = small 0 n p ∙ sym (small 1 n p)
room (suc m) n p =
    ⊎_elim (λ l. small (suc m) n l ∙ sym (small (suc (suc m)) n l))
    (λ l. more (suc m) n l ∙ ap (λ (ds : List ℕ). ds ++ ((48 + n % 10) ∷ [])) (room m (n / 10) (tenth (suc m) n p)) ∙ sym (more (suc (suc m)) n l))
    (lt_or_ge n 10)

-- ---- the decimal itself
pub decimal-small : (n : ℕ) → n < 10 → decimal n ≡ (48 + n) ∷ []
decimal-small n p = small 19 n p

pub decimal-more : (n : ℕ) → 10 ≤ n → n < 10 ^ 20 → decimal n ≡ decimal (n / 10) ++ ((48 + n % 10) ∷ [])
decimal-more n p q = more 19 n p ∙ ap (λ (ds : List ℕ). ds ++ ((48 + n % 10) ∷ [])) (room 18 (n / 10) (tenth 19 n q))

-- what holds of the digits and, with a tenth of it, of each number holds of all below 10^20
pub each_decimal : (P : ℕ → Type 0) → ((n : ℕ) → n < 10 → P n) → ((n : ℕ) → 10 ≤ n → n < 10 ^ 20 → P (n / 10) → P n)
    → (n : ℕ) → n < 10 ^ 20 → P n
each_decimal P base step n p = go 20 n p p
  where
    go : (m n : ℕ) → n < 10 ^ m → n < 10 ^ 20 → P n
    go zero n p q = base n (omega arith)
    go (suc m) n p q =
        ⊎_elim (λ l. base n l) (λ l. step n l q (go m (n / 10) (tenth m n p) (omega arith))) (lt_or_ge n 10)

-- ---- how long
most_of : (m n : ℕ) → length (decimal_of m n) ≤ m
unfolding decimal_of
most_of zero n = omega arith
most_of (suc m) n = go (ltb n 10) (most_of m (n / 10))
  where
    go : (t : Bool) → length (decimal_of m (n / 10)) ≤ m → length (cond t ((48 + n) ∷ []) (decimal_of m (n / 10) ++ ((48 + n % 10) ∷ []))) ≤ suc m
    go true h = omega arith
    go false h = rw length-append (omega arith)

pub decimal-most : (n : ℕ) → length (decimal n) ≤ 20
decimal-most n = most_of 20 n

pub decimal_longer : (n : ℕ) → 10 ≤ n → n < 10 ^ 20 → length (decimal n) ≡ length (decimal (n / 10)) + 1
decimal_longer n p q = ap length (decimal-more n p q) ∙ length-append (decimal (n / 10)) ((48 + n % 10) ∷ [])

pub decimal-least : (n : ℕ) → n < 10 ^ 20 → 1 ≤ length (decimal n)
decimal-least =
    each_decimal (λ n. 1 ≤ length (decimal n)) (λ n p. omega (arith, ap length (decimal-small n p)))
    (λ n p q h. omega (arith, decimal_longer n p q))

-- ---- digits, and no leading zero
pub decimal-digits : (n : ℕ) → n < 10 ^ 20 → every is_digit (decimal n) ≡ true
decimal-digits =
    each_decimal (λ n. every is_digit (decimal n) ≡ true)
    (λ n p. ap (every is_digit) (decimal-small n p) ∙ every_one is_digit (48 + n) (range_digit (48 + n) (omega arith) (omega arith)))
    (λ n p q h. ap (every is_digit) (decimal-more n p q)
    ∙ every_append is_digit (decimal (n / 10)) ((48 + n % 10) ∷ []) h
    (every_one is_digit (48 + n % 10) (range_digit (48 + n % 10) (omega arith) (omega arith))))

first_of_more : (n : ℕ) → 10 ≤ n → n < 10 ^ 20 → get_or (decimal n) 0 0 ≡ get_or (decimal (n / 10)) 0 0
first_of_more n p q =
    ap (λ (l : List ℕ). get_or l 0 0) (decimal-more n p q)
    ∙ get_or-append (decimal (n / 10)) ((48 + n % 10) ∷ []) 0 0 (decimal-least (n / 10) (omega arith))

pub decimal-first : (n : ℕ) → n < 10 ^ 20 → get_or (decimal n) 0 0 ≡ 48 → n ≡ 0
decimal-first =
    each_decimal (λ n. get_or (decimal n) 0 0 ≡ 48 → n ≡ 0)
    (λ n p e. omega (arith, ap (λ (l : List ℕ). get_or l 0 0) (decimal-small n p)))
    (λ n p q h e. absurd (omega (arith, h (sym (first_of_more n p q) ∙ e))))

pub plain_of : (ds : List ℕ) → 1 ≤ length ds → (get_or ds 0 0 ≡ 48 → length ds ≤ 1) → plain ds ≡ true
unfolding plain
plain_of [] p h = absurd (omega arith)
plain_of (d ∷ []) p h = refl
plain_of (d ∷ e ∷ es) p h = ap not (ne_eqb d 48 (λ q. absurd (omega (arith, h q))))

pub decimal-plain : (n : ℕ) → n < 10 ^ 20 → plain (decimal n) ≡ true
decimal-plain n p =
    plain_of (decimal n) (decimal-least n p)
    (λ e. let z : n ≡ 0 = decimal-first n p e in omega (arith, ap length (decimal-small n (omega arith))))

-- ---- the number again
pub value_append : (v : ℕ) (xs ys : List ℕ) → value_from v (xs ++ ys) ≡ value_from (value_from v xs) ys
unfolding value_from
value_append v [] ys = refl
value_append v (x ∷ xs) ys = value_append (v * 10 + (x - 48)) xs ys

pub value_cons : (v b : ℕ) (bs : List ℕ) → value_from v (b ∷ bs) ≡ value_from (v * 10 + (b - 48)) bs
unfolding value_from
value_cons v b bs = refl

pub value_nil : (v : ℕ) → value_from v [] ≡ v
unfolding value_from
value_nil v = refl

pub value-one : (v b : ℕ) → value_from v (b ∷ []) ≡ v * 10 + (b - 48)
unfolding value_from
value-one v b = refl

pub value-decimal : (n : ℕ) → n < 10 ^ 20 → value_from 0 (decimal n) ≡ n
value-decimal =
    each_decimal (λ n. value_from 0 (decimal n) ≡ n)
    (λ n p. ap (value_from 0) (decimal-small n p) ∙ value-one 0 (48 + n) ∙ omega arith)
    (λ n p q h. ap (value_from 0) (decimal-more n p q) ∙ value_append 0 (decimal (n / 10)) ((48 + n % 10) ∷ [])
    ∙ value-one (value_from 0 (decimal (n / 10))) (48 + n % 10) ∙ omega (arith, h))

pub decimal_injective : (m n : ℕ) → m < 10 ^ 20 → n < 10 ^ 20 → decimal m ≡ decimal n → m ≡ n
decimal_injective m n p q e = sym (value-decimal m p) ∙ ap (value_from 0) e ∙ value-decimal n q

-- ---- and the text again
pub value_grows : (v : ℕ) (ds : List ℕ) → v ≤ value_from v ds
unfolding value_from
value_grows v [] = omega arith
value_grows v (d ∷ ds) = omega (arith, value_grows (v * 10 + (d - 48)) ds)

-- digits that follow on a number's decimal
follow : (v : ℕ) (ds : List ℕ) → 1 ≤ v → every is_digit ds ≡ true → value_from v ds < 10 ^ 20 → decimal (value_from v ds) ≡ decimal v ++ ds
follow v [] p h q = ap decimal (value_nil v) ∙ sym (append-nil (decimal v))
follow v (d ∷ ds) p h q =
    let g = every_cons is_digit d ds h in
    let r = digit_range d g.0 in
    let w = v * 10 + (d - 48) in
    let s : value_from w ds < 10 ^ 20 = omega (arith, value_cons v d ds) in
    let a : w / 10 ≡ v = omega arith in
    let b : 48 + w % 10 ≡ d = omega arith in
    ap decimal (value_cons v d ds) ∙ follow w ds (omega arith) g.1 s
    ∙ ap (λ (l : List ℕ). l ++ ds) (decimal-more w (omega arith) (omega (arith, value_grows w ds)))
    ∙ append_assoc (decimal (w / 10)) ((48 + w % 10) ∷ []) ds
    ∙ ap (λ (n : ℕ). decimal n ++ ((48 + w % 10) ∷ ds)) a
    ∙ ap (λ (n : ℕ). decimal v ++ (n ∷ ds)) b

pub decimal_of_lem : (ds : List ℕ) → every is_digit ds ≡ true → plain ds ≡ true → value_from 0 ds < 10 ^ 20 → decimal (value_from 0 ds) ≡ ds
unfolding plain
decimal_of_lem [] h p q = absurd (false≢true p)
decimal_of_lem (d ∷ []) h p q =
    let r = digit_range d (every_cons is_digit d [] h).0 in
    let e : 0 * 10 + (d - 48) ≡ d - 48 = omega arith in
    let b : 48 + (d - 48) ≡ d = omega arith in
    ap decimal (value-one 0 d ∙ e) ∙ decimal-small (d - 48) (omega arith) ∙ ap (λ (n : ℕ). n ∷ []) b
decimal_of_lem (d ∷ e ∷ es) h p q =
    let g = every_cons is_digit d (e ∷ es) h in
    let r = digit_range d g.0 in
    let z : d ≡ 48 → ⊥ = eqb-false d 48 (not-true (eqb d 48) p) in
    let w : 0 * 10 + (d - 48) ≡ d - 48 = omega arith in
    let b : 48 + (d - 48) ≡ d = omega arith in
    let v : value_from 0 (d ∷ e ∷ es) ≡ value_from (d - 48) (e ∷ es) = value_cons 0 d (e ∷ es) ∙ ap (λ (n : ℕ). value_from n (e ∷ es)) w in
    ap decimal v ∙ follow (d - 48) (e ∷ es) (omega arith) g.1 (omega arith)
    ∙ ap (λ (l : List ℕ). l ++ (e ∷ es)) (decimal-small (d - 48) (omega arith) ∙ ap (λ (n : ℕ). n ∷ []) b)
