-- Document 01's sample file, by computing: what it is read as, and which line is at fault where it is spoilt. Assumes nothing.
use mathlib.Core.Path.{◌≡◌, refl}
use mathlib.Core.List.{List, [], ◌∷◌, ◌++◌}
use Prim.Native.Nat.{ℕ}
use lib.ListN.{take}
use Rattle.digits.specs.Digits.{is_digit, value_from, is_hex, hex_value, hex_from, every, digits_of}
use Rattle.digits.specs.ReadDecimal.{plain, read_decimal}
use Rattle.digits.specs.ReadHex.{read_hex}
use Rattle.reading.specs.ReadLine.{numbers_from, stands_at, line_from}
use Rattle.reading.specs.ReadRun.{run, fault, read_lists, read_lines, read_run}

-- its lines: `d=1`, `rounds=1`, `degree=1`, `seed_std=3f1a36e2eb1c432d`, `starts=0,1`, `columns=0`, `values=3ff0000000000000`; here with any
-- text for d and the rounds
sample_of : List ℕ → List ℕ → List ℕ
sample_of d rounds =
    100 ∷ 61 ∷ (d ++ (10 ∷
    114 ∷ 111 ∷ 117 ∷ 110 ∷ 100 ∷ 115 ∷ 61 ∷ (rounds ++ (10 ∷
    100 ∷ 101 ∷ 103 ∷ 114 ∷ 101 ∷ 101 ∷ 61 ∷ 49 ∷ 10 ∷
    115 ∷ 101 ∷ 101 ∷ 100 ∷ 95 ∷ 115 ∷ 116 ∷ 100 ∷ 61 ∷ 51 ∷ 102 ∷ 49 ∷ 97 ∷ 51 ∷ 54 ∷ 101 ∷ 50 ∷ 101 ∷ 98 ∷ 49 ∷ 99 ∷ 52 ∷ 51 ∷ 50 ∷ 100 ∷ 10 ∷
    115 ∷ 116 ∷ 97 ∷ 114 ∷ 116 ∷ 115 ∷ 61 ∷ 48 ∷ 44 ∷ 49 ∷ 10 ∷
    99 ∷ 111 ∷ 108 ∷ 117 ∷ 109 ∷ 110 ∷ 115 ∷ 61 ∷ 48 ∷ 10 ∷
    118 ∷ 97 ∷ 108 ∷ 117 ∷ 101 ∷ 115 ∷ 61 ∷ 51 ∷ 102 ∷ 102 ∷ 48 ∷ 48 ∷ 48 ∷ 48 ∷ 48 ∷ 48 ∷ 48 ∷ 48 ∷ 48 ∷ 48 ∷ 48 ∷ 48 ∷ 48 ∷ 10 ∷
    []))))

sample : List ℕ
sample = sample_of (49 ∷ []) (49 ∷ [])

sample_read : read_run sample
    ≡ run
    (record { d = 1; rounds = 1; degree = 1; seed_std = 0x3f1a36e2eb1c432d; starts = 0 ∷ 1 ∷ []; columns = 0 ∷ []; values = 0x3ff0000000000000 ∷ [] })
unfolding read_run read_lines read_lists line_from stands_at numbers_from read_decimal plain digits_of is_digit value_from read_hex every is_hex hex_from hex_value sample sample_of
sample_read = refl

-- a newline more is line 8; without the last newline line 7 is wrong; nothing at all lacks line 1
sample_more : read_run (sample ++ (10 ∷ [])) ≡ fault 8
unfolding read_run read_lines read_lists line_from stands_at numbers_from read_decimal plain digits_of is_digit value_from read_hex every is_hex hex_from hex_value sample sample_of
sample_more = refl

sample_less : read_run (take 92 sample) ≡ fault 7
unfolding read_run read_lines read_lists line_from stands_at numbers_from read_decimal plain digits_of is_digit value_from read_hex every is_hex hex_from hex_value sample sample_of
sample_less = refl

sample_none : read_run [] ≡ fault 1
unfolding read_run read_lines line_from stands_at
sample_none = refl

-- W1: 400 rounds are taken; 401 are line 2's fault, before a d that no request may have; a fault in line 1 is named first
rounds-taken : read_run (sample_of (49 ∷ []) (52 ∷ 48 ∷ 48 ∷ []))
    ≡ run
    (record { d = 1; rounds = 400; degree = 1; seed_std = 0x3f1a36e2eb1c432d; starts = 0 ∷ 1 ∷ []; columns = 0 ∷ []; values = 0x3ff0000000000000 ∷ [] })
unfolding read_run read_lines read_lists line_from stands_at numbers_from read_decimal plain digits_of is_digit value_from read_hex every is_hex hex_from hex_value sample_of
rounds-taken = refl

rounds_many : read_run (sample_of (57 ∷ []) (52 ∷ 48 ∷ 49 ∷ [])) ≡ fault 2
unfolding read_run read_lines line_from stands_at numbers_from read_decimal plain digits_of is_digit value_from sample_of
rounds_many = refl

line-before-rounds : read_run (sample_of [] (52 ∷ 48 ∷ 49 ∷ [])) ≡ fault 1
unfolding read_run read_lines line_from stands_at numbers_from read_decimal plain digits_of is_digit value_from sample_of
line-before-rounds = refl
