-- The definitions at work, by computing: texts and their lines, lines and what they say. Assumes nothing.
use mathlib.Core.Path.{◌≡◌, refl}
use mathlib.Core.Bool.{true, false}
use mathlib.Core.List.{List, [], ◌∷◌, ◌++◌}
use Prim.Native.Nat.{ℕ}
use Rattle.digits.specs.Digits.{every, is_digit, value_from}
use Rattle.lines.specs.Lines.{begins, holds, on_first, lines_of, is_blank, goes_on, words_of}
use Rattle.lines.specs.Kinds.{is_number, are_numbers, kind_by, numbers_in, kind_of}
use Rattle.lines.specs.Banner.{same_by, is_letter, are_words, is_banner, banner_word, coordinate_word, pattern_word, symmetric_word}
use Rattle.lines.specs.declared.Kind.TheVariants.{Blank, Comment, Entry, Size, Other}

-- `1`, carriage return, newline, newline, `2`, carriage return: the last one stays
ends : lines_of (49 ∷ 13 ∷ 10 ∷ 10 ∷ 50 ∷ 13 ∷ []) ≡ (49 ∷ []) ∷ [] ∷ (50 ∷ 13 ∷ []) ∷ []
unfolding lines_of on_first begins
ends = refl

-- an end right after a newline begins no line
last_newline : lines_of (49 ∷ 10 ∷ []) ≡ (49 ∷ []) ∷ []
unfolding lines_of on_first begins
last_newline = refl

-- two carriage returns before a newline: the first is a byte of the line
two-returns : lines_of (13 ∷ 13 ∷ 10 ∷ []) ≡ (13 ∷ []) ∷ []
unfolding lines_of on_first begins
two-returns = refl

-- ` 07`, tab, `12 `
entry : kind_of (32 ∷ 48 ∷ 55 ∷ 9 ∷ 49 ∷ 50 ∷ 32 ∷ []) ≡ Entry 7 12
unfolding kind_of begins numbers_in are_numbers is_number every is_digit value_from kind_by words_of on_first goes_on is_blank
entry = refl

-- `3 3 2`, and `3 3 2 1`
size : kind_of (51 ∷ 32 ∷ 51 ∷ 32 ∷ 50 ∷ []) ≡ Size 3 3 2
unfolding kind_of begins numbers_in are_numbers is_number every is_digit value_from kind_by words_of on_first goes_on is_blank
size = refl

four : kind_of (51 ∷ 32 ∷ 51 ∷ 32 ∷ 50 ∷ 32 ∷ 49 ∷ []) ≡ Other
unfolding kind_of begins numbers_in are_numbers is_number every is_digit value_from kind_by words_of on_first goes_on is_blank
four = refl

-- blanks alone; `-1 2`; `%`; `%` with a carriage return
blank : kind_of (32 ∷ 9 ∷ []) ≡ Blank
unfolding kind_of begins numbers_in are_numbers kind_by words_of on_first goes_on is_blank
blank = refl

signed : kind_of (45 ∷ 49 ∷ 32 ∷ 50 ∷ []) ≡ Other
unfolding kind_of begins numbers_in are_numbers is_number every is_digit value_from kind_by words_of on_first goes_on is_blank
signed = refl

comment : kind_of (37 ∷ []) ≡ Comment
unfolding kind_of begins holds
comment = refl

comment_return : kind_of (37 ∷ 13 ∷ []) ≡ Other
unfolding kind_of begins holds
comment_return = refl

-- 18446744073709551615 and one more
largest-number : is_number (49 ∷ 56 ∷ 52 ∷ 52 ∷ 54 ∷ 55 ∷ 52 ∷ 52 ∷ 48 ∷ 55 ∷ 51 ∷ 55 ∷ 48 ∷ 57 ∷ 53 ∷ 53 ∷ 49 ∷ 54 ∷ 49 ∷ 53 ∷ []) ≡ true
unfolding is_number every is_digit value_from
largest-number = refl

too_large : is_number (49 ∷ 56 ∷ 52 ∷ 52 ∷ 54 ∷ 55 ∷ 52 ∷ 52 ∷ 48 ∷ 55 ∷ 51 ∷ 55 ∷ 48 ∷ 57 ∷ 53 ∷ 53 ∷ 49 ∷ 54 ∷ 49 ∷ 54 ∷ []) ≡ false
unfolding is_number every is_digit value_from
too_large = refl

-- `%%MatrixMarket mATRIX coordinate pattern symmetric`, and a blank before it
banner-line : List ℕ
banner-line =
    banner_word ++ ((32 ∷ 109 ∷ 65 ∷ 84 ∷ 82 ∷ 73 ∷ 88 ∷ 32 ∷ [])
    ++ (coordinate_word ++ ((32 ∷ []) ++ (pattern_word ++ ((32 ∷ []) ++ symmetric_word)))))

banner : is_banner banner-line ≡ true
unfolding is_banner are_words same_by is_letter words_of on_first goes_on is_blank banner-line
banner = refl

banner_blank : is_banner (32 ∷ banner-line) ≡ false
unfolding is_banner goes_on is_blank banner-line
banner_blank = refl
