-- A block's entries by their keys, with their chains, and what the functions on them answer. Definitions only.
use Rattle.std.specs.Prelude.{◌≡◌, List, [], ◌∷◌, ◌++◌, ℕ, zero, suc, ◌+◌, ◌-◌, ◌*◌, ◌/◌, ◌%◌, ◌≤◌, ◌<◌, length, get_or}
use Rattle.lines.specs.Kinds.{kinds_at}
use Rattle.lines.specs.declared.Kind.{Kind}
use Rattle.market.specs.Market.{Entry}
use Rattle.market.specs.Passes.{repeat_from}
use Rattle.repeated.specs.Blocks.{adding, first_of}
use Rattle.repeated.specs.declared.Rest.{Rest}

abbrev pub places : ℕ
places = 32_768

-- row and column as one number; two entries may have one key
unfoldable pub folded : ℕ → ℕ
folded x = (x % 0x1_0000_0000 + x / 0x1_0000_0000 * 2_654_435_769) % 0x1_0000_0000

unfoldable pub key_of : ℕ → ℕ → ℕ
key_of r c = folded r * 0x1_0000_0000 + folded c

unfoldable pub keys_of : List Entry → List ℕ
keys_of [] = []
keys_of (e ∷ es) = key_of e.row e.column ∷ keys_of es

unfoldable pub hash_of : ℕ → ℕ
hash_of key = (key / 0x1_0000_0000 * 1_000_003 + key % 0x1_0000_0000) % 0x1_0000_0000 * 2_654_435_769 / 131_072 % 32_768

-- the keys from place 1 on
unfoldable pub stored : List ℕ → ℕ → List ℕ
stored keys zero = []
stored keys (suc n) = stored keys n ++ (get_or keys (suc n) 0 ∷ [])

unfoldable pub hash_at : List ℕ → ℕ → ℕ
hash_at keys p = hash_of (get_or keys p 0)

-- the last of the places 1 to n at which f is h; or 0
pub record Last (f : ℕ → ℕ) (h n x : ℕ) : Type 0 where
  pub low : x ≤ n
  pub own : 1 ≤ x → f x ≡ h
  pub none : (j : ℕ) → x < j → j ≤ n → f j ≡ h → ⊥

-- so many keys with their chains
pub record Chained (count : ℕ) (keys links heads : List ℕ) : Type 0 where
  pub keys_room : length keys ≡ places
  pub links_room : length links ≡ places
  pub heads_room : length heads ≡ places
  pub most : count < places
  pub nobody : get_or links 0 0 ≡ 0
  pub head : (h : ℕ) → h < places → Last (hash_at keys) h count (get_or heads h 0)
  pub link : (p : ℕ) → 1 ≤ p → p ≤ count → Last (hash_at keys) (hash_at keys p) (p - 1) (get_or links p 0)

-- a line's entry is stored, if it has one
abbrev pub Keeps : Kind → List ℕ → List ℕ → Type 0
Keeps kind kept kept' = (seen : List Entry) → kept ≡ keys_of seen → kept' ≡ keys_of (adding seen kind)

-- the keys are those of so many entries of the text, from a place on
abbrev pub Holds : List ℕ → ℕ → List ℕ → Type 0
Holds text from kept = kept ≡ keys_of (first_of text from (length kept))

-- what is looked for stands behind the block
pub record Fills (text : List ℕ) (from first limit : ℕ) (r : Rest) (kept : List ℕ) : Type 0 where
  pub block : Holds text from kept
  pub same : repeat_from [] first limit (kinds_at text from) ≡ repeat_from (first_of text from (length kept)) r.line r.limit (kinds_at text r.at)
  pub on : from < r.at
  pub within : r.at ≤ length text
  pub below : r.line ≤ r.at

-- and so without the block
pub record Passed (text : List ℕ) (from first limit : ℕ) (r : Rest) : Type 0 where
  pub same : repeat_from [] first limit (kinds_at text from) ≡ repeat_from [] r.line r.limit (kinds_at text r.at)
  pub on : from < r.at
  pub within : r.at ≤ length text
  pub below : r.line ≤ r.at
