-- Numbers in bytes, lowest byte first. Definitions only.
use Rattle.std.specs.Prelude.{Bool, true, false, List, [], ◌∷◌, ◌++◌, ℕ, ◌+◌, ◌*◌, ◌/◌, ◌%◌, get_or}
use Rattle.lists.specs.Tables.{tab}

-- ---- writing

-- a number below 2^16 in two bytes
abbrev pub two_bytes : ℕ → List ℕ
two_bytes x = x % 256 ∷ x / 256 % 256 ∷ []

-- a number below 2^32 in four
abbrev pub four_bytes : ℕ → List ℕ
four_bytes x = two_bytes x ++ two_bytes (x / 65536)

-- numbers one after the other, two bytes each
abbrev pub pairs : List ℕ → List ℕ
pairs [] = []
pairs (x ∷ xs) = two_bytes x ++ pairs xs

-- one byte each (true), or two
abbrev pub packed : Bool → List ℕ → List ℕ
packed true xs = xs
packed false xs = pairs xs

-- how many bytes n of them take
abbrev pub packed_size : Bool → ℕ → ℕ
packed_size true n = n
packed_size false n = 2 * n

-- ---- reading, at a place in the bytes f

-- the two-byte number
unfoldable pub two_at : List ℕ → ℕ → ℕ
two_at f p = get_or f p 0 + 256 * get_or f (p + 1) 0

-- the four-byte number
unfoldable pub four_at : List ℕ → ℕ → ℕ
four_at f p = two_at f p + 65536 * two_at f (p + 2)

-- number i of those that stand at p, one byte each (true) or two
abbrev pub number_at : Bool → List ℕ → ℕ → ℕ → ℕ
number_at true f p i = get_or f (p + i) 0
number_at false f p i = two_at f (p + 2 * i)

-- n of them
abbrev pub numbers_at : Bool → List ℕ → ℕ → ℕ → List ℕ
numbers_at t f p n = tab n (λ i. number_at t f p i)
