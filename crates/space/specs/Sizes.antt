-- The largest dimension, and the sizes of the arrays that follow from it. Definitions only.
use Rattle.std.specs.Prelude.{ℕ, ◌+◌, ◌-◌, ◌*◌, ◌/◌, ◌^◌}

-- the largest dimension
abbrev pub max_dim : ℕ
max_dim = 14

-- the table of a space: 16 places for each basis element
abbrev pub cells : ℕ
cells = 16 * max_dim

-- lists for the first half of a basis, with a place for each row
abbrev pub lane_cells : ℕ
lane_cells = max_dim / 2 * 2 ^ (max_dim - max_dim / 2)

-- the symbols of the longest row
abbrev pub max_line : ℕ
max_line = 2 ^ (max_dim / 2 + 3)

-- the symbols of the longest column, which are also the most rows
abbrev pub max_column : ℕ
max_column = 2 ^ (max_dim - max_dim / 2)

-- the coefficients of the longest word
abbrev pub max_coefficients : ℕ
max_coefficients = 2 ^ (max_dim - 3)

-- the symbols of the longest word
abbrev pub max_word : ℕ
max_word = 2 ^ max_dim
