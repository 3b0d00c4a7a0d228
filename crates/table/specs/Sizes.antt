-- The sizes of a table: document 01, "Sizes" and "The table".
use Rattle.std.specs.Prelude.{ℕ}

-- "A row is six 64-bit numbers"
abbrev pub row_numbers : ℕ
row_numbers = 6

-- "rows of one certificate: 512, inherit rows counted"
abbrev pub max_rows : ℕ
max_rows = 512

-- "each at least 3,072 numbers of 64 bits"
abbrev pub table_numbers : ℕ
table_numbers = 3072
