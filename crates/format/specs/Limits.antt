-- The limits of a sheet: document 01, "The sheet", and what the widths of its fields allow.
use Rattle.std.specs.Prelude.{ℕ, ◌*◌}

-- "At most 32,768 bytes"
abbrev pub most_bytes : ℕ
most_bytes = 32768

abbrev pub most_bits : ℕ
most_bits = 8 * most_bytes

-- "Edition 0 and 3 upward get 2" (document 02, order 13)
abbrev pub last_edition : ℕ
last_edition = 2

-- "N, 10 bits: the number of names"; "1,023 takes 10"
abbrev pub most_names : ℕ
most_names = 1023

-- "length 6 bits, 1 to 63"
abbrev pub longest_name : ℕ
longest_name = 63

-- "I, 8 bits: the number of items"
abbrev pub most_items : ℕ
most_items = 255

-- "namespace depth 3 bits"
abbrev pub most_namespaces : ℕ
most_namespaces = 7

-- "6-bit field count"
abbrev pub most_fields : ℕ
most_fields = 63

-- "Fn (return bit, type if set, 4-bit count, types)"
abbrev pub most_slots : ℕ
most_slots = 15

-- "5-bit argument count"
abbrev pub most_arguments : ℕ
most_arguments = 31

-- "5-bit comment line count"
abbrev pub most_lines : ℕ
most_lines = 31

-- "each line 7-bit length (0 to 127)"
abbrev pub longest_line : ℕ
longest_line = 127

-- "depth 8 is allowed"
abbrev pub most_levels : ℕ
most_levels = 8
