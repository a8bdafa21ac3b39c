-- bridge/block.rs, with the two cases that a sheet's text has.
use Rattle.std.specs.Prelude.{ℕ, Bool, true, false, List, ◌++◌}
use Rattle.lexical.specs.Bytes.{bytes, same}
use Rattle.format.specs.Sheet.{Name}

pub data Block : Type 0 where
  user_defined_namespace : Name → Block
  extern_c : Block

abbrev pub write_common : Block → List ℕ
write_common (user_defined_namespace name) = bytes "namespace " ++ name
write_common extern_c = bytes "extern \"C\""

abbrev pub write_begin : Block → List ℕ
write_begin b = write_common b ++ bytes " {\n"

abbrev pub write_end : Block → List ℕ
write_end b = bytes "} // " ++ write_common b ++ bytes "\n"

-- two names are equal when their characters are
abbrev pub same_block : Block → Block → Bool
same_block (user_defined_namespace m) (user_defined_namespace n) = same m n
same_block (user_defined_namespace m) extern_c = false
same_block extern_c (user_defined_namespace n) = false
same_block extern_c extern_c = true
