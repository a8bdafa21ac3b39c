use mathlib.Core.Path.{refl}
use native.Mathlib.Omega.{arith}
use Rattle.words.proofs.TableLaws.{char_room, char_at}
use Rattle.words.proofs.word_char.Goals as goal

pub overflow_add-result-2 : goal.overflow_add-result-2
overflow_add-result-2 c = omega (arith, char_room c.requires.0 _ _ c.requires.1 c.requires.2 refl)

pub offset_bounds-t-start : goal.offset_bounds-t-start
offset_bounds-t-start c = omega (arith, char_room c.requires.0 _ _ c.requires.1 c.requires.2 refl)

pub bounds-t-start : goal.bounds-t-start
bounds-t-start c = omega (arith, char_room c.requires.0 _ _ c.requires.1 c.requires.2 refl)

pub returns : goal.returns
returns c = char_at c.requires.0 _ _ c.requires.1 c.requires.2 refl
