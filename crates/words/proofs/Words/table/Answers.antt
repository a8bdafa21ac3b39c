use mathlib.Core.Path.{refl}
use Rattle.lexical.specs.Bytes.{every}
use Rattle.lexical.specs.Names.{keywords, added_keywords, keywords20, alternative_tokens, reserved, table_of}
use Rattle.words.specs.Walking.{begins, first_with, before, sorted, chosen, common}
use Rattle.words.specs.Words.{words_of, total, starts_of, shared_of, firsts_of}
use Rattle.words.proofs.TableLaws.{sort, right}
use Rattle.words.proofs.Words.table.Goals as goal

pub returns : goal.returns
unfolding every keywords added_keywords keywords20 alternative_tokens reserved table_of begins first_with before
    sorted chosen common words_of total starts_of shared_of firsts_of sort
returns c = right _ refl refl refl refl refl refl refl refl refl refl
