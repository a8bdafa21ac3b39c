use mathlib.Core.Path.{refl, ◌∙◌}
use borrow.Author.Tests.{le-ltb}
use Rattle.words.proofs.TableLaws.{verdict_lost, verdict_none, verdict_other, verdict_first, verdict_later}
use mathlib.Core.Path.{ap}
use mathlib.Core.Bool.{not}
use Rattle.words.proofs.verdict.Goals as goal

pub returns-then-not-is_free : goal.returns-then-not-is_free
returns-then-not-is_free c = verdict_lost c.requires _ _ c.is_free.ensures (ap not c.if-not-is_free.true)

pub returns-then-q-ge-NONE : goal.returns-then-q-ge-NONE
returns-then-q-ge-NONE c =
    verdict_none c.requires _ _ c.is_free.ensures (ap not c.if-not-is_free.false) c.if-q-ge-NONE.true

pub returns-then-word_length-q : goal.returns-then-word_length-q
returns-then-word_length-q c =
    verdict_other c.requires _ _ c.is_free.ensures (ap not c.if-not-is_free.false) c.if-q-ge-NONE.false
    refl c.word_length.ensures refl c.if-word_length-q.true

pub returns-then-edition-lt2 : goal.returns-then-edition-lt2
returns-then-edition-lt2 c =
    verdict_first c.requires _ _ c.is_free.ensures (ap not c.if-not-is_free.false) c.if-q-ge-NONE.false
    refl c.word_length.ensures refl c.if-word_length-q.false
    c.if-edition-lt2.true refl

pub returns-else-edition-lt2 : goal.returns-else-edition-lt2
returns-else-edition-lt2 c =
    le-ltb c.args.edition 2 c.if-edition-lt2.false ∙ verdict_later c.requires _ _ c.is_free.ensures (ap not c.if-not-is_free.false) c.if-q-ge-NONE.false
    refl c.word_length.ensures refl c.if-word_length-q.false
    c.if-edition-lt2.false
