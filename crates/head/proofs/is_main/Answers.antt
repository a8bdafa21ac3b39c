use mathlib.Core.Path.{sym, ◌∙◌}
use Rattle.head.proofs.HeadLaws.{main_owned, main_named, main_more, main_returns, main_throws}
use Rattle.head.proofs.is_main.Goals as goal
use Rattle.head.proofs.is_main.Goals.{then-v-eq0, else-v-eq0, then-not-f, else-not-f}

pub returns-then-is_some : goal.returns-then-is_some
returns-then-is_some c =
    main_owned c.requires.2 c.requires.1 _ c.self_type.ensures c.is_some.ensures c.if-is_some.true

pub returns-then-not-f-2 : goal.returns-then-not-f-2
returns-then-not-f-2 c = elim c.if-not-f.branch [
  | then-not-f z ↦ elim c.if-v-eq0.branch [
    | then-v-eq0 y ↦
        main_named c.requires.2 c.requires.1 _ c.self_type.ensures c.is_some.ensures c.if-is_some.false y.if-v-eq0.true
        (sym y.value-is ∙ z.if-not-f.true) (sym z.value-is ∙ c.if-not-f-2.true) c.reads.ensures
    | else-v-eq0 y ↦ cc
  ]
  | else-not-f z ↦ cc
]

pub returns-else-not-f-2 : goal.returns-else-not-f-2
returns-else-not-f-2 c = elim c.if-not-f.branch [
  | then-not-f z ↦
      c.if-not-f-2.false ∙ main_throws c.requires.2 c.requires.1 _ c.self_type.ensures c.is_some.ensures
      (sym z.value-is ∙ c.if-not-f-2.false)
  | else-not-f z ↦ elim c.if-v-eq0.branch [
    | then-v-eq0 y ↦
        c.if-not-f-2.false ∙ main_returns c.requires.2 c.requires.1 _ c.self_type.ensures c.is_some.ensures
        (sym y.value-is ∙ z.if-not-f.false)
    | else-v-eq0 y ↦
        c.if-not-f-2.false ∙ main_more c.requires.2 c.requires.1 _ c.self_type.ensures c.is_some.ensures
        y.if-v-eq0.either
  ]
]
