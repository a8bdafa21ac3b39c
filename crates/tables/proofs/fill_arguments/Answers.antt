use native.Mathlib.Omega.{arith}
use mathlib.Core.Path.{sym, ap, ◌∙◌}
use lib.ListN.{length-set}
use Rattle.cursor.proofs.WidthLaws.{width_le}
use Rattle.format.specs.Bits.{width_of}
use Rattle.view.proofs.ArgumentLaws as laws
use Rattle.tables.proofs.TableLaws.{items_count_lem}
use Rattle.tables.proofs.PoolLaws.{names_count_lem}
use Rattle.tables.proofs.MetLaws.{known_type, known_next}
use Rattle.tables.proofs.fill_arguments.Goals.{then-word-gt0, else-word-gt0}
use Rattle.tables.proofs.fill_arguments.Goals as goal

pub field-name-requires : goal.field-name-requires
field-name-requires c = (c.requires.0.whole.named.limited, width_le _ c.width-w.ensures)

pub met_entry-requires : goal.met_entry-requires
met_entry-requires c =
    let wide = c.width-w.ensures ∙ ap width_of (sym (names_count_lem c.requires.0)) in (
      c.requires.0,
      omega (
        arith,
        c.requires.0.whole.named.few,
        laws.argument_named _ _ _ _ c.requires.1 c.loop-j.next.at
            c.loop-j.invariant.1 (omega arith) wide c.field-name.ensures,
      ),
      c.known_type-word.ensures (λ z. omega (arith, c.if-word-gt0.true, z)),
    )

pub argument_entry-requires : goal.argument_entry-requires
argument_entry-requires c =
    let wide = c.width-w.ensures ∙ ap width_of (sym (names_count_lem c.requires.0)) in
    rw (c.names_in.ensures, c.items_in.ensures) (
      c.requires.0.whole,
      omega (
        arith,
        c.requires.0.whole.named.few,
        laws.argument_named _ _ _ _ c.requires.1 c.loop-j.next.at
            c.loop-j.invariant.1 (omega arith) wide c.field-name.ensures,
      ),
      laws.argument_type _ _ _ _ c.requires.1 c.loop-j.next.at c.loop-j.invariant.1 (omega arith) wide
          c.field-name.ensures,
    )

pub skip_type-next-requires : goal.skip_type-next-requires
skip_type-next-requires c =
    let wide = c.width-w.ensures ∙ ap width_of (sym (names_count_lem c.requires.0)) in
    rw (← items_count_lem c.requires.0) (
      c.requires.0.whole.named.limited,
      laws.argument_type _ _ _ _ c.requires.1 c.loop-j.next.at c.loop-j.invariant.1 (omega arith) wide
          c.field-name.ensures,
    )

pub loop-j-preserved : goal.loop-j-preserved
loop-j-preserved c =
    let wide = c.width-w.ensures ∙ ap width_of (sym (names_count_lem c.requires.0)) in
    elim c.if-word-gt0.branch [
      | then-word-gt0 w ↦
          let word = c.known_type-word.ensures (λ z. omega (arith, w.if-word-gt0.true, z)) in
          rw (w.offsets-is, w.next-is) (
            simp length-set (omega arith),
            laws.arguments_turn _ _ _ _ c.requires.1 c.loop-j.next.at c.loop-j.invariant.1
                (omega arith) wide c.field-name.ensures w.met_entry.result (omega (arith, c.requires.1.view.few))
                w.met_entry.ensures.named (rw w.met_entry.ensures.of (known_type word)) w.met_entry.ensures.facts
                (rw w.new-next.ensures (known_next word)),
          )
      | else-word-gt0 w ↦
          let entry = rw (w.names_in.ensures, w.items_in.ensures) at w.argument_entry.ensures in
          rw (w.offsets-is, w.next-is) (
            simp length-set (omega arith),
            laws.arguments_turn _ _ _ _ c.requires.1 c.loop-j.next.at c.loop-j.invariant.1
                (omega arith) wide c.field-name.ensures w.argument_entry.result (omega (arith, c.requires.1.view.few))
                entry.named (rw entry.of (laws.argument_type _ _ _ _ c.requires.1 c.loop-j.next.at c.loop-j.invariant.1
                (omega arith)
                wide c.field-name.ensures)) entry.facts (rw (← items_count_lem c.requires.0) at w.skip_type-next.ensures),
          )
    ]

pub returns : goal.returns
returns c =
    laws.arguments_done _ _ _ _ c.requires.1 c.loop-j.next c.loop-j.invariant.1 (omega arith)
    (omega arith)
