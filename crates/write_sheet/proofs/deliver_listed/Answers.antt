use mathlib.Core.Path.{refl}
use Rattle.tables.proofs.TableLaws.{tabled, words_zero}
use Rattle.tables.proofs.PoolLaws.{lent_whole}
use Rattle.write_sheet.proofs.TableLaws.{listed_lists, filled_lists, digested, text_of, summaries_none}
use borrow.Author.Rules.{rules}
use Rattle.write_sheet.proofs.deliver_listed.Goals as goal

pub fill_table-requires : goal.fill_table-requires
fill_table-requires c = (c.requires.whole.named.few, c.requires.whole.few, search rules)

pub fill_pool-spelled-requires : goal.fill_pool-spelled-requires
fill_pool-spelled-requires c =
    let zeros = words_zero refl c.fill_table.ensures.1 in
    (tabled c.requires.whole c.fill_table.ensures.0 zeros, zeros, search rules)

pub fill_full_names-full-requires : goal.fill_full_names-full-requires
fill_full_names-full-requires c = (c.fill_pool-spelled.ensures.lent, c.fill_pool-spelled.ensures.room)

pub intern_types-requires : goal.intern_types-requires
intern_types-requires c = (c.fill_full_names-full.ensures.lent, c.fill_full_names-full.ensures.room)

pub fill_summaries-requires : goal.fill_summaries-requires
fill_summaries-requires c = (lent_whole c.intern_types.result _ c.intern_types.ensures.lent, refl)

pub deliver_text-requires : goal.deliver_text-requires
deliver_text-requires c =
    let lists = filled_lists c.intern_types.ensures (filled_lists c.fill_full_names-full.ensures
    (filled_lists c.fill_pool-spelled.ensures (listed_lists c.fill_table.ensures.0))) in (
      lent_whole c.intern_types.result _ c.intern_types.ensures.lent,
      digested c.requires lists,
      c.fill_summaries.ensures,
    )

pub returns-then-short-eq0 : goal.returns-then-short-eq0
returns-then-short-eq0 c =
    let lists = filled_lists c.intern_types.ensures (filled_lists c.fill_full_names-full.ensures
    (filled_lists c.fill_pool-spelled.ensures (listed_lists c.fill_table.ensures.0))) in
    text_of _ _ _ lists c.deliver_text.ensures

pub deliver_text-requires-2 : goal.deliver_text-requires-2
deliver_text-requires-2 c =
    let lists = filled_lists c.fill_full_names-full.ensures
    (filled_lists c.fill_pool-spelled.ensures (listed_lists c.fill_table.ensures.0)) in (
      lent_whole c.fill_full_names-full.result _ c.fill_full_names-full.ensures.lent,
      digested c.requires lists,
      summaries_none,
    )

pub returns : goal.returns
returns c =
    let lists = filled_lists c.fill_full_names-full.ensures
    (filled_lists c.fill_pool-spelled.ensures (listed_lists c.fill_table.ensures.0)) in
    text_of _ _ _ lists c.deliver_text-2.ensures
