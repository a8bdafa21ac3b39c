-- A sheet that was decoded, with its tables cut to their lengths, is whole.
use mathlib.Core.Path.{◌≡◌, ap₂, ◌∙◌}
use mathlib.Core.List.{List, [], map}
use mathlib.Core.Bool.{false}
use Prim.Native.Nat.{ℕ, ◌≤◌}
use lib.ListN.{length, take}
use lib.Seq.{length-take-le}
use Rattle.format.specs.Decode.{Got}
use Rattle.format.specs.Sheet.{Name, cxx_type, Item, Sheet}
use Rattle.format.specs.Decoding.{item}
use Rattle.syntax.specs.Items.{item_at}
use Rattle.cursor.specs.Checking.{Limited}
use Rattle.format.specs.declared.Outline.{Outline}
use Rattle.decode.specs.Tables.{Tables}
use Rattle.view.specs.Values.{value_or, names_at, one_item_at, items_at, Whole, Ready}
use Rattle.names.proofs.NamedLaws.{table_each, table_values, table_names, table_digests, table_named}

-- ---- the tables that crate decode fills

abbrev no_item : Item
no_item = record { namespace = []; cxx = []; body = cxx_type false }

module _ {s : List ℕ} {p : Got Sheet} {o : Outline} {b c g u v : List ℕ} (t : Tables s p o b c g u v) (room : o.names ≤ length b)
    (space : o.items ≤ length c) where
  pub names_are_lem : names_at s (take o.names b) ≡ t.names
  names_are_lem = table_names t.table room

  pub items_are_lem : items_at s (take o.names b) (take o.items c) ≡ t.items.sheet.items
  unfolding items_at one_item_at
  items_are_lem =
      ap₂ (λ (ns : List Name) (n : ℕ). map (λ at. value_or no_item (item ns n s at)) (take o.items c)) names_are_lem
      (length-take-le o.items c space) ∙
      table_values (item t.names o.items) no_item t.items.table space

  whole : Limited s → Whole s (take o.names b) (take o.items c)
  unfolding item_at
  whole l = record {
    named = table_named t.table room l t.few;
    few = rw (length-take-le o.items c space) t.items.few;
    each = λ i h. rw (names_are_lem, items_are_lem, length-take-le o.items c space)
        (table_each (item t.names o.items) no_item t.items.table space i
        (rw (length-take-le o.items c space) at h));
  }

  pub ready : Limited s → Ready s (take o.names b) (take o.items c) (take o.names g)
  ready l = record { whole = whole l; digested = table_digests t.table room t.digested }
