-- The text of a table's items is that of the names and items that it was filled from.
use mathlib.Core.Path.{◌≡◌, refl, ◌∙◌}
use mathlib.Core.List.{List, []}
use mathlib.Core.Bool.{Bool}
use Prim.Native.Nat.{ℕ}
use Rattle.bridge.specs.Write.{text}
use Rattle.std.specs.Prelude.{Result}
use Rattle.refusal.specs.declared.Refusal.{Refusal}
use Rattle.names.specs.Digests.{digests_at}
use Rattle.view.specs.Values.{items_at, Ready}
use Rattle.tables.specs.Tables.{names_in, items_in, items_of, Listed, Filled}
use Rattle.summary.specs.Summaries.{Summaries}
use Rattle.sections.specs.Runs.{sheet_of}
use Rattle.deliver.specs.Delivers.{Delivers}

-- the lists of the table that is lent are those that it was filled from
pub record Lists (names items t : List ℕ) : Type 0 where
  pub names_are : names_in t ≡ names
  pub items_are : items_in t ≡ items

pub listed_lists : {names items t : List ℕ} → Listed names items t → Lists names items t
listed_lists l = record { names_are = l.names_are; items_are = l.items_are }

pub filled_lists : {s names items t u pool : List ℕ} {end : ℕ} → Filled s t u pool end → Lists names items t →
    Lists names items u
filled_lists f l = record { names_are = f.same_names ∙ l.names_are; items_are = f.same_items ∙ l.items_are }

pub digested : {s names items digests t : List ℕ} → Ready s names items digests → Lists names items t →
    digests ≡ digests_at s (names_in t)
digested r l = rw l.names_are r.digested

pub text_of : (s : List ℕ) {names items t : List ℕ} (header doxygen : Bool) {buffer after : List ℕ} {r : Result ℕ Refusal} →
    Lists names items t → Delivers (text (sheet_of header doxygen (items_of s t))) buffer r after →
    Delivers (text (sheet_of header doxygen (items_at s names items))) buffer r after
text_of s header doxygen l d = rw (l.names_are, l.items_are) at d

-- no summary is kept of any function
pub summaries_none : {s t : List ℕ} → Summaries s t []
summaries_none = record { each = λ f x z. absurd (z refl) }
