-- Laws by which a sheet's table of marks decides rules 9 to 11.
use mathlib.Core.Path.{◌≡◌, refl, sym, ap, ap₂, ◌∙◌}
use mathlib.Core.List.{List}
use mathlib.Core.Bool.{Bool, true, false, ◌&&◌, ◌||◌}
use Prim.Native.Nat.{ℕ, ◌+◌, ◌-◌, ◌≤◌}
use native.Mathlib.Omega.{arith}
use lib.ListN.{length, get_or, length-map}
use lib.Dec.{eqb}
use borrow.Author.Tests.{eq-eqb, ne_eqb}
use Rattle.lexical.specs.Bytes.{same}
use Rattle.format.specs.Sheet.{Body, struct, enum, cxx_type, rust_type, function, Item}
use Rattle.format.specs.declared.ItemKind.{ItemKind}
use Rattle.syntax.specs.Items.{is_function}
use Rattle.syntax.specs.Types.{pointer_bit}
use Rattle.rules.specs.Rules.{any, twice, functions, wrong_part, argument_names, unfit_argument}
use Rattle.marks.specs.Reading.{some_from, marked}
use Rattle.marks.proofs.SomeLaws.{and-true, and-false}
use Rattle.marks.proofs.RuleLaws.{wrong_marks, repeated_marks, unfit_marks}
use Rattle.view.specs.Values.{one_item_at, items_at, item_no}
use Rattle.view.specs.Views.{kind_of_body, is_function_kind}
use Rattle.judge.specs.Marked.{Marked, named_function, indirect_error}

-- ---- one mark

module _ (u : List ℕ) (k : ℕ) (test : Bool) where
  mark_there : {r : Bool} → get_or u k 0 ≡ 1 → r ≡ test → r ≡ (test && marked u k)
  mark_there h e = rw (eq-eqb (get_or u k 0) 1 h) (e ∙ sym (and-true test))

  mark_missing : (get_or u k 0 ≡ 1 → ⊥) → false ≡ (test && marked u k)
  mark_missing h = sym (and-false test (marked u k) (ne_eqb (get_or u k 0) 1 h))

function_kind : (b : Body) → is_function_kind (kind_of_body b) ≡ is_function b
function_kind (struct p ts) = refl
function_kind (enum p a c) = refl
function_kind (cxx_type p) = refl
function_kind (rust_type p) = refl
function_kind (function f) = refl

module _ (s names items marks : List ℕ) (i : ℕ) where
  abbrev body : Body
  body = (item_no s names items i).body

  pub function_marked : {k : ItemKind} {r : Bool} → get_or marks (258 + i) 0 ≡ 1 → k ≡ kind_of_body body →
      r ≡ is_function_kind k → r ≡ named_function s names items marks i
  function_marked m h e =
      mark_there marks (258 + i) (is_function body) m (e ∙ (ap is_function_kind h ∙ function_kind body))

  pub function_unmarked : (get_or marks (258 + i) 0 ≡ 1 → ⊥) → false ≡ named_function s names items marks i
  function_unmarked m = mark_missing marks (258 + i) (is_function body) m

  pub error_marked : {r : Bool} → get_or marks (2 + i) 0 ≡ 1 → r ≡ pointer_bit body → r ≡ indirect_error s names items marks i
  error_marked m e = mark_there marks (2 + i) (pointer_bit body) m e

  pub error_unmarked : (get_or marks (2 + i) 0 ≡ 1 → ⊥) → false ≡ indirect_error s names items marks i
  error_unmarked m = mark_missing marks (2 + i) (pointer_bit body) m

-- ---- the rules

module _ {s names items marks : List ℕ} (h : Marked s names items marks) where
  abbrev all : List Item
  all = items_at s names items

  pub repeated_marked : eqb (get_or marks 1 0) 1 ≡ any (λ f. twice same (argument_names f)) (functions all)
  repeated_marked = sym (repeated_marks all ∙ ap (λ (u : List ℕ). marked u 1) (sym h.is))

  module _ (few : length items ≤ 255) where
    count : length all ≡ length items - 0
    unfolding items_at
    count = let e = length-map items (one_item_at s names items) in omega arith

    few_all : length all ≤ 255
    few_all = let e = count in omega arith

    pub wrong_marked : wrong_part all ≡ some_from (named_function s names items marks) 0 (length items - 0)
    wrong_marked =
        wrong_marks all few_all ∙
        ap₂ (λ (u : List ℕ) (k : ℕ). some_from (named_function s names items u) 0 k) (sym h.is) count

    unfit_either : unfit_argument all ≡
        (marked marks 0 || some_from (indirect_error s names items marks) 0 (length items - 0))
    unfit_either =
        unfit_marks all few_all ∙
        ap₂ (λ (u : List ℕ) (k : ℕ). marked u 0 || some_from (indirect_error s names items u) 0 k) (sym h.is) count

    pub unfit_marked : get_or marks 0 0 ≡ 1 → unfit_argument all ≡ true
    unfit_marked e =
        unfit_either ∙
        ap (λ (b : Bool). b || some_from (indirect_error s names items marks) 0 (length items - 0))
        (eq-eqb (get_or marks 0 0) 1 e)

    pub unfit_unmarked : (get_or marks 0 0 ≡ 1 → ⊥) →
        unfit_argument all ≡ some_from (indirect_error s names items marks) 0 (length items - 0)
    unfit_unmarked e =
        unfit_either ∙
        ap (λ (b : Bool). b || some_from (indirect_error s names items marks) 0 (length items - 0))
        (ne_eqb (get_or marks 0 0) 1 e)
