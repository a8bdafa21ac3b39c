-- A test that holds of every tree that agrees with its sheet: where it fails, the tree does not agree.
use mathlib.Core.Path.{◌≡◌, refl}
use mathlib.Core.List.{List, [], ◌∷◌, map}
use mathlib.Core.Bool.{Bool, true, false, ◌&&◌}
use Prim.Native.Nat.{ℕ}
use Rattle.lexical.specs.Bytes.{same}
use Rattle.lexical.proofs.BoolLaws.{and_of}
use Rattle.lexical.proofs.ByteLaws.{same_refl}
use Rattle.format.specs.Sheet.{Name, Item}
use Rattle.rules.specs.Rules.{argument_names}
use Rattle.grammar.specs.Tree as Tree
use Rattle.grammar.specs.Tree.{Operand}
use Rattle.agreement.specs.Agreement.{RustFunction, rust_functions, function_symbol, parameter_names}
use Rattle.agreement.specs.Agreement.{head_names, Declared, Defined, declarations, shims, of_functions, parameter_name}
use Rattle.agreement.specs.Agreement.{head_parts, fitting, only, Matches, MatchAll, Agrees}

-- ---- lists compared part by part

abbrev same_by : {A : Type 0} → (A → A → Bool) → List A → List A → Bool
same_by test [] [] = true
same_by test [] (y ∷ ys) = false
same_by test (x ∷ xs) [] = false
same_by test (x ∷ xs) (y ∷ ys) = test x y && same_by test xs ys

same_by_refl : {A : Type 0} (test : A → A → Bool) → ((x : A) → test x x ≡ true) → (xs : List A) → same_by test xs xs ≡ true
same_by_refl test h [] = refl
same_by_refl test h (x ∷ xs) = rw (h x) (same_by_refl test h xs)

name_told : (x y : Name) → x ≡ y → same x y ≡ true
name_told x y e = rw e (same_refl y)

abbrev same_names : List Name → List Name → Bool
same_names xs ys = same_by same xs ys

names_told : (xs ys : List Name) → xs ≡ ys → same_names xs ys ≡ true
names_told xs ys e = rw e (same_by_refl same same_refl ys)

-- an operand's form and name
abbrev code : Operand → List ℕ
code Tree.receiver = 0 ∷ []
code (Tree.direct x) = 1 ∷ x
code (Tree.into_raw x) = 2 ∷ x
code (Tree.release x) = 3 ∷ x
code (Tree.address x) = 4 ∷ x
code (Tree.held_address x) = 5 ∷ x
code Tree.slot_address = 6 ∷ []

abbrev same_operand : Operand → Operand → Bool
same_operand o p = same (code o) (code p)

abbrev same_operands : List (List Operand) → List (List Operand) → Bool
same_operands xs ys = same_by (same_by same_operand) xs ys

operands_told : (xs ys : List (List Operand)) → xs ≡ ys → same_operands xs ys ≡ true
operands_told xs ys e =
    rw e (same_by_refl (same_by same_operand) (same_by_refl same_operand (λ o. same_refl (code o))) ys)

-- ---- a test for each field of `Matches`

module _ (items : List Item) where
  abbrev match_test : RustFunction → Declared → Defined → Bool
  match_test f d s =
      same_names d.namespace f.namespace && (same_names s.namespace f.namespace
      && (same d.declaration.symbol (function_symbol items f)
      && (same_names (map parameter_name d.declaration.parameters) (parameter_names items f.function)
      && (same_names (head_parts s.shim.head) (head_names items f)
      && (same_names (map parameter_name s.shim.parameters) (argument_names f.function)
      && (same s.shim.call.symbol d.declaration.symbol
      && same_operands
      (map (fitting items f.function (map parameter_name s.shim.parameters)) d.declaration.parameters)
      (map only s.shim.call.operands)))))))

  matches_told : (f : RustFunction) (d : Declared) (s : Defined) → Matches items f d s → match_test f d s ≡ true
  matches_told f d s m =
      and_of _ _ (names_told _ _ m.declared_in)
      (and_of _ _ (names_told _ _ m.defined_in)
      (and_of _ _ (name_told _ _ m.declares)
      (and_of _ _ (names_told _ _ m.parameters)
      (and_of _ _ (names_told _ _ m.head)
      (and_of _ _ (names_told _ _ m.arguments)
      (and_of _ _ (name_told _ _ m.calls)
      (operands_told _ _ m.operands)))))))

  abbrev match_all_test : List RustFunction → List Declared → List Defined → Bool
  match_all_test [] [] [] = true
  match_all_test [] [] (s ∷ ss) = false
  match_all_test [] (d ∷ ds) ss = false
  match_all_test (f ∷ fs) [] ss = false
  match_all_test (f ∷ fs) (d ∷ ds) [] = false
  match_all_test (f ∷ fs) (d ∷ ds) (s ∷ ss) = match_test f d s && match_all_test fs ds ss

  match_all_told : (fs : List RustFunction) (ds : List Declared) (ss : List Defined) → MatchAll items fs ds ss →
      match_all_test fs ds ss ≡ true
  match_all_told [] [] [] m = refl
  match_all_told [] [] (s ∷ ss) m = absurd m
  match_all_told [] (d ∷ ds) ss m = absurd m
  match_all_told (f ∷ fs) [] ss m = absurd m
  match_all_told (f ∷ fs) (d ∷ ds) [] m = absurd m
  match_all_told (f ∷ fs) (d ∷ ds) (s ∷ ss) m =
      and_of (match_test f d s) (match_all_test fs ds ss) (matches_told f d s m.0) (match_all_told fs ds ss m.1)

  abbrev pub agrees_test : Tree.Text → Bool
  agrees_test (Tree.text forward body) =
      match_all_test (rust_functions items)
      (of_functions (map (function_symbol items) (rust_functions items)) (declarations [] body)) (shims [] body)

  pub agrees_told : (t : Tree.Text) → Agrees items t → agrees_test t ≡ true
  agrees_told (Tree.text forward body) m =
      match_all_told (rust_functions items)
      (of_functions (map (function_symbol items) (rust_functions items)) (declarations [] body)) (shims [] body) m
