-- Structs that hold structs, rings and legal orders. A struct goes by its item number.
use Rattle.std.specs.Prelude.{◌≡◌, cond, ℕ, ◌+◌, ◌<◌, eqb}
use mathlib.Core.List.{List, [], ◌∷◌, ◌++◌, Memᴰ}

infix 50 ◌∈◌
-- i is one of the list
abbrev pub ◌∈◌ : ℕ → List ℕ → Type 0
i ∈ l = Memᴰ i l

-- the structs that each struct holds by a named field, in the order of its fields
abbrev pub Graph : Type 0
Graph = ℕ → List ℕ

-- what is held is one of n items
abbrev pub Within : Graph → ℕ → Type 0
Within g n = (i c : ℕ) → c ∈ g i → c < n

-- js are the structs among n items, and what is held is one of them
pub record Structs (g : Graph) (n : ℕ) (js : List ℕ) : Type 0 where
  pub below : (i : ℕ) → i ∈ js → i < n
  pub held : (i c : ℕ) → c ∈ g i → c ∈ js

-- a holds the first of the others, each of them holds the next, and the last of them holds b
abbrev pub Chain : Graph → ℕ → List ℕ → ℕ → Type 0
Chain g a [] b = b ∈ g a
Chain g a (c ∷ others) b = (c ∈ g a) × Chain g c others b

-- document 01, refusal 12: "a struct holds itself by named fields, over any number of structs"
pub record Ring (g : Graph) (js : List ℕ) : Type 0 where
  pub start : ℕ
  pub others : List ℕ
  pub struct : start ∈ js
  pub closes : Chain g start others start

-- how many times i is in the list
unfoldable pub times : ℕ → List ℕ → ℕ
times i [] = 0
times i (j ∷ l) = cond (eqb i j) 1 0 + times i l

-- "every struct is in the list exactly once, and each after every struct that it holds"; nothing else is in it
pub record LegalOrder (g : Graph) (js o : List ℕ) : Type 0 where
  pub once : (i : ℕ) → i ∈ js → times i o ≡ 1
  pub only : (i : ℕ) → i ∈ o → i ∈ js
  pub after : (i c : ℕ) (before behind : List ℕ) → o ≡ before ++ (i ∷ behind) → c ∈ g i → c ∈ before
