-- The arguments of a function: what is told of their types by the kind, and what a walk past them leaves behind.
use Rattle.std.specs.Prelude.{◌≡◌, List, [], ◌∷◌, ◌++◌, map, Bool, false, ℕ, ◌<◌, ◌≤◌, length, get_or}
use Rattle.format.specs.Limits.{most_bits}
use Rattle.format.specs.Decode.{Got, got}
use Rattle.format.specs.Types.{Ty}
use Rattle.format.specs.Sheet.{Name, Argument}
use Rattle.format.specs.declared.TypeKind.{TypeKind}
use Rattle.format.specs.declared.TypeKind.TheVariants as Kind
use Rattle.rules.specs.Rules.{is_cxx_vector_template}
use Rattle.cursor.specs.Checking.{step_in}
use Rattle.names.specs.Naming.{name_at}
use Rattle.names.specs.Digests.{digest}
use Rattle.types.specs.Kinds.{type_here}
use Rattle.marks.specs.Gathering.{each, Gathers}
use Rattle.marks.specs.Marking.{unfit_at, mark_if, is_indirect_now, named_item, mark_error, mark_argument}
use Rattle.arguments.specs.declared.Passed.{Passed}

-- ---- their types

abbrev pub is_vector_kind : TypeKind → Bool
is_vector_kind (Kind.Template k) = is_cxx_vector_template k
is_vector_kind Kind.Atom = false
is_vector_kind Kind.Named = false
is_vector_kind (Kind.Pointer k) = false
is_vector_kind Kind.Str = false
is_vector_kind Kind.Fn = false
is_vector_kind Kind.Array = false
is_vector_kind Kind.Bad = false

-- what rule 11 wants of the type of an argument `error` of a throwing function
unfoldable pub judge_error : Ty → List ℕ → List ℕ
judge_error t u = each mark_error (named_item t) (mark_if (is_indirect_now t) unfit_at u)

-- ---- one argument

-- with the name of this index, and the type that stands at `of`
abbrev pub argument_of : List ℕ → List ℕ → ℕ → ℕ → ℕ → Argument
argument_of s names items name of = record { name = name_at s (get_or names name 0); type = type_here items s of }

-- the argument of the decoder's p was marked: u and v are the marks before and after, r tells of its name and its end
pub record Passes (method throws : Bool) (s names : List ℕ) (p : Got Argument) (u : List ℕ) (r : Passed) (v : List ℕ)
    : Type 0 where
  pub marks : Gathers (mark_argument method throws) p u (step_in r.next) v
  pub there : r.next ≤ most_bits → r.name < length names
  pub name : (x : Argument) (m : ℕ) → p ≡ got x m → name_at s (get_or names r.name 0) ≡ x.name

-- ---- all arguments

-- the names of a list of indexes
unfoldable pub names_of : List ℕ → List ℕ → List ℕ → List Name
names_of s names numbers = map (λ k. name_at s (get_or names k 0)) numbers

-- all are indexes of names
pub record Indexes (names numbers : List ℕ) : Type 0 where
  pub each : (i : ℕ) → i < length numbers → get_or numbers i 0 < length names

-- the numbers are indexes of names, and the keys the digests of these
pub record Numbered (s names numbers keys : List ℕ) : Type 0 where
  pub indexes : Indexes names numbers
  pub digests : keys ≡ map digest (names_of s names numbers)

-- the marks with one argument more, and the names
unfoldable pub note : Bool → Bool → Argument → List ℕ × List Name → List ℕ × List Name
note method throws a n = (mark_argument method throws a n.0, n.1 ++ (a.name ∷ []))

-- the arguments of the decoder's p were marked: u and v are the marks before and after, r the answer
pub record Notes (method throws : Bool) (s names : List ℕ) (p : Got (List Argument)) (u : List ℕ) (r : ℕ)
    (numbers keys v : List ℕ) : Type 0 where
  pub noted : Gathers (each (note method throws)) p (u, []) (step_in r) (v, names_of s names numbers)
  pub numbered : r ≤ most_bits → Numbered s names numbers keys
