-- The types of a sheet: `Type` of syntax/mod.rs as a tree. A named type keeps its item number.
use Rattle.std.specs.Prelude.{List, [], ◌∷◌, Bool, ℕ}
use Rattle.format.specs.declared.Atom.{Atom}
use Rattle.format.specs.declared.Template.{Template}
use Rattle.format.specs.declared.Pointer.{Pointer}

mutual
  pub data Ty : Type 0 where
    atom : Atom → Ty
    named : ℕ → Ty
    template : Template → Ty → Ty
    pointer : Pointer → Bool → Ty → Ty  -- the Bool: mutable
    str : Ty
    fn : Ret → Tys → Ty
    array : Ty → ℕ → Ty

  pub data Ret : Type 0 where
    none : Ret
    gives : Ty → Ret

  pub data Tys : Type 0 where
    nil : Tys
    cons : Ty → Tys → Tys

-- a list of types as the tree holds it
abbrev pub tys : List Ty → Tys
tys [] = nil
tys (t ∷ ts) = cons t (tys ts)
