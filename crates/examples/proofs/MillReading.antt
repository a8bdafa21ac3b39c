-- Demand 3 on document 01's example: the text's one reading, and that it fits. With the operands of a call swapped a text
-- is still read, and no longer fits.
use Rattle.std.proofs.Common.{◌≡◌, ℕ, List, [], ◌∷◌, sym, refl, subst, arith}
use Rattle.lexical.specs.Bytes.{bytes}
use Rattle.format.specs.declared.Atom.TheVariants.{U32}
use Rattle.format.specs.Types.{atom}
use Rattle.format.specs.Sheet.{Item}
use Rattle.grammar.specs.Tree.{Operand, direct}
use Rattle.grammar.specs.Reading.{Reading}
use Rattle.grammar.proofs.Examples.{worked, worked_tree, worked_reads, worked_once, swapped, swapped_tree, swapped_reads}
use Rattle.bridge.specs.Write.{text}
use Rattle.agreement.specs.Agreement.{Agrees, Demand3}
use Rattle.examples.proofs.Computing.{computes}
use Rattle.examples.proofs.Mill.{mill_items, value}

mill_is_worked : text value ≡ worked
unfolding computes
mill_is_worked = refl

pub mill_agrees : Agrees value.items worked_tree
unfolding computes
mill_agrees = (
  record {
    declared_in = refl;
    defined_in = refl;
    declares = refl;
    parameters = refl;
    head = refl;
    arguments = refl;
    calls = refl;
    operands = refl;
  },
  tt,
)

pub mill_demand3 : Demand3 value
mill_demand3 = record {
  reading = record {
    tree = worked_tree;
    reads = subst (λ (s : List ℕ). Reading worked_tree s) (sym mill_is_worked) worked_reads;
    equal = λ a b p q. worked_once.equal a b (subst (λ (s : List ℕ). Reading a s) mill_is_worked p)
        (subst (λ (s : List ℕ). Reading b s) mill_is_worked q);
  };
  agrees = mill_agrees;
}

-- the same function with one more argument
abbrev two_arguments : List Item
two_arguments = mill_items (record { name = bytes "more"; type = atom U32 } ∷ [])

-- a text with swapped operands is read, and its reading does not fit
pub swapped_does_not_fit : Reading swapped_tree swapped × (Agrees two_arguments swapped_tree → ⊥)
unfolding computes
swapped_does_not_fit = (swapped_reads, λ a. different a.0.operands)
  where
    different :
        ◌≡◌ {A = List (List Operand)} ((direct (bytes "job") ∷ []) ∷ (direct (bytes "more") ∷ []) ∷ [])
        ((direct (bytes "more") ∷ []) ∷ (direct (bytes "job") ∷ []) ∷ []) → ⊥
    different e = let y : ◌≡◌ {A = ℕ} 106 109 = cc in absurd (omega arith)
