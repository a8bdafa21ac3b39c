-- What `Agrees` refuses: a sheet of two functions, the tree that agrees with it, and that tree with one part changed.
use mathlib.Core.Path.{◌≡◌, refl, sym, ap, ◌∙◌}
use mathlib.Core.List.{List, [], ◌∷◌, ◌++◌, map}
use mathlib.Core.Bool.{true, false, false≢true}
use Rattle.lexical.specs.Bytes.{bytes, same, member}
use Rattle.format.specs.declared.Atom.TheVariants.{U32, CxxString, RustString}
use Rattle.format.specs.declared.Template.TheVariants.{RustBox, RustVec, UniquePtr, SharedPtr}
use Rattle.format.specs.declared.Pointer.TheVariants.{Ref}
use Rattle.format.specs.Types.{Ty, atom, template, pointer, str, array, none, gives}
use Rattle.format.specs.Types as Types
use Rattle.format.specs.Sheet.{Name, const_method, rust_type, function, Argument, Item}
use Rattle.format.specs.Sheet as Sheet
use Rattle.syntax.specs.Items.{item_at}
use Rattle.syntax.specs.Symbol.{push_all, join}
use Rattle.syntax.specs.Mangle.{extern_fn}
use Rattle.syntax.specs.Types.{needs_indirect_abi}
use Rattle.grammar.specs.Types.{CxxType}
use Rattle.grammar.specs.Tree as Tree
use Rattle.grammar.specs.Tree.{Text, Body, body_end, item, block, namespace, extern_c, forward_end, Head, free, method}
use Rattle.grammar.specs.Tree.{Parameter, named, slot, Operand, receiver, direct, into_raw, release, address}
use Rattle.grammar.specs.Tree.{held_address, slot_address, void, bare, no_return}
use Rattle.agreement.specs.Agreement.{rust_functions, parameter_names, head_names, Declared, Defined, declarations}
use Rattle.agreement.specs.Agreement.{shims, of_functions, passing, argument_operand, argument_operands}
use Rattle.agreement.specs.Agreement.{fitting, only, RustFunction, Matches, Agrees}
use Rattle.agreement.proofs.AgreesTest.{agrees_test, agrees_told}

-- every definition that is computed with, behind one name
unfoldable computes : Unit {0}
unfolding same member item_at push_all join extern_fn needs_indirect_abi rust_functions parameter_names head_names declarations shims of_functions argument_operands fitting
computes = tt

-- ---- the sheet: an opaque Rust type `Job` in `mill`, and there `fn run(&self, a: T, b: T) -> String` of it and
-- `fn count(self: T)`, which is free and has an argument of that name

abbrev mill : List Name
mill = bytes "mill" ∷ []

abbrev arguments : Ty → List Name → List Argument
arguments t xs = map (λ x. record { name = x; type = t }) xs

abbrev pub items : Ty → List Item
items t =
    record { namespace = mill; cxx = bytes "Job"; body = rust_type true }
    ∷ record {
      namespace = mill;
      cxx = bytes "run";
      body = function (record {
        rust = bytes "run";
        form = const_method 0;
        throws = false;
        return = gives (atom RustString);
        arguments = arguments t (bytes "a" ∷ bytes "b" ∷ []);
        comment = [];
      });
    }
    ∷ record {
      namespace = mill;
      cxx = bytes "count";
      body = function (record {
        rust = bytes "count";
        form = Sheet.free;
        throws = false;
        return = none;
        arguments = arguments t (bytes "self" ∷ []);
        comment = [];
      });
    }
    ∷ []

-- ---- trees from declarations and shims, each in the blocks around it

abbrev within : List Name → (Body → Body) → Body → Body
within [] inside next = inside next
within (x ∷ xs) inside next = block (namespace x) (within xs inside body_end) next

abbrev declaring : List Declared → Body → Body
declaring [] next = next
declaring (d ∷ ds) next =
    within d.namespace (block extern_c (item (Tree.declares d.declaration) body_end)) (declaring ds next)

abbrev defining : List Defined → Body
defining [] = body_end
defining (s ∷ ss) = within s.namespace (item (Tree.shim s.shim)) (defining ss)

abbrev pub tree : List Declared → List Defined → Text
tree ds ss = Tree.text forward_end (declaring ds (defining ss))

-- lists that are equal with each operand in a list of its own
abbrev flat : List (List Operand) → List Operand
flat [] = []
flat (os ∷ oss) = os ++ flat oss

flat_only : (os : List Operand) → flat (map only os) ≡ os
flat_only [] = refl
flat_only (o ∷ os) = rw (flat_only os)

only_eq : (xs ys : List Operand) → map only ys ≡ map only xs → xs ≡ ys
only_eq xs ys e = sym (flat_only xs) ∙ ap flat (sym e) ∙ flat_only ys

-- of two shims that match a function and its declaration the operands are the same
pub one_operand_list : {items : List Item} {f : RustFunction} {d : Declared} {s t : Defined} → Matches items f d s →
    Matches items f d t → s.shim.call.operands ≡ t.shim.call.operands
one_operand_list {items} {f} {d} {s} {t} m n =
    only_eq s.shim.call.operands t.shim.call.operands
    (sym n.operands
    ∙ ap (λ (names : List Name). map (fitting items f.function names) d.declaration.parameters)
    (n.arguments ∙ sym m.arguments) ∙ m.operands)

-- c is the type of every parameter: `Agrees` does not look at it
module _ (c : CxxType) where
  abbrev declared : List Name → Name → List Parameter → Declared
  declared ns symbol parameters =
      record {
        namespace = ns;
        declaration = record { result = void; symbol = symbol; parameters = parameters; noexcept = true };
      }

  abbrev defined : List Name → Head → List Name → Name → List Operand → Defined
  defined ns head parameters symbol operands =
      record {
        namespace = ns;
        shim = record {
          comments = [];
          result = void;
          head = head;
          parameters = map (named c) parameters;
          is_const = false;
          noexcept = true;
          locals = [];
          call = record { form = bare; symbol = symbol; operands = operands };
          error_test = false;
          ending = no_return;
        };
      }

  -- ---- the parts of the tree that agrees

  abbrev run_symbol : Name
  run_symbol = bytes "mill$cxxbridge1$205$Job$run"

  abbrev count_symbol : Name
  count_symbol = bytes "mill$cxxbridge1$205$count"

  abbrev self : Parameter
  self = named c (bytes "self")

  abbrev first : Parameter
  first = named c (bytes "a")

  abbrev second : Parameter
  second = named c (bytes "b")

  abbrev run_parameters : List Parameter
  run_parameters = self ∷ first ∷ second ∷ slot c ∷ []

  abbrev run_head : Head
  run_head = method (bytes "Job") (bytes "run")

  abbrev run_names : List Name
  run_names = bytes "a" ∷ bytes "b" ∷ []

  abbrev run_declared : Declared
  run_declared = declared mill run_symbol run_parameters

  abbrev count_declared : Declared
  count_declared = declared mill count_symbol (self ∷ [])

  abbrev run_defined : List Operand → Defined
  run_defined operands = defined mill run_head run_names run_symbol operands

  abbrev count_defined : List Operand → Defined
  count_defined operands = defined mill (free (bytes "count")) (bytes "self" ∷ []) count_symbol operands

  -- the tree, with these operands
  abbrev calling : List Operand → List Operand → Text
  calling run count = tree (run_declared ∷ count_declared ∷ []) (run_defined run ∷ count_defined count ∷ [])

  -- ---- operands: for a sheet with arguments of any type these, and no others

  abbrev operand : Ty → Name → Operand
  operand t x = argument_operand (passing (items t) t) x

  abbrev run_operands : Ty → List Operand
  run_operands t = receiver ∷ operand t (bytes "a") ∷ operand t (bytes "b") ∷ slot_address ∷ []

  abbrev count_operands : Ty → List Operand
  count_operands t = operand t (bytes "self") ∷ []

  -- it agrees
  pub tree_agrees : (t : Ty) → Agrees (items t) (calling (run_operands t) (count_operands t))
  unfolding computes
  tree_agrees t = (
    record {
      declared_in = refl;
      defined_in = refl;
      declares = refl;
      parameters = refl;
      head = refl;
      arguments = refl;
      calls = refl;
      operands = refl;
    },
    (
      record {
        declared_in = refl;
        defined_in = refl;
        declares = refl;
        parameters = refl;
        head = refl;
        arguments = refl;
        calls = refl;
        operands = refl;
      },
      tt,
    ),
  )

  -- and with no other operands
  pub operands_told : (t : Ty) (run count : List Operand) → Agrees (items t) (calling run count) →
      (run ≡ run_operands t) × (count ≡ count_operands t)
  unfolding computes
  operands_told t run count a = (
    only_eq run (run_operands t) a.0.operands,
    only_eq count (count_operands t) a.1.0.operands,
  )

  -- nor with another operand for the first argument, whatever its form
  pub wrong_operand : (t : Ty) (o : Operand) → (o ≡ operand t (bytes "a") → ⊥) →
      Agrees (items t) (calling (receiver ∷ o ∷ operand t (bytes "b") ∷ slot_address ∷ []) (count_operands t)) → ⊥
  wrong_operand t o wrong a =
      let e = (operands_told t (receiver ∷ o ∷ operand t (bytes "b") ∷ slot_address ∷ []) (count_operands t) a).0 in
      wrong cc

  -- what fits, by the type that the sheet gives
  pub record ByType (x : Name) : Type 0 where
    pub atoms : operand (atom U32) x ≡ direct x
    pub references : operand (pointer Ref false (Types.named 0)) x ≡ direct x
    pub strs : operand str x ≡ direct x
    pub fns : operand (Types.fn none Types.nil) x ≡ direct x
    pub boxes : operand (template RustBox (Types.named 0)) x ≡ into_raw x
    pub unique_ptrs : operand (template UniquePtr (atom CxxString)) x ≡ release x
    pub rust_strings : operand (atom RustString) x ≡ address x
    pub rust_vecs : operand (template RustVec (atom U32)) x ≡ held_address x
    pub shared_ptrs : operand (template SharedPtr (atom U32)) x ≡ held_address x
    pub arrays : operand (array (atom U32) 2) x ≡ held_address x
    pub indirect_types : operand (Types.named 0) x ≡ held_address x

  pub operands_by_type : (x : Name) → ByType x
  unfolding computes
  operands_by_type x =
      record {
        atoms = refl;
        references = refl;
        strs = refl;
        fns = refl;
        boxes = refl;
        unique_ptrs = refl;
        rust_strings = refl;
        rust_vecs = refl;
        shared_ptrs = refl;
        arrays = refl;
        indirect_types = refl;
      }

  -- ---- one part changed, in the sheet with arguments of type u32

  pub record Refused (t : Text) : Type 0 where
    pub refused : Agrees (items (atom U32)) t → ⊥

  abbrev due : List Operand
  due = run_operands (atom U32)

  abbrev run_in : List Name → Defined
  run_in ns = defined ns run_head run_names run_symbol due

  abbrev run : Defined
  run = run_defined due

  abbrev count : Defined
  count = count_defined (count_operands (atom U32))

  abbrev a : Operand
  a = direct (bytes "a")

  abbrev b : Operand
  b = direct (bytes "b")

  -- that of `run` without the type
  abbrev unknown : Name
  unknown = bytes "mill$cxxbridge1$205$run"

  -- the tree with other declarations, and with other shims

  abbrev declared_as : List Declared → Text
  declared_as ds = tree ds (run ∷ count ∷ [])

  abbrev defined_as : List Defined → Text
  defined_as ss = tree (run_declared ∷ count_declared ∷ []) ss

  -- with another declaration of `run`, and with another shim

  abbrev run_declared_as : Declared → Text
  run_declared_as d = declared_as (d ∷ count_declared ∷ [])

  abbrev run_defined_as : Defined → Text
  run_defined_as s = defined_as (s ∷ count ∷ [])

  -- with another head of the shim, and with other operands

  abbrev headed : Head → List Name → Text
  headed head names = run_defined_as (defined mill head names run_symbol due)

  abbrev operands : List Operand → Text
  operands os = run_defined_as (run_defined os)

  -- with another symbol, and with other parameters, in the declaration and the call

  abbrev matching : Name → List Parameter → List Operand → Text
  matching symbol ps os =
      tree (declared mill symbol ps ∷ count_declared ∷ []) (defined mill run_head run_names symbol os ∷ count ∷ [])

  abbrev throughout : Name → Text
  throughout symbol = matching symbol run_parameters due

  abbrev handing : List Parameter → List Operand → Text
  handing ps os = matching run_symbol ps os

  -- a declaration of no function's symbol is not looked at
  pub other_declaration : Agrees (items (atom U32)) (declared_as (declared [] unknown [] ∷ run_declared ∷ count_declared ∷ []))
  unfolding computes
  other_declaration = tree_agrees (atom U32)

  pub record Refusals : Type 0 where
    -- the declarations: none, one too few or too many, in another order, in another namespace, of another symbol
    pub no_declaration : Refused (declared_as [])
    pub not_declared : Refused (declared_as (count_declared ∷ []))
    pub declared_twice : Refused (declared_as (run_declared ∷ run_declared ∷ count_declared ∷ []))
    pub declared_again : Refused (declared_as (run_declared ∷ count_declared ∷ run_declared ∷ []))
    pub declarations_exchanged : Refused (declared_as (count_declared ∷ run_declared ∷ []))
    pub declared_in_root : Refused (run_declared_as (declared [] run_symbol run_parameters))
    pub declared_elsewhere : Refused (run_declared_as (declared (bytes "Job" ∷ []) run_symbol run_parameters))
    pub declared_deeper : Refused (run_declared_as (declared (bytes "mill" ∷ bytes "mill" ∷ []) run_symbol run_parameters))
    pub other_symbol_declared : Refused (run_declared_as (declared mill count_symbol run_parameters))
    pub unknown_symbol_declared : Refused (run_declared_as (declared mill unknown run_parameters))
    -- declared and called so
    pub other_symbol : Refused (throughout count_symbol)
    pub unknown_symbol : Refused (throughout unknown)
    -- the parameters of the declaration, with operands that fit them one by one
    pub no_receiver : Refused (handing (first ∷ second ∷ slot c ∷ []) (a ∷ b ∷ slot_address ∷ []))
    pub receiver_twice : Refused (handing (self ∷ self ∷ first ∷ second ∷ slot c ∷ []) (receiver ∷ receiver ∷ a ∷ b ∷ slot_address ∷ []))
    pub receiver_later : Refused (handing (first ∷ self ∷ second ∷ slot c ∷ []) (a ∷ receiver ∷ b ∷ slot_address ∷ []))
    pub parameters_exchanged : Refused (handing (self ∷ second ∷ first ∷ slot c ∷ []) (receiver ∷ b ∷ a ∷ slot_address ∷ []))
    pub parameter_missing : Refused (handing (self ∷ first ∷ slot c ∷ []) (receiver ∷ a ∷ slot_address ∷ []))
    pub parameter_twice : Refused (handing (self ∷ first ∷ second ∷ second ∷ slot c ∷ []) (receiver ∷ a ∷ b ∷ b ∷ slot_address ∷ []))
    pub slot_missing : Refused (handing (self ∷ first ∷ second ∷ []) (receiver ∷ a ∷ b ∷ []))
    pub slot_twice : Refused (handing (self ∷ first ∷ second ∷ slot c ∷ slot c ∷ []) (receiver ∷ a ∷ b ∷ slot_address ∷ slot_address ∷ []))
    pub slot_first : Refused (handing (slot c ∷ self ∷ first ∷ second ∷ []) (slot_address ∷ receiver ∷ a ∷ b ∷ []))
    pub slot_not_due : Refused (tree (run_declared ∷ declared mill count_symbol (self ∷ slot c ∷ []) ∷ []) (run ∷ count_defined (direct (bytes "self") ∷ slot_address ∷ []) ∷ []))
    -- the shims
    pub no_shim : Refused (defined_as [])
    pub not_defined : Refused (defined_as (count ∷ []))
    pub defined_twice : Refused (defined_as (run ∷ run ∷ count ∷ []))
    pub defined_again : Refused (defined_as (run ∷ count ∷ run ∷ []))
    pub shims_exchanged : Refused (defined_as (count ∷ run ∷ []))
    pub defined_in_root : Refused (run_defined_as (run_in []))
    pub defined_elsewhere : Refused (run_defined_as (run_in (bytes "Job" ∷ [])))
    pub defined_deeper : Refused (run_defined_as (run_in (bytes "mill" ∷ bytes "mill" ∷ [])))
    -- the head of a shim
    pub other_name : Refused (headed (method (bytes "Job") (bytes "count")) run_names)
    pub other_type : Refused (headed (method (bytes "Task") (bytes "run")) run_names)
    pub type_missing : Refused (headed (free (bytes "run")) run_names)
    pub head_exchanged : Refused (headed run_head (bytes "b" ∷ bytes "a" ∷ []))
    pub head_missing : Refused (headed run_head (bytes "a" ∷ []))
    pub head_self : Refused (headed run_head (bytes "self" ∷ bytes "a" ∷ bytes "b" ∷ []))
    -- the symbol that a shim calls
    pub other_symbol_called : Refused (run_defined_as (defined mill run_head run_names count_symbol due))
    pub unknown_symbol_called : Refused (run_defined_as (defined mill run_head run_names unknown due))
    -- its operands: instances of `operands_told`
    pub no_operands : Refused (operands [])
    pub receiver_operand_missing : Refused (operands (a ∷ b ∷ slot_address ∷ []))
    pub receiver_operand_twice : Refused (operands (receiver ∷ receiver ∷ a ∷ b ∷ slot_address ∷ []))
    pub operands_exchanged : Refused (operands (receiver ∷ b ∷ a ∷ slot_address ∷ []))
    pub operand_twice : Refused (operands (receiver ∷ a ∷ a ∷ slot_address ∷ []))
    pub slot_operand_missing : Refused (operands (receiver ∷ a ∷ b ∷ []))
    pub slot_operand_first : Refused (operands (slot_address ∷ receiver ∷ a ∷ b ∷ []))
    pub self_by_name : Refused (operands (direct (bytes "self") ∷ a ∷ b ∷ slot_address ∷ []))
    pub self_as_receiver : Refused (defined_as (run ∷ count_defined (receiver ∷ []) ∷ []))

  told : {t : Text} → agrees_test (items (atom U32)) t ≡ false → Refused t
  told {t} e = record { refused = λ m. false≢true (sym e ∙ agrees_told (items (atom U32)) t m) }

  pub refusals : Refusals
  unfolding computes
  refusals =
      record {
        no_declaration = told refl;
        not_declared = told refl;
        declared_twice = told refl;
        declared_again = told refl;
        declarations_exchanged = told refl;
        declared_in_root = told refl;
        declared_elsewhere = told refl;
        declared_deeper = told refl;
        other_symbol_declared = told refl;
        unknown_symbol_declared = told refl;
        other_symbol = told refl;
        unknown_symbol = told refl;
        no_receiver = told refl;
        receiver_twice = told refl;
        receiver_later = told refl;
        parameters_exchanged = told refl;
        parameter_missing = told refl;
        parameter_twice = told refl;
        slot_missing = told refl;
        slot_twice = told refl;
        slot_first = told refl;
        slot_not_due = told refl;
        no_shim = told refl;
        not_defined = told refl;
        defined_twice = told refl;
        defined_again = told refl;
        shims_exchanged = told refl;
        defined_in_root = told refl;
        defined_elsewhere = told refl;
        defined_deeper = told refl;
        other_name = told refl;
        other_type = told refl;
        type_missing = told refl;
        head_exchanged = told refl;
        head_missing = told refl;
        head_self = told refl;
        other_symbol_called = told refl;
        unknown_symbol_called = told refl;
        no_operands = told refl;
        receiver_operand_missing = told refl;
        receiver_operand_twice = told refl;
        operands_exchanged = told refl;
        operand_twice = told refl;
        slot_operand_missing = told refl;
        slot_operand_first = told refl;
        self_by_name = told refl;
        self_as_receiver = told refl;
      }
