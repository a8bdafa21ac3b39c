-- What each item of an accepted sheet keeps, by itself.
use mathlib.Core.Path.{◌≡◌, refl}
use mathlib.Core.List.{List, [], ◌∷◌, ◌++◌}
use mathlib.Core.Bool.{Bool, true, false}
use Prim.Native.Nat.{ℕ, zero, suc, ◌<◌}
use native.Mathlib.Omega.{arith}
use lib.Dec.{leb}
use lib.ListN.{length, get_or}
use Rattle.lexical.specs.Bytes.{every, same}
use Rattle.lexical.specs.Names.{is_name}
use Rattle.lexical.proofs.BoolLaws.{both, neither}
use Rattle.lexical.proofs.ByteLaws.{Each, every_cons, every_weaken}
use Rattle.format.specs.Sheet.{Name, Argument, Function, function, Item, Sheet}
use Rattle.rules.specs.Rules.{any, twice, gather, function_of, functions, reserved_namespace, type_name, symbol, taken}
use Rattle.rules.specs.Rules.{argument_names, unfit, unfit_argument}
use Rattle.decoded.specs.Fits
use Rattle.decoded.specs.Fits.{return_fits, argument_fits, form_fits, comment_fits, function_fits, body_fits, item_fits}
use Rattle.decoded.specs.Fits.{sheet_fits, type_fits}
use Rattle.decoded.specs.Names.{item_names, names_keep}
use Rattle.decoded.proofs.Accepted.{Accepted}

pub all_at : {A : Type 0} (P : A → Type 0) (xs : List A) (i : ℕ) (d : A) → Each P xs → i < length xs → P (get_or xs i d)
all_at P [] i d h l = absurd (omega arith)
all_at P (x ∷ xs) zero d h l = h.0
all_at P (x ∷ xs) (suc i) d h l = all_at P xs i d h.1 (omega arith)

pub argument_name : (items : ℕ) (a : Argument) → argument_fits items a ≡ true → is_name a.name ≡ true
unfolding argument_fits
argument_name items a h = (both (is_name a.name) (type_fits 8 items a.type) h).0

pub argument_type : (items : ℕ) (a : Argument) → argument_fits items a ≡ true → type_fits 8 items a.type ≡ true
unfolding argument_fits
argument_type items a h = (both (is_name a.name) (type_fits 8 items a.type) h).1

pub record FunctionKept (items : List Item) (f : Function) : Type 0 where
  pub rust_name : is_name f.rust ≡ true
  pub form_fits : form_fits (length items) f.form ≡ true
  pub return_fits : return_fits (length items) f.return ≡ true
  pub few_arguments : leb (length f.arguments) 31 ≡ true
  pub arguments_fit : every (argument_fits (length items)) f.arguments ≡ true
  pub few_lines : leb (length f.comment) 31 ≡ true
  pub lines_fit : every comment_fits f.comment ≡ true
  pub distinct : twice same (argument_names f) ≡ false
  pub fitting : any (unfit items f) f.arguments ≡ false

pub record ItemKept (items : List Item) (x : Item) : Type 0 where
  pub shallow : leb (length x.namespace) 7 ≡ true
  pub namespace_names : every is_name x.namespace ≡ true
  pub cxx_name : is_name x.cxx ≡ true
  pub unreserved : reserved_namespace x.namespace ≡ false
  pub function : (f : Function) → x.body ≡ function f → FunctionKept items f

-- what rule 10 leaves
pub record Untaken (items : List Item) : Type 0 where
  pub unreserved : any (λ x. reserved_namespace x.namespace) items ≡ false
  pub types : twice same (gather type_name items) ≡ false
  pub symbols : twice same (gather (symbol items) items) ≡ false
  pub arguments : any (λ f. twice same (argument_names f)) (functions items) ≡ false

pub untaken : (items : List Item) → taken items ≡ false → Untaken items
unfolding taken
untaken items h =
    let a = neither _ _ h in
    let b = neither _ _ a.0 in
    let c = neither _ _ b.0 in
    record { unreserved = c.0; types = c.1; symbols = b.1; arguments = a.1 }

module _ {A : Type 0} (test : A → Bool) where
  any_split : (xs ys : List A) → any test (xs ++ ys) ≡ false → (any test xs ≡ false) × (any test ys ≡ false)
  unfolding any
  any_split [] ys h = (refl, h)
  any_split (x ∷ xs) ys h =
      let q = neither (test x) (any test (xs ++ ys)) h in
      let p = any_split xs ys q.1 in
      (rw q.0 p.0, p.1)

function_kept : (items : List Item) (f : Function) → function_fits (length items) f ≡ true →
    twice same (argument_names f) ≡ false → any (unfit items f) f.arguments ≡ false → FunctionKept items f
unfolding every function_fits
function_kept items f h d g =
    let n = length items in
    let a = both (is_name f.rust) _ h in
    let b = both (Fits.form_fits n f.form) _ a.1 in
    let c = both (Fits.return_fits n f.return) _ b.1 in
    let e = both (leb (length f.arguments) 31) _ c.1 in
    let k = both (every (argument_fits n) f.arguments) _ e.1 in
    let l = both (leb (length f.comment) 31) (every comment_fits f.comment) k.1 in
    record {
      rust_name = a.0;
      form_fits = b.0;
      return_fits = c.0;
      few_arguments = e.0;
      arguments_fit = k.0;
      few_lines = l.0;
      lines_fit = l.1;
      distinct = d;
      fitting = g;
    }

-- an item whose own facts are at hand, of a sheet of these items
item_kept_lem : (items : List Item) (x : Item) → item_fits (length items) x ≡ true →
    reserved_namespace x.namespace ≡ false →
    any (λ f. twice same (argument_names f)) (function_of x.body) ≡ false →
    any (λ f. any (unfit items f) f.arguments) (function_of x.body) ≡ false → ItemKept items x
unfolding any every item_fits body_fits
item_kept_lem items x h u d g =
    let n = length items in
    let a = both (leb (length x.namespace) 7) _ h in
    let b = both (every is_name x.namespace) _ a.1 in
    let c = both (is_name x.cxx) (body_fits n x.body) b.1 in
    let of_body : (f : Function) → x.body ≡ function f → FunctionKept items f =
    λ f e. function_kept items f (rw e at c.1) (neither _ _ (rw e at d)).0 (neither _ _ (rw e at g)).0 in
    record {
      shallow = a.0;
      namespace_names = b.0;
      cxx_name = c.0;
      unreserved = u;
      function = of_body;
    }

-- every item of the list, where the whole sheet has these items
each_kept : (items xs : List Item) → every (item_fits (length items)) xs ≡ true →
    any (λ x. reserved_namespace x.namespace) xs ≡ false →
    any (λ f. twice same (argument_names f)) (functions xs) ≡ false →
    any (λ f. any (unfit items f) f.arguments) (functions xs) ≡ false → Each (ItemKept items) xs
unfolding every any gather
each_kept items [] h u d g = tt
each_kept items (x ∷ xs) h u d g =
    let a = both (item_fits (length items) x) _ h in
    let b = neither (reserved_namespace x.namespace) _ u in
    let c = any_split (λ f. twice same (argument_names f)) (function_of x.body) (functions xs) d in
    let e = any_split (λ f. any (unfit items f) f.arguments) (function_of x.body) (functions xs) g in
    (item_kept_lem items x a.0 b.0 c.0 e.0, each_kept items xs a.1 b.1 c.1 e.1)

pub accepted_kept : (s : List ℕ) (x : Sheet) → Accepted s x → Each (ItemKept x.items) x.items
unfolding sheet_fits unfit_argument
accepted_kept s x h =
    let items = x.items in
    let u = untaken items h.not_taken in
    each_kept items items (both (leb (length items) 255) _ h.fits).1 u.unreserved u.arguments
    h.fit_arguments

-- ---- names

-- what an item keeps, and that its names keep a rule
pub record KeptUnder (rule : Name → Bool) (items : List Item) (x : Item) : Type 0 where
  pub kept : ItemKept items x
  pub names : every rule (item_names x) ≡ true

pub each_kept_under : (rule : Name → Bool) (items : List Item) → Each (ItemKept items) items →
    names_keep rule items ≡ true → Each (KeptUnder rule items) items
unfolding names_keep
each_kept_under rule items kept h = go items kept h
  where
    go : (xs : List Item) → Each (ItemKept items) xs → every (λ x. every rule (item_names x)) xs ≡ true →
        Each (KeptUnder rule items) xs
    go [] k h = tt
    go (x ∷ xs) k h =
        let q = every_cons (λ x. every rule (item_names x)) x xs h in
        (record { kept = k.0; names = q.0 }, go xs k.1 q.1)

pub names_weaken : (rule weak : Name → Bool) → ((s : Name) → rule s ≡ true → weak s ≡ true) → (items : List Item) →
    names_keep rule items ≡ true → names_keep weak items ≡ true
unfolding names_keep
names_weaken rule weak w items h =
    every_weaken (λ x. every rule (item_names x)) (λ x. every weak (item_names x))
    (λ x k. every_weaken rule weak w (item_names x) k) items h
