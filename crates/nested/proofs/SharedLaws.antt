-- Laws of shared namespaces, and of the namespace at a depth.
use mathlib.Core.Path.{◌≡◌, refl, sym, ap, ◌∙◌}
use mathlib.Core.List.{List, [], ◌∷◌}
use mathlib.Core.Bool.{Bool, true, false, ◌&&◌, false≢true}
use Prim.Native.Nat.{ℕ, zero, suc, ◌+◌, ◌-◌, ◌<◌, ◌≤◌}
use native.Mathlib.Omega.{arith}
use native.Mathlib.Numerals.{add-one}
use lib.Dec.{eqb, eqb-suc-zero, eqb-suc-suc}
use lib.ListN.{length, get_or, drop}
use lib.Seq.{drop-cons}
use Rattle.lexical.specs.Bytes.{same}
use Rattle.lexical.proofs.BoolLaws.{both}
use Rattle.lexical.proofs.ByteLaws.{same_eq}
use Rattle.format.specs.Sheet.{Name}
use Rattle.bridge.specs.Nested.{first_name, is_empty, starts_with}
use Rattle.nested.specs.Groups.{shared}
use Rattle.nested.proofs.ListLaws.{and-true, and-false, and_assoc}

-- ---- the namespace at a depth

pub space_there : (depth : ℕ) (ns : List Name) → depth < length ns → first_name (drop depth ns) ≡ get_or ns depth [] ∷ []
space_there zero [] l = absurd (omega arith)
space_there zero (n ∷ ns) l = refl
space_there (suc depth) [] l = absurd (omega arith)
space_there (suc depth) (n ∷ ns) l = space_there depth ns (omega arith)

pub space_none : (depth : ℕ) (ns : List Name) → length ns ≤ depth → first_name (drop depth ns) ≡ []
space_none zero [] l = refl
space_none zero (n ∷ ns) l = absurd (omega arith)
space_none (suc depth) [] l = refl
space_none (suc depth) (n ∷ ns) l = space_none depth ns (omega arith)

-- the namespaces end at this depth
pub ends_here : (depth : ℕ) (ns : List Name) → depth ≤ length ns → is_empty (first_name (drop depth ns)) ≡ eqb (length ns) depth
ends_here zero [] l = refl
ends_here zero (n ∷ ns) l = sym (eqb-suc-zero (length ns))
ends_here (suc depth) [] l = absurd (omega arith)
ends_here (suc depth) (n ∷ ns) l = ends_here depth ns (omega arith) ∙ sym (eqb-suc-suc (length ns) depth)

-- ---- shared namespaces

pub shared_deep : (depth : ℕ) (ms ns : List Name) → shared depth ms ns ≡ true → depth ≤ length ns
unfolding shared
shared_deep zero ms ns h = omega arith
shared_deep (suc depth) [] ns h = absurd (false≢true h)
shared_deep (suc depth) (m ∷ ms) [] h = absurd (false≢true h)
shared_deep (suc depth) (m ∷ ms) (n ∷ ns) h =
    omega (arith, shared_deep depth ms ns (both (same m n) (shared depth ms ns) h).1)

-- what shares with one of the two shares with the other
pub shared_with : (depth : ℕ) (ms ns xs : List Name) → shared depth ms ns ≡ true →
    shared depth ms xs ≡ shared depth ns xs
unfolding shared
shared_with zero ms ns xs h = refl
shared_with (suc depth) [] ns xs h = absurd (false≢true h)
shared_with (suc depth) (m ∷ ms) [] xs h = absurd (false≢true h)
shared_with (suc depth) (m ∷ ms) (n ∷ ns) [] h = refl
shared_with (suc depth) (m ∷ ms) (n ∷ ns) (x ∷ xs) h =
    let q = both (same m n) (shared depth ms ns) h in
    rw (same_eq m n q.0, shared_with depth ms ns xs q.1)

-- one namespace more
shared_suc : (depth : ℕ) (ms xs : List Name) → depth < length ms →
    shared (suc depth) ms xs ≡ (shared depth ms xs && starts_with (get_or ms depth []) (first_name (drop depth xs)))
unfolding shared
shared_suc zero [] xs l = absurd (omega arith)
shared_suc zero (m ∷ ms) [] l = refl
shared_suc zero (m ∷ ms) (x ∷ xs) l = and-true (same m x)
shared_suc (suc depth) [] xs l = absurd (omega arith)
shared_suc (suc depth) (m ∷ ms) [] l = refl
shared_suc (suc depth) (m ∷ ms) (x ∷ xs) l =
    ap (λ (b : Bool). same m x && b) (shared_suc depth ms xs (omega arith)) ∙
    sym (and_assoc (same m x) (shared depth ms xs) (starts_with (get_or ms depth []) (first_name (drop depth xs))))

pub shared_next : (depth : ℕ) (ms xs : List Name) → depth < length ms →
    shared (depth + 1) ms xs ≡ (shared depth ms xs && starts_with (get_or ms depth []) (first_name (drop depth xs)))
shared_next depth ms xs l = rw add-one (shared_suc depth ms xs l)

-- ---- namespace by namespace

pub shared_none : (depth : ℕ) (ms ns : List Name) → depth ≤ 0 → shared depth ms ns ≡ true
unfolding shared
shared_none zero ms ns h = refl
shared_none (suc depth) ms ns h = absurd (omega arith)

pub shared_short : (depth : ℕ) (ms ns : List Name) → length ms < depth → shared depth ms ns ≡ false
unfolding shared
shared_short zero ms ns h = absurd (omega arith)
shared_short (suc depth) [] ns h = refl
shared_short (suc depth) (m ∷ ms) [] h = refl
shared_short (suc depth) (m ∷ ms) (n ∷ ns) h = rw (shared_short depth ms ns (omega arith)) (and-false (same m n))

pub shared_low : (depth : ℕ) (ms ns : List Name) → length ns < depth → shared depth ms ns ≡ false
unfolding shared
shared_low zero ms ns h = absurd (omega arith)
shared_low (suc depth) [] ns h = refl
shared_low (suc depth) (m ∷ ms) [] h = refl
shared_low (suc depth) (m ∷ ms) (n ∷ ns) h = rw (shared_low depth ms ns (omega arith)) (and-false (same m n))

module _ (depth d : ℕ) (ms ns : List Name) (h : d < depth) (l : d < length ms) (k : d < length ns) where
  head : shared (depth - d) (drop d ms) (drop d ns) ≡
      (same (get_or ms d []) (get_or ns d []) && shared (depth - (d + 1)) (drop (d + 1) ms) (drop (d + 1) ns))
  unfolding shared
  head =
      let z : depth - d ≡ suc (depth - (d + 1)) = omega arith in
      rw (z, drop-cons ms d [] l, drop-cons ns d [] k, add-one d)

  pub shared_turn : same (get_or ms d []) (get_or ns d []) ≡ true →
      shared (depth - d) (drop d ms) (drop d ns) ≡ shared (depth - (d + 1)) (drop (d + 1) ms) (drop (d + 1) ns)
  shared_turn e = head ∙ rw e

  pub shared_differ : same (get_or ms d []) (get_or ns d []) ≡ false → shared (depth - d) (drop d ms) (drop d ns) ≡ false
  shared_differ e = head ∙ rw e
