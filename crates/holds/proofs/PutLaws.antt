-- Laws of a list in front of an array.
use mathlib.Core.Path.{◌≡◌, refl, sym, ap, ◌∙◌}
use mathlib.Core.List.{List, [], ◌∷◌, ◌++◌, append-nil, append_assoc}
use Prim.Native.Nat.{ℕ, zero, suc, ◌+◌, ◌-◌, ◌<◌, ◌≤◌}
use native.Mathlib.Omega.{arith}
use native.Mathlib.Numerals.{add-one}
use lib.ListN.{length, take, drop, set, length-append, length-set}
use lib.Seq.{take-suc-set, take-take, take-nil, take-append_seam, length-take-le, take-length, drop_at}
use Rattle.std.specs.Prelude.{None, Some}
use Rattle.holds.specs.Edges.{counted, Puts}

pub put_one : (l : List ℕ) (at i : ℕ) → at < length l → Puts (counted (Some i)) at l (at + 1) (set l at i)
put_one l at i h = record { front = rw add-one (take-suc-set l at i h); end = refl; kept = length-set l at i }

pub put_none : (l : List ℕ) (at : ℕ) → Puts (counted None) at l at l
put_none l at = record { front = sym (append-nil (take at l)); end = omega arith; kept = refl }

-- one list behind another
pub put_both : {xs ys l m n : List ℕ} {at r e : ℕ} → Puts xs at l r m → Puts ys r m e n → Puts (xs ++ ys) at l e n
put_both {xs} {ys} {l} {m} {n} {at} {r} {e} a b = record {
  front = b.front ∙ ap (λ (k : List ℕ). k ++ ys) a.front ∙ append_assoc (take at l) xs ys;
  end = omega (arith, a.end, b.end, length-append xs ys);
  kept = b.kept ∙ a.kept;
}

pub put_nothing : (l : List ℕ) (at : ℕ) → Puts [] at l at l
put_nothing l at = record { front = sym (append-nil (take at l)); end = omega arith; kept = refl }

-- ---- parts of the front

-- a part that ends in the first n
part_inside : (a b n : ℕ) (l : List ℕ) → b ≤ n → take (b - a) (drop a l) ≡ take (b - a) (drop a (take n l))
part_inside zero b n l h = let z : b - 0 ≡ b = omega arith in rw z (sym (take-take b n l h))
part_inside (suc a) b n [] h = rw (take-nil {A = ℕ} n) refl
part_inside (suc a) zero n (x ∷ l) h = let z : 0 - suc a ≡ 0 = omega arith in rw z refl
part_inside (suc a) (suc b) zero (x ∷ l) h = absurd (omega arith)
part_inside (suc a) (suc b) (suc n) (x ∷ l) h =
    let z : suc b - suc a ≡ b - a = omega arith in rw z (part_inside a b n l (omega arith))

module _ {xs l m : List ℕ} {at r : ℕ} (p : Puts xs at l r m) (h : at ≤ length l) where
  -- is as it was
  pub part_kept : (a b : ℕ) → b ≤ at → take (b - a) (drop a m) ≡ take (b - a) (drop a l)
  part_kept a b k =
      let size : length (take at l) ≡ at = length-take-le at l h in
      let front : take (length (take at l)) (take at l ++ xs) ≡ take at l = take-append_seam (take at l) xs in
      part_inside a b r m (omega (arith, p.end)) ∙ ap (λ (k : List ℕ). take (b - a) (drop a k)) p.front
      ∙ part_inside a b (length (take at l)) (take at l ++ xs) (omega arith)
      ∙ ap (λ (k : List ℕ). take (b - a) (drop a k)) front ∙ sym (part_inside a b at l k)

  -- is what was put
  pub part_new : take (r - at) (drop at m) ≡ xs
  part_new =
      let z : r - at ≡ length xs = omega (arith, p.end) in
      part_inside at r r m (omega arith) ∙ ap (λ (k : List ℕ). take (r - at) (drop at k)) p.front
      ∙ rw (drop_at (take at l) xs at (length-take-le at l h), z) (take-length xs)
