-- Laws of a table of positions: the values that stand there, and a table of names.
use mathlib.Core.Path.{◌≡◌, sym, ap, ◌∙◌}
use mathlib.Core.List.{List, [], map}
use mathlib.Core.Bool.{Bool, true}
use Prim.Native.Nat.{ℕ, ◌<◌, ◌≤◌}
use lib.ListN.{length, get_or, take, length-map}
use lib.Seq.{get_or-take, length-take-le, ext_get_or}
use Rattle.lexical.specs.Names.{is_name}
use Rattle.refusal.specs.declared.Refusal.TheVariants.{BadName}
use Rattle.format.specs.Limits.{most_names}
use Rattle.format.specs.Decode.{got, Dec, many}
use Rattle.format.specs.Bits.{bits}
use Rattle.format.specs.Sheet.{Name}
use Rattle.format.specs.Decoding.{name_by, name}
use Rattle.cursor.specs.Checking.{Limited, Table}
use Rattle.cursor.specs.Yielding.{value_or, Yields}
use Rattle.cursor.proofs.YieldLaws.{yields, yielded, in_turn, passed, test_passed}
use Rattle.names.specs.Naming.{name_at, names_at, Named}
use Rattle.names.specs.Digests.{digest, digests_at}
use Rattle.names.proofs.NameLaws.{map_at, digests_names}

-- ---- the values of a table of positions

module _ {A : Type 0} (d : Dec A) (z : A) {s : List ℕ} {n : ℕ} {offsets : List ℕ} {values : List A}
    (t : Table d s n offsets values) (h : n ≤ length offsets) where
  pub table_each : (i : ℕ) → i < n → Yields (d s (get_or (take n offsets) i 0)) (get_or values i z)
  table_each i l = rw (get_or-take n offsets i 0 l) (yields (t.each i z l).1)

  pub table_values : map (λ at. value_or z (d s at)) (take n offsets) ≡ values
  table_values =
      let k : length (take n offsets) ≡ n = length-take-le n offsets h in
      let m : length (map (λ at. value_or z (d s at)) (take n offsets)) ≡ n =
      length-map (take n offsets) (λ at. value_or z (d s at)) ∙ k in
      ext_get_or z (map (λ at. value_or z (d s at)) (take n offsets)) values (m ∙ sym t.count)
      (λ i l. let q : i < n = rw m at l in
      map_at (λ at. value_or z (d s at)) (take n offsets) i z (rw k q) ∙ yielded z (table_each i q))

-- ---- names

-- a name under a narrower rule is a name, with the same characters and the same end
module _ (rule : Name → Bool) (base : (cs : Name) → rule cs ≡ true → is_name cs ≡ true) where
  pub name_base : (s : List ℕ) (at : ℕ) {x : Name} {e : ℕ} → name_by rule s at ≡ got x e → name s at ≡ got x e
  unfolding name name_by
  name_base s at h =
      in_turn (bits 6 s at) _ h (λ n m e₁ h₁.
      in_turn (many n (bits 7) s m) _ h₁ (λ cs k e₂ h₂.
      rw (e₁, e₂, base cs (test_passed (rule cs) (got cs k) BadName h₂)) (passed (rule cs) (got cs k) BadName h₂)))

  pub table_base : {s : List ℕ} {n : ℕ} {offsets : List ℕ} {values : List Name} →
      Table (name_by rule) s n offsets values → Table name s n offsets values
  table_base t = record {
    count = t.count;
    each = λ i z h. ((t.each i z h).0, name_base _ _ (t.each i z h).1);
  }

module _ {s : List ℕ} {n : ℕ} {offsets : List ℕ} {values : List Name} (t : Table name s n offsets values)
    (room : n ≤ length offsets) where
  pub table_names : names_at s (take n offsets) ≡ values
  unfolding names_at name_at
  table_names = table_values name [] t room

  pub table_digests : {ds : List ℕ} → ds ≡ map digest values → ds ≡ digests_at s (take n offsets)
  table_digests e = e ∙ ap (λ (ns : List Name). map digest ns) (sym table_names) ∙ digests_names s (take n offsets)

  pub table_named : Limited s → n ≤ most_names → Named s (take n offsets)
  unfolding name_at
  table_named l few = record {
    limited = l;
    few = rw (length-take-le n offsets room) few;
    each = λ i h. (let y = table_each name [] t room i (rw (length-take-le n offsets room) at h) in
        rw (yielded [] y) y);
  }
