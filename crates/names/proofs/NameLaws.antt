-- Laws of names by their indexes.
use mathlib.Core.Path.{◌≡◌, sym, ap, ◌∙◌}
use mathlib.Core.List.{List, [], ◌∷◌, map, map-map}
use mathlib.Core.Bool.{false}
use Prim.Native.Nat.{ℕ, zero, suc, ◌+◌, ◌*◌, ◌<◌}
use native.Mathlib.Omega.{arith}
use native.Mathlib.Nat.{mul_comm}
use lib.ListN.{length, get_or, take, length-map, get_or-map}
use Rattle.lexical.specs.Bytes.{same}
use Rattle.lexical.proofs.ByteLaws.{same_eq}
use Rattle.lexical.proofs.BoolLaws.{by_cases}
use Rattle.format.specs.Decode.{got, many}
use Rattle.format.specs.Bits.{bits, width_of, index}
use Rattle.format.specs.Sheet.{Name}
use Rattle.format.specs.Decoding.{name, name_of}
use Rattle.cursor.proofs.CheckLaws.{get_d_same}
use Rattle.cursor.proofs.FieldLaws.{field_next}
use Rattle.cursor.proofs.WidthLaws.{index_field, index_lt}
use Rattle.cursor.specs.declared.Found.{Found}
use Rattle.cursor.specs.Yielding.{Yields, Finds}
use Rattle.cursor.proofs.YieldLaws.{in_turn, got_value, got_next, found}
use Rattle.names.specs.Fetching.{Fetched}
use Rattle.names.specs.Naming.{name_at, names_at}
use Rattle.names.specs.Digests.{digest, digests_at}

pub map_at : {A : Type 0} (f : ℕ → A) (l : List ℕ) (i : ℕ) (z : A) → i < length l → get_or (map f l) i z ≡ f (get_or l i 0)
map_at f l i z h =
    let k : i < length (map f l) = rw (length-map l f) h in
    get_d_same (map f l) i z (f 0) k ∙ get_or-map f l i 0

-- the characters that were fetched are the name's
pub fetched : (s : List ℕ) (at : ℕ) {n : ℕ} {b : List ℕ} → Yields (name s at) (name_at s at) → Fetched (name s at) n b →
    take n b ≡ name_at s at
fetched s at y f = f.chars _ _ y.is

-- unequal digests are of unequal names
pub digests_differ : (a b : Name) → (digest a ≡ digest b → ⊥) → same a b ≡ false
digests_differ a b h = by_cases (same a b) (λ e. absurd (h (ap digest (same_eq a b e)))) (λ e. e)

module _ (s names : List ℕ) where
  pub names_length : length (names_at s names) ≡ length names
  unfolding names_at
  names_length = length-map names (name_at s)

  pub name_there : (i : ℕ) → i < length names → get_or (names_at s names) i [] ≡ name_at s (get_or names i 0)
  unfolding names_at
  name_there i h = map_at (name_at s) names i [] h

  pub digest_there : (i : ℕ) → i < length names → get_or (digests_at s names) i 0 ≡ digest (name_at s (get_or names i 0))
  unfolding digests_at
  digest_there i h = map_at (λ at. digest (name_at s at)) names i 0 h

  pub digests_names : map digest (names_at s names) ≡ digests_at s names
  unfolding names_at digests_at
  digests_names = map-map digest (name_at s) names

  pub digests_length : length (digests_at s names) ≡ length names
  unfolding digests_at
  digests_length = length-map names (λ at. digest (name_at s at))

  pub differ : {digests : List ℕ} {i j : ℕ} → digests ≡ digests_at s names → i < length names → j < length names →
      (get_or digests i 0 ≡ get_or digests j 0 → ⊥) →
      same (name_at s (get_or names i 0)) (name_at s (get_or names j 0)) ≡ false
  differ {i} {j} e h l d =
      digests_differ _ _ (λ z. d (rw (e, digest_there i h, digest_there j l) z))

  pub unlike : (text : List ℕ) {digests : List ℕ} {i h : ℕ} → digests ≡ digests_at s names → i < length names →
      h ≡ digest text → (get_or digests i 0 ≡ h → ⊥) → same (name_at s (get_or names i 0)) text ≡ false
  unlike text {i} e l t d = digests_differ _ _ (λ z. d (rw (e, digest_there i l, t) z))

  -- an index that is decoded as a name
  pub record Indexed (at : ℕ) (x : Name) (m : ℕ) (i : ℕ) : Type 0 where
    pub field : bits (width_of (length names)) s at ≡ got i m
    pub there : i < length names
    pub name : name_at s (get_or names i 0) ≡ x

  pub indexed : (at : ℕ) {m : ℕ} {x : Name} → name_of (names_at s names) s at ≡ got x m → (i : ℕ) × Indexed at x m i
  unfolding name_of
  indexed at {m} {x} h =
      in_turn (index (length (names_at s names)) s at) _ h (λ i n e₁ h₁.
      let e : index (length names) s at ≡ got i n = ap (λ (k : ℕ). index k s at) (sym names_length) ∙ e₁ in
      let l = index_lt (length names) s at e in
      let z : n ≡ m = got_next h₁ in (
        i,
        record {
          field = index_field (length names) s at e ∙ rw z;
          there = l;
          name = sym (name_there i l) ∙ got_value h₁;
        },
      ))

  -- what was found at the position of an index
  pub record Read (x : Name) (m : ℕ) (r : Found) : Type 0 where
    pub there : r.value < length names
    pub name : name_at s (get_or names r.value 0) ≡ x
    pub next : m ≡ r.next.at

  pub name_read : (at : ℕ) {m n : ℕ} {x : Name} {r : Found} → name_of (names_at s names) s at ≡ got x m →
      Finds (bits (width_of (length names)) s at) n r → Read x m r
  name_read at {m} {r = r} h f =
      let q = indexed at h in
      let e : got q.0 m ≡ got r.value r.next.at = sym q.1.field ∙ found f q.1.field in
      let a : q.0 ≡ r.value = got_value e in
      let b : m ≡ r.next.at = got_next e in
      record { there = rw (← a) q.1.there; name = rw (← a) q.1.name; next = b }

  -- ---- names in a row take as many bits each

  name_next : (at : ℕ) {m : ℕ} {x : Name} → name_of (names_at s names) s at ≡ got x m → m ≡ at + width_of (length names)
  name_next at h = field_next (width_of (length names)) s at (indexed at h).1.field

  step_mul : (a d w : ℕ) → a + w + d * w ≡ a + suc d * w
  step_mul a d w = omega (arith, mul_comm d w, mul_comm (suc d) w)

  pub spaces_next : (d at : ℕ) {m : ℕ} {xs : List Name} → many d (name_of (names_at s names)) s at ≡ got xs m →
      m ≡ at + d * width_of (length names)
  unfolding many
  spaces_next zero at {m} h = let z : at ≡ m = got_next h in omega arith
  spaces_next (suc d) at {m} h =
      in_turn (name_of (names_at s names) s at) _ h (λ x a e₁ h₁.
      in_turn (many d (name_of (names_at s names)) s a) _ h₁ (λ xs b e₂ h₂.
      sym (got_next h₂) ∙ spaces_next d a e₂ ∙
      (ap (λ (k : ℕ). k + d * width_of (length names)) (name_next at e₁) ∙ step_mul at d (width_of (length names)))))

  pub spaces_each : (d at : ℕ) {m : ℕ} {xs : List Name} → many d (name_of (names_at s names)) s at ≡ got xs m →
      (i : ℕ) → i < d → (k : ℕ) × (name_of (names_at s names) s (at + i * width_of (length names)) ≡ got (get_or xs i []) k)
  unfolding many
  spaces_each zero at h i l = absurd (omega arith)
  spaces_each (suc d) at {m} {xs} h i l =
      in_turn (name_of (names_at s names) s at) _ h (λ y a e₁ h₁.
      in_turn (many d (name_of (names_at s names)) s a) _ h₁ (λ ys b e₂ h₂.
      let e : y ∷ ys ≡ xs = got_value h₂ in
      rw (← e) (by_index ys i l e₁ (spaces_each d a e₂))))
    where
      by_index : {x : Name} {n : ℕ} (ys : List Name) (i : ℕ) → i < suc d → name_of (names_at s names) s at ≡ got x n →
          ((j : ℕ) → j < d →
          (k : ℕ) × (name_of (names_at s names) s (n + j * width_of (length names)) ≡ got (get_or ys j []) k)) →
          (k : ℕ) ×
          (name_of (names_at s names) s (at + i * width_of (length names)) ≡ got (get_or (x ∷ ys) i []) k)
      by_index {n} ys zero l f g = let z : at + 0 * width_of (length names) ≡ at = omega arith in (n, rw z f)
      by_index ys (suc j) l f g =
          let q = g j (omega arith) in
          (q.0, rw (← step_mul at j (width_of (length names)), ← name_next at f) q.1)
