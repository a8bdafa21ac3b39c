-- Laws of types that were met: where a type's bits stand, it stands.
use mathlib.Core.Path.{◌≡◌, sym, ap, ◌∙◌}
use mathlib.Core.List.{List}
use Prim.Native.Nat.{ℕ, ◌+◌, ◌-◌, ◌*◌, ◌/◌, ◌%◌, ◌^◌, ◌<◌, ◌≤◌}
use native.Mathlib.Omega.{arith}
use lib.ListN.{length}
use lib.Pow.{high}
use Rattle.format.specs.Limits.{most_names}
use Rattle.format.specs.Bits.{bits_at}
use Rattle.format.specs.Types.{str}
use Rattle.format.specs.Decoding.{type}
use Rattle.format.proofs.LocalLaws.{type_number}
use Rattle.cursor.proofs.BitLaws.{bits_split, bits_lt}
use Rattle.cursor.proofs.YieldLaws.{yields, yielded}
use Rattle.view.specs.Values.{next_of, Yields, type_here}
use Rattle.view.specs.Views.{FactsOf, EntryOf, unpacked}
use Rattle.tables.specs.Tables.{Met, Known}

-- the first bits of 32
first_bits : (s : List ℕ) (at m : ℕ) → m < 32 → bits_at s at 32 / 2 ^ m ≡ bits_at s at (32 - m)
first_bits s at m h =
    let z : 32 ≡ 32 - m + m = omega arith in
    ap (λ (k : ℕ). bits_at s at k / 2 ^ m) z
    ∙ ap (λ (k : ℕ). k / 2 ^ m) (bits_split s at (32 - m) m)
    ∙ high (bits_at s at (32 - m)) m (bits_lt s (at + (32 - m)) m)

pub known : {s names items : List ℕ} {key word at b : ℕ} → Met s names items key word → b ≡ bits_at s at 32 →
    at + 32 ≤ 8 * length s → b / 2 ^ (word / 16 % 32) ≡ key → Known s names items at word
known {s} {names} {items} {key} {word} {at} {b} m e l h =
    let k = word / 16 % 32 in
    let n = 32 - k in
    let q : bits_at s at n ≡ key = sym (first_bits s at k (omega arith)) ∙ ap (λ (x : ℕ). x / 2 ^ k) (sym e) ∙ h in
    record {
      here = type_number (length items) s s (word / 512) at n m.here (m.bits ∙ sym q) (omega arith);
      there = yields m.here;
      facts = m.facts;
    }

-- ---- an entry

behind_even : (x k : ℕ) → (x * 2 + k) % 2 ≡ k % 2
behind_even x k = omega arith

module _ (s names items : List ℕ) {name : ℕ} (p low : ℕ) (h : name ≤ most_names) (l : low < 16) where
  abbrev e : ℕ
  e = p * 16384 + name * 16 + low

  abbrev bare : ℕ
  bare = p * 16384 + low

  -- what an entry says of its type, with a name and without one
  same_facts : (e / 16384 ≡ p) × (bare / 16384 ≡ p) × (e / 4 % 4 ≡ bare / 4 % 4) × (e % 2 ≡ bare % 2) ×
      (e / 2 % 2 ≡ bare / 2 % 2)
  same_facts =
      let i : e / 2 ≡ (p * 4096 + name * 4) * 2 + low / 2 = omega arith in
      let j : bare / 2 ≡ p * 4096 * 2 + low / 2 = omega arith in (
        omega arith,
        omega arith,
        omega arith,
        omega arith,
        rw (i, j) (behind_even (p * 4096 + name * 4) (low / 2) ∙ sym (behind_even (p * 4096) (low / 2))),
      )

  pub entry_named : FactsOf s names items (unpacked (p * 16384 + low)) →
      EntryOf s names items name p (p * 16384 + name * 16 + low)
  entry_named f =
      let n : e / 16 % 1024 ≡ name = omega arith in
      let (a, b, c, d, g) = same_facts in
      record {
        named = n;
        of = a;
        facts = record {
          owner = rw (c, a) (rw b at f.owner);
          indirect = rw (d, a) (rw b at f.indirect);
          string = rw (g, a) (rw b at f.string);
        };
      }

  entry_bare : FactsOf s names items (unpacked (p * 16384 + name * 16 + low)) →
      FactsOf s names items (unpacked (p * 16384 + low))
  entry_bare f =
      let (a, b, c, d, g) = same_facts in
      record {
        owner = rw (← c, b) (rw a at f.owner);
        indirect = rw (← d, b) (rw a at f.indirect);
        string = rw (← g, b) (rw a at f.string);
      }

-- ---- a type is met

-- of m - p bits, which are at most 32; `less` is how many fewer they are
pub met : {s names items : List ℕ} {p m bits less : ℕ} (e : ℕ) → e / 16384 ≡ p →
    Yields (type (length items) s p) (type_here (length items) s p) → m ≡ next_of (type (length items) s p) →
    p + 32 ≡ m + less → less < 32 → bits ≡ bits_at s p 32 → FactsOf s names items (unpacked e) →
    Met s names items (bits / 2 ^ less) (p * 512 + less * 16 + e % 16)
met {s} {names} {items} {p} {m} {bits} {less} e z y q r l b f =
    let w = p * 512 + less * 16 + e % 16 in
    let i : w / 512 ≡ p = omega arith in
    let j : w / 16 % 32 ≡ less = omega arith in
    let k : w % 16 ≡ e % 16 = omega arith in
    let n : p + (32 - less) ≡ next_of (type (length items) s p) = omega (arith, q, r) in
    let o : e ≡ p * 16384 + e / 16 % 1024 * 16 + e % 16 = omega arith in
    record {
      here = rw (i, j, n) y.is;
      bits = rw (i, j) (sym (first_bits s p less l) ∙ ap (λ (x : ℕ). x / 2 ^ less) (sym b));
      facts = rw (i, k) (entry_bare s names items {name = e / 16 % 1024} p (e % 16) (omega arith) (omega arith) (rw o at f));
    }

-- ---- a type that is known at a position

module _ {s names items : List ℕ} {at word : ℕ} (k : Known s names items at word) where
  pub known_type : Yields (type (length items) s (word / 512)) (type_here (length items) s at)
  unfolding type_here
  known_type = rw (yielded str (yields k.here)) k.there

  pub known_next : at + (32 - word / 16 % 32) ≡ next_of (type (length items) s at)
  known_next = sym (ap next_of k.here)
