-- Laws of the boundaries that are pending in the code's state.
use mathlib.Core.Path.{◌≡◌, refl, sym, ap, ap₂, ◌∙◌}
use mathlib.Core.List.{List, ◌∷◌}
use mathlib.Core.Bool.{true, false}
use Prim.Native.Nat.{ℕ, zero, suc, ◌+◌, ◌-◌, ◌<◌, ◌≤◌}
use native.Mathlib.Omega.{arith}
use native.Mathlib.Numerals.{add-one}
use lib.ListN.{length, set, length-set}
use lib.Dec.{ltb}
use lib.Seq.{get_or-set_same, get_or-set_other}
use borrow.Author.Tests.{ltb-true, ltb-false}
use Rattle.lexical.proofs.BoolLaws.{by_cases}
use Rattle.bridge.specs.Out as machine
use Rattle.bridge.specs.Out.{push, cancels}
use Rattle.out.specs.declared.Boundary.{Boundary}
use Rattle.out.specs.declared.Pending.{Pending}
use Rattle.out.specs.declared.Content.{Content}
use Rattle.out.specs.State.{boundary_of, Known, packed, unpacked, boundary_at, latest}
use Rattle.out.specs.State.{pending_of, max_pending, Listed}
use Rattle.out.specs.Steps.{appended_to, Pushes}
use Rattle.out.proofs.EntryLaws.{unpacked_packed}

-- c with one boundary fewer
abbrev pub fewer : Content → Content
fewer c = record {
  at = c.at;
  spaces = c.spaces;
  depth = c.depth;
  pending = c.pending;
  count = c.count - 1;
  section_pending = c.section_pending;
}

-- ---- one boundary more

at_end_lem : (l : List Pending) (n : ℕ) (b : Boundary) → n < length l → boundary_at (set l n (packed b)) n ≡ b
at_end_lem l n b h = ap unpacked (get_or-set_same l n _ _ h) ∙ unpacked_packed b

at_others : (l : List Pending) (n : ℕ) (b : Boundary) (i : ℕ) → i < n →
    boundary_at (set l n (packed b)) i ≡ boundary_at l i
at_others l n b i h = ap unpacked (get_or-set_other l n i _ _ (λ e. omega arith))

module _ (s names : List ℕ) where
  latest_set : (l : List Pending) (m : ℕ) (b : Boundary) (n : ℕ) → n ≤ m →
      latest s names (set l m (packed b)) n ≡ latest s names l n
  unfolding latest
  latest_set l m b zero h = refl
  latest_set l m b (suc n) h =
      ap₂ (λ (x : machine.Boundary) (y : List machine.Boundary). x ∷ y)
      (ap (boundary_of s names) (at_others l m b n (omega arith))) (latest_set l m b n (omega arith))

  latest_more : (l : List Pending) (n : ℕ) (b : Boundary) → n < length l →
      latest s names (set l n (packed b)) (n + 1) ≡ boundary_of s names b ∷ latest s names l n
  unfolding latest
  latest_more l n b h =
      ap (latest s names (set l n (packed b))) (add-one n)
      ∙ ap₂ (λ (x : machine.Boundary) (y : List machine.Boundary). x ∷ y)
      (ap (boundary_of s names) (at_end_lem l n b h)) (latest_set l n b n (omega arith))

  pub latest_length : (l : List Pending) (n : ℕ) → length (latest s names l n) ≡ n
  unfolding latest
  latest_length l zero = refl
  latest_length l (suc n) = ap suc (latest_length l n)

  -- ---- push

  push_first : (b : Boundary) (l : List Pending) (n : ℕ) → n ≡ 0 →
      push (boundary_of s names b) (latest s names l n) ≡ boundary_of s names b ∷ latest s names l n
  unfolding latest push
  push_first b l zero h = refl
  push_first b l (suc n) h = absurd (omega arith)

  module _ (b : Boundary) (l : List Pending) where
    pub push_other : (n : ℕ) → (n ≡ 0 → ⊥) →
        cancels (boundary_of s names b) (boundary_of s names (boundary_at l (n - 1))) ≡ false →
        push (boundary_of s names b) (latest s names l n) ≡ boundary_of s names b ∷ latest s names l n
    unfolding latest push
    push_other zero h e = absurd (h refl)
    push_other (suc n) h e =
        let z : suc n - 1 ≡ n = omega arith in
        rw (rw z at e)

    push_reverse : (n : ℕ) → (n ≡ 0 → ⊥) →
        cancels (boundary_of s names b) (boundary_of s names (boundary_at l (n - 1))) ≡ true →
        push (boundary_of s names b) (latest s names l n) ≡ latest s names l (n - 1)
    unfolding latest push
    push_reverse zero h e = absurd (h refl)
    push_reverse (suc n) h e =
        let z : suc n - 1 ≡ n = omega arith in
        rw (z, rw z at e)

  module _ (c : Content) (b : Boundary) (listed : Listed names c) (known : Known names b) where
    known_more : (i : ℕ) → i < c.count + 1 → c.count < max_pending →
        Known names (boundary_at (set c.pending c.count (packed b)) i)
    known_more i l h =
        by_cases (ltb i c.count)
        (λ e. let k = ltb-true i c.count e in
        rw (at_others c.pending c.count b i k) (listed.known i k))
        (λ e. let z : i ≡ c.count = omega (arith, ltb-false i c.count e) in
        rw (z, at_end_lem c.pending c.count b (omega (arith, listed.room))) known)

    pushed_more : push (boundary_of s names b) (pending_of s names c) ≡ boundary_of s names b ∷ pending_of s names c →
        c.count < max_pending → Pushes s names c b (appended_to c b)
    pushed_more e h = record {
      at = refl;
      spaces = refl;
      depth = refl;
      section = refl;
      listed = record {
        room = length-set c.pending c.count _ ∙ listed.room;
        few = omega arith;
        known = λ i l. known_more i l h;
      };
      pending = latest_more c.pending c.count b (omega (arith, listed.room)) ∙ sym e;
    }

    pub pushes_first : c.count ≡ 0 → {r : Content} → r ≡ appended_to c b → Pushes s names c b r
    pushes_first z e = rw e (pushed_more (push_first b c.pending c.count z) (omega arith))

    module _ (n : c.count ≡ 0 → ⊥) {last : Boundary} (is : last ≡ boundary_at c.pending (c.count - 1)) where
      module _ (e : cancels (boundary_of s names b) (boundary_of s names last) ≡ false) where
        pushed_other : push (boundary_of s names b) (pending_of s names c) ≡ boundary_of s names b ∷ pending_of s names c
        pushed_other = push_other b c.pending c.count n (rw is at e)

        -- there is room where there is room behind the push
        pub room_other : length (push (boundary_of s names b) (pending_of s names c)) ≤ max_pending → c.count < max_pending
        room_other h =
            omega (
              arith,
              ap (λ (l : List machine.Boundary). length l) pushed_other,
              latest_length c.pending c.count,
            )

        pub pushes_other : length (push (boundary_of s names b) (pending_of s names c)) ≤ max_pending →
            {r : Content} → r ≡ appended_to c b → Pushes s names c b r
        pushes_other h f = rw f (pushed_more pushed_other (room_other h))

      pushed_reverse : cancels (boundary_of s names b) (boundary_of s names last) ≡ true → Pushes s names c b (fewer c)
      pushed_reverse e = record {
        at = refl;
        spaces = refl;
        depth = refl;
        section = refl;
        listed = record { room = listed.room; few = omega (arith, listed.few); known = λ i l. listed.known i (omega arith) };
        pending = sym (push_reverse b c.pending c.count n (rw is at e));
      }

      pub pushes_reverse : cancels (boundary_of s names b) (boundary_of s names last) ≡ true →
          {r : Content} → r ≡ fewer c → Pushes s names c b r
      pushes_reverse e f = rw f (pushed_reverse e)
