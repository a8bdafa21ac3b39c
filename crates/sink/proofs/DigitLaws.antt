-- Laws of `digits`, one for each way through `put_digits`.
use mathlib.Core.Path.{◌≡◌, refl}
use mathlib.Core.List.{[], ◌∷◌, ◌++◌}
use Prim.Native.Nat.{ℕ, zero, suc, ◌+◌, ◌-◌, ◌/◌, ◌%◌, ◌<◌, ◌≤◌}
use native.Mathlib.Omega.{arith}
use borrow.Author.Tests.{lt-ltb, le-ltb}
use Rattle.lexical.specs.Decimal.{digits}

pub digits_none : (more n : ℕ) → more ≡ 0 → (48 + n % 10) ∷ [] ≡ digits more n
unfolding digits
digits_none more n e = rw e

pub digits_small : (more n : ℕ) → n < 10 → (48 + n % 10) ∷ [] ≡ digits more n
unfolding digits
digits_small zero n h = refl
digits_small (suc more) n h = rw (lt-ltb n 10 h)

pub digits_more :
    (more n : ℕ) → 0 < more → 10 ≤ n → digits (more - 1) (n / 10) ++ ((48 + n % 10) ∷ []) ≡ digits more n
unfolding digits
digits_more zero n z h = absurd (omega arith)
digits_more (suc more) n z h =
    let e : suc more - 1 ≡ more = omega arith in
    rw (le-ltb n 10 h, e)
