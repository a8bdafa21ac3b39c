use Prim.Native.Nat.{◌-◌}
use native.Mathlib.Omega.{arith}
use mathlib.Core.Logic.{⊎_elim}
use mathlib.Core.Path.{refl}
use Rattle.words.proofs.TableLaws.{first_below, first_above, first_few, first_at}
use Rattle.words.proofs.first_word.Goals as goal

pub returns-then-c-lt97 : goal.returns-then-c-lt97
returns-then-c-lt97 c =
    ⊎_elim (λ l. first_below c.requires _ l) (λ q. first_above c.requires _ q.1) c.then-c-lt97.either

pub overflow_cast-result-2 : goal.overflow_cast-result-2
overflow_cast-result-2 c =
    omega (arith, first_at c.requires c.args.c (c.args.c - 97) refl (omega arith) (omega arith), first_few c.requires c.args.c)

pub returns : goal.returns
returns c = first_at c.requires _ _ refl (omega arith) (omega arith)
