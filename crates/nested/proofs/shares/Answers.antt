use mathlib.Core.Logic.{⊎_elim}
use native.Mathlib.Omega.{arith}
use Rattle.lexical.proofs.BoolLaws.{not-true, not-false}
use Rattle.nested.proofs.ViewLaws.{first_short, second_short, spaces_turn, spaces_differ, spaces_end}
use mathlib.Core.Path.{ap}
use mathlib.Core.Bool.{not}
use Rattle.nested.proofs.shares.Goals as goal

pub returns-then-v-depth : goal.returns-then-v-depth
returns-then-v-depth c =
    ⊎_elim (λ l. first_short c.requires.2 c.requires.3 _ l) (λ q. second_short c.requires.2 c.requires.3 _ q.1)
    c.then-v-depth.either

pub returns-then-not-same_name : goal.returns-then-not-same_name
returns-then-not-same_name c =
    spaces_differ c.requires.2 c.requires.3 _ (omega arith) (omega arith) (omega arith) c.namespace-a.ensures.1
    c.namespace-b.ensures.1 c.same_name.ensures c.loop-d.invariant (not-true _ (ap not c.if-not-same_name.true))

pub loop-d-preserved : goal.loop-d-preserved
loop-d-preserved c =
    spaces_turn c.requires.2 c.requires.3 _ (omega arith) (omega arith) (omega arith)
    c.namespace-a.ensures.1 c.namespace-b.ensures.1 c.same_name.ensures c.loop-d.invariant (not-false _
    (ap not c.if-not-same_name.false))

pub returns : goal.returns
returns c = spaces_end c.requires.2 c.requires.3 _ (omega arith) c.loop-d.invariant
