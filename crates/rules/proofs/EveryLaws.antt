-- Laws of a test that every part of a list passes.
use mathlib.Core.Path.{◌≡◌, refl}
use mathlib.Core.List.{List, [], ◌∷◌}
use mathlib.Core.Bool.{Bool, true}
use Rattle.lexical.specs.Bytes.{every}
use Rattle.lexical.proofs.ByteLaws.{Each, every_append}
use Rattle.rules.specs.Rules.{gather}

pub every_gather : {A B : Type 0} (P : A → Type 0) (test : B → Bool) (g : A → List B) →
    ((x : A) → P x → every test (g x) ≡ true) → (xs : List A) → Each P xs → every test (gather g xs) ≡ true
unfolding every gather
every_gather P test g step [] h = refl
every_gather P test g step (x ∷ xs) h =
    every_append test (g x) (gather g xs) (step x h.0) (every_gather P test g step xs h.1)
