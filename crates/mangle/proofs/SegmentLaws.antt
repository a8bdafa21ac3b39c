-- Laws of segments in a row.
use mathlib.Core.Path.{◌≡◌, refl, ap}
use mathlib.Core.List.{List, [], ◌∷◌, ◌++◌, append-nil, append_assoc}
use Prim.Native.Nat.{ℕ, ◌+◌, ◌<◌, ◌≤◌}
use native.Mathlib.Numerals.{add-one}
use lib.ListN.{length, get_or, take}
use lib.Seq.{take-suc, take_all}
use Rattle.lexical.specs.Bytes.{bytes}
use Rattle.syntax.specs.Items.{path}
use Rattle.syntax.specs.Symbol.{push_all, join}
use Rattle.syntax.specs.Mangle.{version}
use Rattle.sink.specs.Sink.{Sink, Wrote}
use Rattle.sink.proofs.SinkLaws.{◌▷◌, wrote_as}
use Rattle.mangle.specs.Segments.{each_between}

-- ---- each between two texts

module _ (before behind : List ℕ) where
  between_end : (xs : List (List ℕ)) (x : List ℕ) →
      each_between before behind (xs ++ (x ∷ [])) ≡ each_between before behind xs ++ before ++ x ++ behind
  unfolding each_between
  between_end [] x = append-nil _
  between_end (y ∷ xs) x = rw (between_end xs x) (simp append_assoc)

  -- a loop that writes the segments xs: a turn, and the end
  module _ (xs : List (List ℕ)) {d : ℕ} {r t : Sink} where
    pub segments_turn : {u v w : Sink} {x : List ℕ} → d < length xs → x ≡ get_or xs d [] →
        Wrote r (each_between before behind (take d xs)) t → Wrote t before u → Wrote u x v → Wrote v behind w →
        Wrote r (each_between before behind (take (d + 1) xs)) w
    segments_turn h e p a b c =
        wrote_as (p ▷ a ▷ b ▷ c) (rw (add-one, take-suc xs d [] h, between_end, e))

    pub segments_all : length xs ≤ d → Wrote r (each_between before behind (take d xs)) t →
        Wrote r (each_between before behind xs) t
    segments_all h p = wrote_as p (ap (each_between before behind) (take_all d xs h))

-- ---- full names

pub path_end : (xs : List (List ℕ)) (x : List ℕ) →
    path (xs ++ (x ∷ [])) ≡ each_between (bytes "::") [] xs ++ bytes "::" ++ x
unfolding each_between path
path_end [] x = append-nil _
path_end (y ∷ xs) x = rw (path_end xs x) (simp append_assoc)

-- ---- symbols

push_more : (xs ys : List (List ℕ)) → push_all (xs ++ ys) ≡ push_all xs ++ push_all ys
unfolding push_all
push_more [] ys = refl
push_more (x ∷ xs) ys = rw (push_more xs ys) (simp append_assoc)

module _ (x : List ℕ) (ys : List (List ℕ)) where
  push_join : (xs : List (List ℕ)) → push_all (xs ++ (x ∷ ys)) ≡ bytes "$" ++ join (xs ++ (x ∷ ys))
  unfolding push_all join
  push_join [] = refl
  push_join (z ∷ xs) = refl

  -- the first segments with their `$` behind them
  join_between : (xs : List (List ℕ)) → join (xs ++ (x ∷ ys)) ≡ each_between [] (bytes "$") xs ++ join (x ∷ ys)
  unfolding join each_between
  join_between [] = refl
  join_between (z ∷ xs) = rw (push_join xs, join_between xs) (simp append_assoc)

  -- more segments, with their `$` before them
  join_more : (xs zs : List (List ℕ)) → join (xs ++ (x ∷ ys) ++ zs) ≡ join (xs ++ (x ∷ ys)) ++ push_all zs
  unfolding join
  join_more [] zs = rw (push_more ys zs) (simp append_assoc)
  join_more (w ∷ xs) zs = rw (push_more (xs ++ (x ∷ ys)) zs) (simp append_assoc)

module _ (xs : List (List ℕ)) where
  pub join_version : join (xs ++ version) ≡ each_between [] (bytes "$") xs ++ bytes "cxxbridge1$205"
  unfolding join push_all
  join_version = join_between (bytes "cxxbridge1") (bytes "205" ∷ []) xs

  version_more : (ys : List (List ℕ)) → join (xs ++ version ++ ys) ≡ join (xs ++ version) ++ push_all ys
  version_more = join_more (bytes "cxxbridge1") (bytes "205" ∷ []) xs

  pub push_two : (ys zs : List (List ℕ)) →
      join (xs ++ version) ++ push_all ys ++ push_all zs ≡ join (xs ++ version ++ ys ++ zs)
  push_two ys zs =
      rw (append_assoc (xs ++ version) ys zs, version_more (ys ++ zs), push_more ys zs) (simp append_assoc)

  pub push_three : (a b c : List ℕ) →
      join (xs ++ version) ++ push_all (a ∷ []) ++ push_all (b ∷ []) ++ push_all (c ∷ []) ≡
      join (xs ++ version ++ (a ∷ b ∷ c ∷ []))
  unfolding push_all
  push_three a b c = rw (version_more (a ∷ b ∷ c ∷ [])) (simp (append_assoc, append-nil))
