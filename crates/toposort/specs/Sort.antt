-- `visit` and `sort` of toposort.rs, as far as the first ring: a sheet with a ring is refused.
-- marks has a number for each item: 0 for none, 1 for Mark::Visiting, 2 for Mark::Visited.
use Rattle.std.specs.Prelude.{List, [], ◌∷◌, ◌++◌, Bool, true, false, ℕ, zero, suc, get_or, set, replicate}
use Rattle.toposort.specs.Graph.{Graph}

-- how a visit ends: at a ring, or with the marks and the order so far
pub data Walk : Type 0 where
  cycle : Walk
  done : List ℕ → List ℕ → Walk

-- the next step, where there was no ring
abbrev pub and_then : Walk → (List ℕ → List ℕ → Walk) → Walk
and_then cycle next = cycle
and_then (done marks sorted) next = next marks sorted

-- `marks.insert(strct, Mark::Visited); sorted.push(strct);`
abbrev pub finish : ℕ → Walk → Walk
finish i cycle = cycle
finish i (done marks sorted) = done (set marks i 2) (sorted ++ (i ∷ []))

-- `match marks.entry(strct)`; fresh is what follows at a struct without a mark
abbrev pub by_mark : ℕ → List ℕ → List ℕ → Walk → Walk
by_mark zero marks sorted fresh = fresh
by_mark (suc zero) marks sorted fresh = cycle
by_mark (suc (suc m)) marks sorted fresh = done marks sorted

-- one struct of the list after the other
unfoldable pub visit_all : (ℕ → List ℕ → List ℕ → Walk) → List ℕ → List ℕ → List ℕ → Walk
visit_all one [] marks sorted = done marks sorted
visit_all one (j ∷ js) marks sorted = and_then (one j marks sorted) (λ m o. visit_all one js m o)

-- `visit`, so many levels deep: as many as there are items are enough
unfoldable pub visit : Graph → ℕ → ℕ → List ℕ → List ℕ → Walk
visit g zero i marks sorted = by_mark (get_or marks i 0) marks sorted cycle
visit g (suc levels) i marks sorted =
    by_mark (get_or marks i 0) marks sorted
    (finish i (visit_all (λ j m o. visit g levels j m o) (g i) (set marks i 1) sorted))

-- `sort`: js are the structs among n items, in the sheet's order
unfoldable pub sort : Graph → ℕ → List ℕ → Walk
sort g n js = visit_all (λ j m o. visit g n j m o) js (replicate n 0) []

abbrev pub is_ring : Walk → Bool
is_ring cycle = true
is_ring (done marks sorted) = false

abbrev pub sorted_of : Walk → List ℕ
sorted_of cycle = []
sorted_of (done marks sorted) = sorted

-- the sort meets a ring
unfoldable pub ringed : Graph → ℕ → List ℕ → Bool
ringed g n js = is_ring (sort g n js)

-- the structs in order, where there is no ring
unfoldable pub order : Graph → ℕ → List ℕ → List ℕ
order g n js = sorted_of (sort g n js)
