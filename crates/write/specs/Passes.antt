-- What the functions of the code do to a state of the definition's machine in the two passes, and the text.
use Rattle.std.specs.Prelude.{List, ℕ}
use Rattle.format.specs.Sheet.{Item, Sheet}
use Rattle.bridge.specs.Out as machine
use Rattle.bridge.specs.Write.{declare, define}
use Rattle.sink.specs.Sink.{sink, Wrote}
use Rattle.out.specs.declared.Content.{Content}
use Rattle.sections.specs.Runs.{Represents}

-- either pass at an item
abbrev pub declare_item : List Item → Item → machine.Content → machine.Content
declare_item items x = declare items x x.body

abbrev pub define_item : Sheet → Item → machine.Content → machine.Content
define_item s x = define s x x.body

-- ---- the text

-- r is the state behind a text that ends at a place, the first that is written
pub record Begins (at : ℕ) (r : Content) : Type 0 where
  pub each : {s names first buf t : List ℕ} → Wrote (sink first 0) t (sink buf at) →
      Represents s names first buf r (machine.write t (machine.next_section machine.new))

-- from each state the code does what K does, and closes all blocks
pub record Ends (s names buf after : List ℕ) (K : machine.Content → machine.Content) (c : Content) (at : ℕ) :
    Type 0 where
  pub each : {first : List ℕ} {m : machine.Content} → Represents s names first buf c m →
      Wrote (sink first 0) (machine.flush (K m)).text (sink after at)
