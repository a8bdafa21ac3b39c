use Rattle.view.proofs.ArgumentLaws.{packed, bit_of}
use Rattle.view.proofs.pack.Goals as goal

pub returns : goal.returns
returns c =
    packed c.args.name c.args.of c.args.owner c.from-low.result c.from-high.result c.requires.0 c.requires.2
    (bit_of _ c.from-low.ensures) (bit_of _ c.from-high.ensures)
