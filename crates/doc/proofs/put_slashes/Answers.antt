use Rattle.sink.proofs.SinkLaws.{first_text, second_text}
use Rattle.doc.proofs.put_slashes.Goals as goal

pub returns-then-doxygen : goal.returns-then-doxygen
returns-then-doxygen c = first_text _ c.if-doxygen.true c.put_bytes.ensures

pub returns : goal.returns
returns c = second_text _ c.if-doxygen.false c.put_bytes-2.ensures
