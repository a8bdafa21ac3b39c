use Rattle.sink.proofs.SinkLaws.{◌▷◌, wrote_nil}
use Rattle.call.proofs.CallLaws.{begin_written}
use Rattle.call.proofs.write_call_begin.Goals as goal

pub shape-requires : goal.shape-requires
shape-requires c = (c.requires.0.tabled.whole.named.limited, c.requires.1)

pub write_outermost-typed-requires : goal.write_outermost-typed-requires
write_outermost-typed-requires c = (c.requires.0, c.requires.1)

pub write_outermost-typed-requires-in-UniquePtr : goal.write_outermost-typed-requires-in-UniquePtr
write_outermost-typed-requires-in-UniquePtr c = (c.requires.0, c.requires.1)

pub write_outermost-typed-requires-in-SliceRef : goal.write_outermost-typed-requires-in-SliceRef
write_outermost-typed-requires-in-SliceRef c = (c.requires.0, c.requires.1)

pub returns-in-RustBox : goal.returns-in-RustBox
returns-in-RustBox c =
    begin_written c.shape.ensures _ _ c.in-RustBox.is (c.write_outermost-typed.ensures ▷ c.put_bytes.ensures)

pub returns-in-UniquePtr : goal.returns-in-UniquePtr
returns-in-UniquePtr c =
    begin_written c.shape.ensures _ _ c.in-UniquePtr.is (c.write_outermost-typed-in-UniquePtr.ensures ▷
    c.put_bytes-in-UniquePtr.ensures)

pub returns-in-Ref : goal.returns-in-Ref
returns-in-Ref c = begin_written c.shape.ensures _ _ c.in-Ref.is c.put_bytes-in-Ref.ensures

pub returns-in-Str : goal.returns-in-Str
returns-in-Str c = begin_written c.shape.ensures _ _ c.in-Str.is c.put_bytes-in-Str.ensures

pub returns-in-SliceRef : goal.returns-in-SliceRef
returns-in-SliceRef c =
    begin_written c.shape.ensures _ _ c.in-SliceRef.is (c.put_bytes-begun.ensures ▷
    c.write_outermost-typed-in-SliceRef.ensures ▷ c.put_bytes-in-SliceRef.ensures)

pub returns-in-Other : goal.returns-in-Other
returns-in-Other c = begin_written c.shape.ensures _ _ c.in-Other.is (wrote_nil _)
