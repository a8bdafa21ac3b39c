use Rattle.write_atom.proofs.put_template.Goals as goal

pub returns-in-RustBox : goal.returns-in-RustBox
returns-in-RustBox c = rw c.in-RustBox.is c.put_bytes.ensures

pub returns-in-RustVec : goal.returns-in-RustVec
returns-in-RustVec c = rw c.in-RustVec.is c.put_bytes-in-RustVec.ensures

pub returns-in-UniquePtr : goal.returns-in-UniquePtr
returns-in-UniquePtr c = rw c.in-UniquePtr.is c.put_bytes-in-UniquePtr.ensures

pub returns-in-SharedPtr : goal.returns-in-SharedPtr
returns-in-SharedPtr c = rw c.in-SharedPtr.is c.put_bytes-in-SharedPtr.ensures

pub returns-in-WeakPtr : goal.returns-in-WeakPtr
returns-in-WeakPtr c = rw c.in-WeakPtr.is c.put_bytes-in-WeakPtr.ensures

pub returns-in-CxxVector : goal.returns-in-CxxVector
returns-in-CxxVector c = rw c.in-CxxVector.is c.put_bytes-in-CxxVector.ensures
