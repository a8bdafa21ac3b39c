mod OperandLaws
