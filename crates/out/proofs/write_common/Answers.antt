use Rattle.out.proofs.BlockLaws.{known_index, common_name, common_extern_c}
use Rattle.out.proofs.write_common.Goals as goal

pub put_name_of-requires : goal.put_name_of-requires
put_name_of-requires c = (c.requires.0, known_index _ c.in-UserDefinedNamespace.is c.requires.1)

pub returns-in-UserDefinedNamespace : goal.returns-in-UserDefinedNamespace
returns-in-UserDefinedNamespace c =
    common_name _ _ c.in-UserDefinedNamespace.is c.put_bytes-next.ensures c.put_name_of.ensures

pub returns-in-ExternC : goal.returns-in-ExternC
returns-in-ExternC c = common_extern_c _ _ c.in-ExternC.is c.put_bytes.ensures
