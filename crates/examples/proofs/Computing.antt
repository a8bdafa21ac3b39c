-- Every definition that an example computes with, behind one name.
use Rattle.lexical.specs.Bytes.{every, same, member}
use Rattle.lexical.specs.Names.{name_shape, name_ok, keywords, added_keywords, keywords20, alternative_tokens, reserved}
use Rattle.lexical.specs.Names.{table_of, double_underscore, underscore_capital, reserved_shape, sheet_name}
use Rattle.lexical.specs.Decimal.{digits as decimal_digits, decimal}
use Rattle.format.specs.Decode.{many}
use Rattle.format.specs.Bits.{bit_at, bits_at, bits, bit, bit_length, width_of, index}
use Rattle.format.specs.Decoding.{name_by, name_of, atom_of, kind_of, type_at, type, line_ok, line, argument, form}
use Rattle.format.specs.Decoding.{function_body, struct_body, enum_body, part_of, namespace, item, tail, item_table}
use Rattle.format.specs.Decoding.{name_table, behind_edition, edition, sheet, decode}
use Rattle.syntax.specs.Items.{item_at, path, full_name}
use Rattle.syntax.specs.Symbol.{push_all, join}
use Rattle.syntax.specs.Mangle.{extern_fn, operator}
use Rattle.syntax.specs.Types.{needs_indirect_abi}
use Rattle.toposort.specs.Sort.{visit_all, visit, sort, ringed, order}
use Rattle.rules.specs.Rules.{any, twice, gather, any_named, any_named_ret, any_named_tys, wrong_part, taken, unfit}
use Rattle.rules.specs.Rules.{unfit_argument, held_structs, structs_from, ring}
use Rattle.rules.specs.Judge.{ruled, judge, check}
use Rattle.bridge.specs.Out.{next_section, push, push_block_boundary, end_namespaces, begin_namespaces, set_namespace}
use Rattle.bridge.specs.Out.{flush_all, flush_blocks, write, flush}
use Rattle.bridge.specs.Nested.{filter, nth, direct_content, nested_content, distinct, nth_names, nested_names}
use Rattle.bridge.specs.WriteType.{write_type, write_ret, write_types, write_type_space}
use Rattle.bridge.specs.Write.{write_direct, write_entries, forward_declarations, commas, indirect_return, extern_return}
use Rattle.bridge.specs.Write.{extern_arg, slot, extern_parameters, function_decl, write_rust_function_decl, layout_decl}
use Rattle.bridge.specs.Write.{write_opaque_type_layout_decls, layout_definition, write_opaque_type_layout, write_doc, is_cxx_main}
use Rattle.bridge.specs.Write.{local_name, shim_decl, is_held, held_local, direct, operand, operands, shim_body}
use Rattle.bridge.specs.Write.{function_shim, write_rust_function_shim, for_each, write_functions, content, text}
use Rattle.agreement.specs.Agreement.{rust_functions, parameter_names, head_names, declarations, shims, of_functions}
use Rattle.agreement.specs.Agreement.{argument_operands, fitting}

unfoldable pub computes : Unit {0}
unfolding every same member name_shape name_ok keywords added_keywords keywords20 alternative_tokens reserved table_of double_underscore underscore_capital reserved_shape sheet_name decimal_digits decimal many bit_at bits_at bits bit bit_length width_of index name_by name_of atom_of kind_of type_at type line_ok line argument form function_body struct_body enum_body part_of namespace item tail item_table name_table behind_edition edition sheet decode item_at path full_name push_all join extern_fn operator needs_indirect_abi visit_all visit sort ringed order any twice gather any_named any_named_ret any_named_tys wrong_part taken unfit unfit_argument held_structs structs_from ring ruled judge check next_section push push_block_boundary end_namespaces begin_namespaces set_namespace flush_all flush_blocks write flush filter nth direct_content nested_content distinct nth_names nested_names write_type write_ret write_types write_type_space write_direct write_entries forward_declarations commas indirect_return extern_return extern_arg slot extern_parameters function_decl write_rust_function_decl layout_decl write_opaque_type_layout_decls layout_definition write_opaque_type_layout write_doc is_cxx_main local_name shim_decl is_held held_local direct operand operands shim_body function_shim write_rust_function_shim for_each write_functions content text rust_functions parameter_names head_names declarations shims of_functions argument_operands fitting
computes = tt
