-- Every definition that an example computes with, behind one name.
use Rattle.lexical.specs.Bytes.{every, same, member}
use Rattle.lexical.specs.Decimal.{digits, decimal}
use Rattle.lexical.specs.Names.{name_shape, name_ok, keywords, alternative_tokens, reserved}
use Rattle.grammar.specs.Rules
use Rattle.grammar.proofs.Parser

unfoldable pub computes : Unit {0}
unfolding every same member digits decimal name_shape name_ok keywords alternative_tokens reserved Rules.is_symbol Rules.full_name_ok Rules.levels Rules.base_levels Rules.deepest Rules.type_count Rules.parts_ok Rules.base_ok Rules.all_parts_ok Rules.at_most_one Rules.few_arguments Rules.result_ok Rules.declared_ok Rules.is_self Rules.is_slot Rules.declaration_ok Rules.layout_ok Rules.head_ok Rules.argument_ok Rules.local_ok Rules.operand_ok Rules.is_receiver Rules.is_slot_address Rules.form_ok Rules.call_ok Rules.comments_ok Rules.shim_ok Rules.item_ok Rules.body_ok Rules.forward_line_ok Rules.forward_ok Rules.text_ok Parser.result_p Parser.parameter_p Parser.operand_p Parser.local_p Parser.form_p Parser.close_p Parser.call_p Parser.error_test_p Parser.ending_p Parser.tail_p Parser.parameters_p Parser.item_p Parser.closing_p Parser.line_p Parser.text_p
computes = tt
