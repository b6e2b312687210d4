use Rattle.std.proofs.Common.{◌+◌, ◌*◌}
use Rattle.rv_operation.proofs.Weights.{number_weight, numbers_weight, text_weight, bit_weight, pointer_weight}
use Rattle.rv_operation.proofs.Weights.{offset_weight, reference_weight, argument_weight, arguments_weight}
use Rattle.rv_operation.proofs.Weights.{stored_weight}
use Rattle.rv_expr.proofs.+walk.Given as goal

abbrev pub decreases-expression::number_code : goal.decreases-expression::number_code
decreases-expression::number_code l = 5 * number_weight l.number.now

abbrev pub decreases-expression::text_code : goal.decreases-expression::text_code
decreases-expression::text_code l = 5 * text_weight l.text.now

abbrev pub decreases-expression::bit_code : goal.decreases-expression::bit_code
decreases-expression::bit_code l = 5 * bit_weight l.bit.now

abbrev pub decreases-expression::reference_code : goal.decreases-expression::reference_code
decreases-expression::reference_code l = 5 * reference_weight l.reference.now + 3

abbrev pub decreases-expression::waiting_code : goal.decreases-expression::waiting_code
decreases-expression::waiting_code l = 5 * reference_weight l.reference.now

abbrev pub decreases-expression::waiting_locator : goal.decreases-expression::waiting_locator
decreases-expression::waiting_locator l = 5 * reference_weight l.reference.now + 1

abbrev pub decreases-expression::subscripted_code : goal.decreases-expression::subscripted_code
decreases-expression::subscripted_code l = 5 * numbers_weight l.subscripts.now + 1

abbrev pub decreases-expression::locator_code : goal.decreases-expression::locator_code
decreases-expression::locator_code l = 5 * reference_weight l.reference.now

abbrev pub decreases-expression::subscripts_code : goal.decreases-expression::subscripts_code
decreases-expression::subscripts_code l = 5 * numbers_weight l.subscripts.now

abbrev pub decreases-expression::call_code : goal.decreases-expression::call_code
decreases-expression::call_code l = 5 * arguments_weight l.arguments.now + 1

abbrev pub decreases-expression::arguments_code : goal.decreases-expression::arguments_code
decreases-expression::arguments_code l = 5 * arguments_weight l.arguments.now

abbrev pub decreases-expression::argument_code : goal.decreases-expression::argument_code
decreases-expression::argument_code l = 5 * argument_weight l.argument.now

abbrev pub decreases-expression::stored_code : goal.decreases-expression::stored_code
decreases-expression::stored_code l = 5 * stored_weight l.stored.now

abbrev pub decreases-expression::loaded_code : goal.decreases-expression::loaded_code
decreases-expression::loaded_code l = 5 * reference_weight l.reference.now + 4

abbrev pub decreases-expression::reached_code : goal.decreases-expression::reached_code
decreases-expression::reached_code l = 5 * reference_weight l.reference.now + 1

abbrev pub decreases-expression::standing_code : goal.decreases-expression::standing_code
decreases-expression::standing_code l = 5 * reference_weight l.reference.now

abbrev pub decreases-expression::behind_code : goal.decreases-expression::behind_code
decreases-expression::behind_code l = 5 * reference_weight l.reference.now + 2

abbrev pub decreases-number::text_number : goal.decreases-number::text_number
decreases-number::text_number l = 5 * text_weight l.text.now + 1

abbrev pub decreases-number::signed_number : goal.decreases-number::signed_number
decreases-number::signed_number l = 5 * number_weight l.operand.now + 1

abbrev pub decreases-number::absolute_number : goal.decreases-number::absolute_number
decreases-number::absolute_number l = 5 * number_weight l.operand.now + 1

abbrev pub decreases-number::sign_number : goal.decreases-number::sign_number
decreases-number::sign_number l = 5 * number_weight l.operand.now + 1

abbrev pub decreases-number::calculated_number : goal.decreases-number::calculated_number
decreases-number::calculated_number l = 5 * (number_weight l.left.now + number_weight l.right.now) + 3

abbrev pub decreases-number::extreme_number : goal.decreases-number::extreme_number
decreases-number::extreme_number l = 5 * (number_weight l.first.now + numbers_weight l.more.now) + 1

abbrev pub decreases-number::modulo_number : goal.decreases-number::modulo_number
decreases-number::modulo_number l = 5 * (number_weight l.dividend.now + number_weight l.divisor.now) + 3

abbrev pub decreases-number::divided_number : goal.decreases-number::divided_number
decreases-number::divided_number l = 5 * (number_weight l.dividend.now + number_weight l.divisor.now) + 3

abbrev pub decreases-number::length_number : goal.decreases-number::length_number
decreases-number::length_number l = 5 * text_weight l.text.now + 1

abbrev pub decreases-number::index_number : goal.decreases-number::index_number
decreases-number::index_number l = 5 * (text_weight l.searched.now + text_weight l.sought.now) + 1

abbrev pub decreases-number::verify_number : goal.decreases-number::verify_number
decreases-number::verify_number l = 5 * (text_weight l.searched.now + text_weight l.allowed.now) + 1

abbrev pub decreases-number::bound_number : goal.decreases-number::bound_number
decreases-number::bound_number l = 5 * reference_weight l.array.now + 1

abbrev pub decreases-number::both_numbers : goal.decreases-number::both_numbers
decreases-number::both_numbers l = 5 * (number_weight l.left.now + number_weight l.right.now) + 2

abbrev pub decreases-number::right_number : goal.decreases-number::right_number
decreases-number::right_number l = 5 * number_weight l.right.now + 1

abbrev pub decreases-number::extremes_code : goal.decreases-number::extremes_code
decreases-number::extremes_code l = 5 * numbers_weight l.more.now

abbrev pub decreases-text::text_in : goal.decreases-text::text_in
decreases-text::text_in l = 5 * reference_weight l.reference.now + 4

abbrev pub decreases-text::number_text : goal.decreases-text::number_text
decreases-text::number_text l = 5 * number_weight l.number.now + 1

abbrev pub decreases-text::bit_text : goal.decreases-text::bit_text
decreases-text::bit_text l = 5 * bit_weight l.bit.now + 1

abbrev pub decreases-text::joined_text : goal.decreases-text::joined_text
decreases-text::joined_text l = 5 * (text_weight l.left.now + text_weight l.right.now) + 1

abbrev pub decreases-text::end_text : goal.decreases-text::end_text
decreases-text::end_text l = 5 * (text_weight l.text.now + number_weight l.start.now) + 1

abbrev pub decreases-text::part_text : goal.decreases-text::part_text
decreases-text::part_text l = 5 * (text_weight l.text.now + number_weight l.start.now + number_weight l.count.now) + 1

abbrev pub decreases-bit::text_bit : goal.decreases-bit::text_bit
decreases-bit::text_bit l = 5 * text_weight l.text.now + 1

abbrev pub decreases-bit::negated_bit : goal.decreases-bit::negated_bit
decreases-bit::negated_bit l = 5 * bit_weight l.operand.now + 1

abbrev pub decreases-bit::combined_bit : goal.decreases-bit::combined_bit
decreases-bit::combined_bit l = 5 * (bit_weight l.left.now + bit_weight l.right.now) + 3

abbrev pub decreases-bit::numbers_compared : goal.decreases-bit::numbers_compared
decreases-bit::numbers_compared l = 5 * (number_weight l.left.now + number_weight l.right.now) + 3

abbrev pub decreases-bit::both_texts_compared : goal.decreases-bit::both_texts_compared
decreases-bit::both_texts_compared l = 5 * (text_weight l.left.now + text_weight l.right.now) + 1

abbrev pub decreases-bit::bits_compared : goal.decreases-bit::bits_compared
decreases-bit::bits_compared l = 5 * (bit_weight l.left.now + bit_weight l.right.now) + 3

abbrev pub decreases-bit::both_offsets_compared : goal.decreases-bit::both_offsets_compared
decreases-bit::both_offsets_compared l = 5 * (offset_weight l.left.now + offset_weight l.right.now) + 1

abbrev pub decreases-bit::both_bits : goal.decreases-bit::both_bits
decreases-bit::both_bits l = 5 * (bit_weight l.left.now + bit_weight l.right.now) + 2

abbrev pub decreases-bit::right_bit : goal.decreases-bit::right_bit
decreases-bit::right_bit l = 5 * bit_weight l.right.now + 1

abbrev pub decreases-locator::pointers_compared : goal.decreases-locator::pointers_compared
decreases-locator::pointers_compared l = 5 * (pointer_weight l.left.now + pointer_weight l.right.now) + 4

abbrev pub decreases-locator::null_told : goal.decreases-locator::null_told
decreases-locator::null_told l = 5 * pointer_weight l.pointer.now + 3

abbrev pub decreases-locator::names_told : goal.decreases-locator::names_told
decreases-locator::names_told l = 5 * (pointer_weight l.left.now + pointer_weight l.right.now) + 3

abbrev pub decreases-locator::operand_kept : goal.decreases-locator::operand_kept
decreases-locator::operand_kept l = 5 * pointer_weight l.pointer.now + 2

abbrev pub decreases-locator::pointer_code : goal.decreases-locator::pointer_code
decreases-locator::pointer_code l = 5 * pointer_weight l.pointer.now + 1

abbrev pub decreases-locator::pointer_to : goal.decreases-locator::pointer_to
decreases-locator::pointer_to l = 5 * pointer_weight l.pointer.now

abbrev pub decreases-locator::address_kept : goal.decreases-locator::address_kept
decreases-locator::address_kept l = 5 * reference_weight l.reference.now + 1

abbrev pub decreases-locator::offset_code : goal.decreases-locator::offset_code
decreases-locator::offset_code l = 5 * offset_weight l.offset.now

abbrev pub decreases-locator::offset_told : goal.decreases-locator::offset_told
decreases-locator::offset_told l = 5 * pointer_weight l.pointer.now + 2

abbrev pub decreases-locator::pointer_in : goal.decreases-locator::pointer_in
decreases-locator::pointer_in l = 5 * reference_weight l.reference.now + 4

abbrev pub decreases-locator::pointer_from : goal.decreases-locator::pointer_from
decreases-locator::pointer_from l = 5 * arguments_weight l.arguments.now + 2

abbrev pub decreases-locator::address_code : goal.decreases-locator::address_code
decreases-locator::address_code l = 5 * reference_weight l.reference.now + 2

abbrev pub decreases-locator::pointer_into : goal.decreases-locator::pointer_into
decreases-locator::pointer_into l = 5 * offset_weight l.offset.now + 1

abbrev pub decreases-locator::offset_into : goal.decreases-locator::offset_into
decreases-locator::offset_into l = 5 * pointer_weight l.pointer.now + 3
