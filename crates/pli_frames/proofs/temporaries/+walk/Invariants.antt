use Rattle.std.proofs.Common.{◌+◌, ◌*◌}
use Rattle.pli_frames.proofs.Weights.{number_weight, numbers_weight, text_weight, bit_weight, pointer_weight}
use Rattle.pli_frames.proofs.Weights.{offset_weight, reference_weight, argument_weight, arguments_weight}
use Rattle.pli_frames.proofs.Weights.{stored_weight}
use Rattle.pli_frames.proofs.temporaries.+walk.Given as goal

abbrev pub decreases-most_of_number : goal.decreases-most_of_number
decreases-most_of_number l = 2 * number_weight l.number.now

abbrev pub decreases-most_of_numbers : goal.decreases-most_of_numbers
decreases-most_of_numbers l = 2 * numbers_weight l.numbers.now

abbrev pub decreases-most_of_text : goal.decreases-most_of_text
decreases-most_of_text l = 2 * text_weight l.text.now

abbrev pub decreases-most_of_bit : goal.decreases-most_of_bit
decreases-most_of_bit l = 2 * bit_weight l.bit.now

abbrev pub decreases-most_of_pointer : goal.decreases-most_of_pointer
decreases-most_of_pointer l = 2 * pointer_weight l.pointer.now

abbrev pub decreases-most_of_offset : goal.decreases-most_of_offset
decreases-most_of_offset l = 2 * offset_weight l.offset.now

abbrev pub decreases-most_of_reference : goal.decreases-most_of_reference
decreases-most_of_reference l = 2 * reference_weight l.reference.now

abbrev pub decreases-most_of_subscripts : goal.decreases-most_of_subscripts
decreases-most_of_subscripts l = 2 * numbers_weight l.subscripts.now

abbrev pub decreases-most_of_call : goal.decreases-most_of_call
decreases-most_of_call l = 2 * arguments_weight l.arguments.now + 1

abbrev pub decreases-most_of_arguments : goal.decreases-most_of_arguments
decreases-most_of_arguments l = 2 * arguments_weight l.arguments.now

abbrev pub decreases-most_of_argument : goal.decreases-most_of_argument
decreases-most_of_argument l = 2 * argument_weight l.argument.now

abbrev pub decreases-most_of_stored : goal.decreases-most_of_stored
decreases-most_of_stored l = 2 * stored_weight l.stored.now
