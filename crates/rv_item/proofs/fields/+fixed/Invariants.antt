use Rattle.std.proofs.Common.{suc, ◌*◌}
use Rattle.pli_language.specs.View.{format_of, formats_of}
use Rattle.rv_data.specs.Waiting.{formats_weight, inside_weight}
use Rattle.rv_item.proofs.fields.+fixed.Given as goal

abbrev pub decreases-has_fixed : goal.decreases-has_fixed
decreases-has_fixed l = 2 * formats_weight (formats_of l.formats.now)

abbrev pub decreases-is_fixed : goal.decreases-is_fixed
decreases-is_fixed l = suc (2 * inside_weight (format_of l.format.now))
